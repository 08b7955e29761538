use Rattle.std.proofs.Common.{◌≡◌, drop, map}
use Rattle.std.specs.Prelude.{◌||◌}
use Rattle.std.specs.List.{list_all}
use Rattle.pc_rules.specs.Operations.{is_any, has_side}
use Rattle.pc_operations.specs.Internal.OperandPairs.{takes_of}
use Rattle.pc_operations.proofs.kinds.may_suit_all.Given as goal

abbrev pub invariant-loop-ty : goal.invariant-loop-ty
invariant-loop-ty g l = list_all (λ t. is_any t || has_side (takes_of l.operator) t)
    (drop l.ty-index (map g.S.TypeStore.tree l.types)) ≡ list_all (λ t. is_any t || has_side (takes_of l.operator) t)
    (map g.S.TypeStore.tree l.types)
