use Rattle.std.proofs.Common.{arith, sym}
use Rattle.std.specs.Prelude.{◌||◌}
use Rattle.pc_rules.specs.Operations.{is_any, has_side}
use Rattle.pc_operations.specs.Internal.OperandPairs.{takes_of}
use Rattle.pc_operations.proofs.Displayed.{all_later, not_all, all_so}
use Rattle.pc_operations.proofs.kinds.may_suit_all.Goals as goal

pub loop-ty-preserved : goal.loop-ty-preserved
loop-ty-preserved g c = all_later g.S.TypeStore.tree (λ t. is_any t || has_side (takes_of c.args.operator) t)
    c.args.types.now c.loop-ty.ty-index c.ty-item.result c.loop-ty-test.true c.ty-item.is
    (sym c.if-not-may_suit.ensures) c.loop-ty.invariant

pub returns-then-not-may_suit : goal.returns-then-not-may_suit
returns-then-not-may_suit g c = not_all g.S.TypeStore.tree (λ t. is_any t || has_side (takes_of c.args.operator) t)
    c.args.types.now c.loop-ty.ty-index c.ty-item.result c.loop-ty-test.true c.ty-item.is
    (sym c.if-not-may_suit.ensures) c.loop-ty.invariant

pub returns : goal.returns
returns g c = all_so g.S.TypeStore.tree (λ t. is_any t || has_side (takes_of c.args.operator) t) c.args.types.now
    c.loop-ty.ty-index (omega arith) c.loop-ty.invariant
