use Rattle.std.proofs.Common.{List, map}
use Rattle.std.specs.Borrow.{Bor}
use Rattle.pc_tree.specs.Tree.{Constant}
use Rattle.pc_tree.specs.declared.tree.Constant.{Constant as RustConstant}
use Rattle.pc_scope.specs.declared.resolution.Owner.TheVariants as owners
use Rattle.pc_detail_facts.specs.Held.{constant_lent}
use Rattle.pc_flow_details.specs.Kept.{taken_below}
use Rattle.pc_flow_details.proofs.Kept.{LeftOf}
use Rattle.pc_flow_details.proofs.sinks.search_constants.Given as goal

abbrev pub invariant-loop-constant : goal.invariant-loop-constant
invariant-loop-constant l = LeftOf l.facts (λ (xs : List (Bor RustConstant)). taken_below l.facts owners.Module
    (map (λ (c : Constant). c.value) (map constant_lent xs)))
    l.constant-items l.constant-index l.sinks l.fn.sinks
