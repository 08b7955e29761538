use Rattle.std.proofs.Common.{◌≤◌, sym, ◌∙◌, arith}
use Rattle.pc_types.proofs.Leaps.{ends_there, reached_is_below}
use Rattle.pc_types.proofs.parents.Parents.is_within.Goals as goal

pub returns-in-None-clause-below : goal.returns-in-None-clause-below
returns-in-None-clause-below c =
    reached_is_below c.args.self.now c.ordered.ensures c.args.class c.args.ancestor _
    (sym (c.loop-at.invariant ∙ c.in-None.ensures.above))

pub returns-clause-below : goal.returns-clause-below
returns-clause-below c =
    let l : c.loop-at.at ≤ c.args.ancestor = omega (arith, c.loop-at-test.false) in
    reached_is_below c.args.self.now c.ordered.ensures c.args.class c.args.ancestor _
    (ends_there c.args.self.now c.ordered.ensures c.loop-at.at c.args.ancestor l ∙ sym c.loop-at.invariant)

pub returns-clause-steps : goal.returns-clause-steps
returns-clause-steps c =
    let l : c.loop-at.at ≤ c.args.ancestor = omega (arith, c.loop-at-test.false) in
    ends_there c.args.self.now c.ordered.ensures c.loop-at.at c.args.ancestor l ∙ sym c.loop-at.invariant
