use Rattle.std.proofs.Common.{sym, subst}
use Rattle.std.specs.Prelude.{◌≤◌}
use Rattle.pc_types.specs.Shape.{nodes, node_limit}
use Rattle.pc_types.specs.Normal.{IsNormal}
use Rattle.pc_types.specs.Tree.{Tree}
use Rattle.pc_flow.specs.Tests.{tested_of}
use Rattle.pc_flow.proofs.Given.{all_kept}
use Rattle.pc_flow.proofs.Members.{is_testable}
use Rattle.pc_flow.proofs.Narrowed.{passing_well_formed, failing_well_formed}
use Rattle.pc_flow.proofs.testing.split_type.Goals as goal

pub union_left-requires-clause-order : goal.union_left-requires-clause-order
union_left-requires-clause-order g c = rw c.deref.ensures.value
    (subst IsNormal (sym c.in_ok-left.ensures.passing) (passing_well_formed c.args.parents.now (tested_of c.args.test) _
    c.ordered.ensures (is_testable c.args.test) c.requires.well_formed).0)

pub union_left-requires-clause-small : goal.union_left-requires-clause-small
union_left-requires-clause-small g c = rw c.deref.ensures.value
    (subst (λ (t : Tree). nodes t ≤ node_limit) (sym c.in_ok-left.ensures.passing)
    (passing_well_formed c.args.parents.now (tested_of c.args.test) _ c.ordered.ensures (is_testable c.args.test)
    c.requires.well_formed).2)

pub union_left-requires-2-clause-order : goal.union_left-requires-2-clause-order
union_left-requires-2-clause-order g c = rw c.deref-2.ensures.value
    (subst IsNormal (sym c.in_ok-left.ensures.failing) (failing_well_formed c.args.parents.now (tested_of c.args.test) _
    c.ordered.ensures c.requires.well_formed).0)

pub union_left-requires-2-clause-small : goal.union_left-requires-2-clause-small
union_left-requires-2-clause-small g c = rw c.deref-2.ensures.value
    (subst (λ (t : Tree). nodes t ≤ node_limit) (sym c.in_ok-left.ensures.failing)
    (failing_well_formed c.args.parents.now (tested_of c.args.test) _ c.ordered.ensures c.requires.well_formed).2)

pub union_left-requires-2-clause-types : goal.union_left-requires-2-clause-types
union_left-requires-2-clause-types g c = rw c.deref-2.ensures.value
    (all_kept g.S.TypeStore.has _ _ c.union_left.ensures.kept c.in_ok-left.left.failing.items
    c.in_ok-left.ensures.given_failing)
