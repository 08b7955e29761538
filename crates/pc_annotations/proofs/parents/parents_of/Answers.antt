use Rattle.std.proofs.Common.{◌≡◌, subst, sym, ◌∙◌}
use Rattle.pc_tree.specs.Tree.{module_of}
use Rattle.pc_types.specs.Below.{AreSmaller}
use Rattle.pc_annotations.specs.Bases.{bases_of}
use Rattle.pc_annotations.proofs.Earlier.{smaller}
use Rattle.pc_annotations.proofs.ParentsOf.{all_walked}
use Rattle.pc_annotations.proofs.parents.parents_of.Goals as goal

-- the base of each class stands before it, so that there are parents
pub unreachable-requires : goal.unreachable-requires
unfolding bases_of
unreachable-requires c =
    let e : c.loop-item.bases.items ≡ bases_of (module_of c.args.tree.now) = all_walked (module_of c.args.tree.now)
    c.deref-item-items.result.now _ c.loop-item.bases.items c.loop-item.item-index c.deref-item-items.ensures.value
    c.loop-item-test.false c.loop-item.invariant in
    c.in-None.ensures (subst AreSmaller (sym e) (smaller (module_of c.args.tree.now)))

pub returns : goal.returns
unfolding bases_of
returns c =
    c.in_ok-with_leaps-in-Some.ensures ∙ c.in-Some.ensures.1
    ∙ all_walked (module_of c.args.tree.now) c.deref-item-items.result.now _ c.loop-item.bases.items
    c.loop-item.item-index c.deref-item-items.ensures.value c.loop-item-test.false c.loop-item.invariant
