use Rattle.std.proofs.Common.{ap, sym, subst, ◌∙◌}
use Rattle.pc_types.specs.Head.{head_of, part_count}
use Rattle.pc_types.specs.Boxed.{tree_of}
use Rattle.pc_types.proofs.Nodes.{parts_count}
use Rattle.pc_intern.specs.Store.{tree_of_type, IsInterned}
use Rattle.pc_intern.proofs.Places.{at_map}
use Rattle.pc_intern.proofs.store.InternStoreTypeStore.head.Goals as goal

pub returns-clause-parts : goal.returns-clause-parts
returns-clause-parts c =
    let h : IsInterned c.self.inside.table c.args.ty.now = subst (λ l. IsInterned l c.args.ty.now) (sym c.self.view_is)
    c.requires in
    let b = at_map tree_of c.self.inside.table c.args.ty.now.number (tree_of_type c.args.ty.now) h.at in
    parts_count (tree_of_type c.args.ty.now) ∙ ap part_count (sym (c.head.ensures b.0 b.1 ∙ ap head_of b.2))
