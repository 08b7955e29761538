use Rattle.std.proofs.Common.{ap, sym, ◌∙◌}
use Rattle.pc_types.specs.Head.{part_count}
use Rattle.pc_types.specs.Boxed.{tree_of}
use Rattle.pc_types.proofs.Nodes.{parts_count}
use Rattle.pc_types.proofs.boxed.BoxStoreTypeStore.head.Goals as goal

pub returns-clause-parts : goal.returns-clause-parts
returns-clause-parts c = parts_count (tree_of c.args.ty.now) ∙ ap part_count (sym c.head.ensures)
