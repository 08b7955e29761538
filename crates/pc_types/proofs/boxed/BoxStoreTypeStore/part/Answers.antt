use Rattle.pc_types.proofs.Nodes.{part_given}
use Rattle.pc_types.proofs.boxed.BoxStoreTypeStore.part.Goals as goal

pub returns : goal.returns
returns c = part_given c.args.ty.now _ c.args.number _ c.requires.ty c.part.ensures c.copy.ensures
