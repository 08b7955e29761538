use Rattle.pc_types.proofs.Nodes.{parts_given}
use Rattle.pc_types.proofs.boxed.BoxStoreTypeStore.parts.Goals as goal

pub returns-clause-held : goal.returns-clause-held
returns-clause-held c = parts_given c.args.ty.now _ c.requires c.parts.ensures
