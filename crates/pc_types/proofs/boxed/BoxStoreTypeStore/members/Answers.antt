use Rattle.pc_types.proofs.Nodes.{members_given}
use Rattle.pc_types.proofs.boxed.BoxStoreTypeStore.members.Goals as goal

pub returns-clause-held : goal.returns-clause-held
returns-clause-held c = members_given c.args.ty.now _ c.requires c.members.ensures
