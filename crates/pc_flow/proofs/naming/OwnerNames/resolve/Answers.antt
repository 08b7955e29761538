use Rattle.pc_flow.specs.Naming.{meanings}
use Rattle.pc_flow.proofs.naming.OwnerNames.resolve.Goals as goal

pub returns : goal.returns
unfolding meanings
returns c = c.resolve.ensures.by_tables
