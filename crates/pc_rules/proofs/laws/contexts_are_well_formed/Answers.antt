use Rattle.pc_rules.proofs.Contexts.{bodies_well_formed, initializers_well_formed}
use Rattle.pc_rules.proofs.laws.contexts_are_well_formed.Goals as goal

pub returns : goal.returns
returns c = record { bodies = bodies_well_formed; initializers = initializers_well_formed }
