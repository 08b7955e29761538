use Rattle.pc_module_rules.proofs.NamedModules.{names_noted}
use Rattle.pc_module_rules.proofs.type_laws.names_are_noted.Goals as goal

pub returns : goal.returns
returns c = names_noted
