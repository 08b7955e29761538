use Rattle.pc_module_rules.proofs.TypedModules.{first_types_noted}
use Rattle.pc_module_rules.proofs.type_laws.first_types_are_noted.Goals as goal

pub returns : goal.returns
returns c = first_types_noted
