use Rattle.pc_module_rules.proofs.TypedModules.{types_noted}
use Rattle.pc_module_rules.proofs.type_laws.types_are_noted.Goals as goal

pub returns : goal.returns
returns c = types_noted
