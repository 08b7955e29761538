use Rattle.pc_module_rules.proofs.WalkedModule.{constants_have_types, signatures_say, modules_say, modules_find}
use Rattle.pc_module_rules.proofs.WalkedModule.{findings_computed}
use Rattle.pc_module_rules.proofs.laws.modules_find_what_labels_say.Goals as goal

pub returns : goal.returns
returns c = record {
  constants = constants_have_types;
  signatures = signatures_say;
  adds = modules_say;
  found = modules_find;
  all = findings_computed;
}
