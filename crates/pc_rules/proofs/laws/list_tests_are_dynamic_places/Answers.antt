use Rattle.pc_rules.proofs.ListTests.{list_tests_are_dynamic}
use Rattle.pc_rules.proofs.laws.list_tests_are_dynamic_places.Goals as goal

pub returns : goal.returns
returns c = list_tests_are_dynamic
