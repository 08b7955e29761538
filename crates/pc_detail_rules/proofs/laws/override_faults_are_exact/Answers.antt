use Rattle.pc_detail_rules.proofs.OverrideFaults.{override_faults_exact}
use Rattle.pc_detail_rules.proofs.laws.override_faults_are_exact.Goals as goal

pub returns : goal.returns
returns c = override_faults_exact
