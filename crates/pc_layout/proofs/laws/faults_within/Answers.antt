use Rattle.pc_layout.proofs.WithinText.{faults_within}
use Rattle.pc_layout.proofs.laws.faults_within.Goals as goal

pub returns : goal.returns
returns c = faults_within
