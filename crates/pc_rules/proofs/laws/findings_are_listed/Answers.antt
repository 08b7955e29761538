use Rattle.pc_rules.proofs.FoundList.{findings_listed}
use Rattle.pc_rules.proofs.laws.findings_are_listed.Goals as goal

pub returns : goal.returns
returns c = findings_listed
