use Rattle.pc_top.proofs.OneReport.{one_report, one_text}
use Rattle.pc_top.proofs.laws.one_report.Goals as goal

pub returns-clause-rows : goal.returns-clause-rows
returns-clause-rows c = one_report

pub returns-clause-written : goal.returns-clause-written
returns-clause-written c = one_text
