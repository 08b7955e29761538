use Rattle.pc_report.proofs.ReadJson.{json_is_read_back}
use Rattle.pc_report.proofs.ReadText.{text_is_read_back}
use Rattle.pc_report.proofs.laws.reports_are_read_back.Goals as goal

pub returns-clause-json : goal.returns-clause-json
returns-clause-json c = json_is_read_back

pub returns-clause-text : goal.returns-clause-text
returns-clause-text c = text_is_read_back
