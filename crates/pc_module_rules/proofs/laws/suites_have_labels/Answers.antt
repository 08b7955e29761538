use Rattle.pc_module_rules.proofs.LabelledStatements.{stmt_labelled, suite_labelled}
use Rattle.pc_module_rules.proofs.laws.suites_have_labels.Goals as goal

pub returns : goal.returns
returns c = record { statement = stmt_labelled; suite = suite_labelled }
