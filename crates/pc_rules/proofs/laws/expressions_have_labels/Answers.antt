use Rattle.pc_rules.proofs.ComputedLawful.{has_labels, lawful_labels_well_formed}
use Rattle.pc_rules.proofs.laws.expressions_have_labels.Goals as goal

pub returns : goal.returns
returns c = record { labels = has_labels; types = lawful_labels_well_formed }
