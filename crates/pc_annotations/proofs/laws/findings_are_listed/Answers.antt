use Rattle.pc_annotations.proofs.Listing.{all_listed, all_listed_options}
use Rattle.pc_annotations.proofs.laws.findings_are_listed.Goals as goal

pub returns-clause-annotation : goal.returns-clause-annotation
returns-clause-annotation c = all_listed

pub returns-clause-optional : goal.returns-clause-optional
returns-clause-optional c = all_listed_options
