use Rattle.pc_detail_rules.proofs.Spelled.Texts.{every_explained_of_texts}
use Rattle.pc_detail_rules.proofs.laws.every_finding_of_texts_is_explained.Goals as goal

pub returns : goal.returns
returns c = every_explained_of_texts
