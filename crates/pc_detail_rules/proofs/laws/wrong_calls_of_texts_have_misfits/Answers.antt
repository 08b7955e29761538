use Rattle.pc_detail_rules.proofs.Spelled.Texts.{wrong_calls_of_texts}
use Rattle.pc_detail_rules.proofs.laws.wrong_calls_of_texts_have_misfits.Goals as goal

pub returns : goal.returns
returns c = wrong_calls_of_texts
