use Rattle.pc_detail_rules.proofs.Spelled.Texts.{own_of_texts}
use Rattle.pc_detail_rules.proofs.laws.texts_have_own_places.Goals as goal

pub returns : goal.returns
returns c = own_of_texts
