use Rattle.pc_detail_rules.proofs.Explained.WrongCalls.{wrong_calls}
use Rattle.pc_detail_rules.proofs.laws.wrong_calls_have_misfits.Goals as goal

pub returns : goal.returns
returns c = wrong_calls
