use Rattle.pc_grammar.proofs.Front.{fronts_agree}
use Rattle.pc_grammar.proofs.laws.fronts.Goals as goal

pub returns : goal.returns
returns c = fronts_agree
