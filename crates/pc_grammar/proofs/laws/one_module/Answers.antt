use Rattle.pc_grammar.proofs.CompleteModules.{spells_one}
use Rattle.pc_grammar.proofs.laws.one_module.Goals as goal

pub returns : goal.returns
returns c = λ m n ts. spells_one m n ts
