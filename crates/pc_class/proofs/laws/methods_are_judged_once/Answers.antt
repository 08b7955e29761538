use Rattle.pc_class.proofs.Judged.{judged_once}
use Rattle.pc_class.proofs.laws.methods_are_judged_once.Goals as goal

pub returns : goal.returns
returns c = judged_once
