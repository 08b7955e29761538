use Rattle.pc_class.proofs.EachAncestor.{judged_against_each}
use Rattle.pc_class.proofs.laws.methods_are_judged_against_each_ancestor.Goals as goal

pub returns : goal.returns
returns c = judged_against_each
