use Rattle.pc_annotations.proofs.whole.read_option.Goals as goal

pub returns-in-Some-clause-found : goal.returns-in-Some-clause-found
returns-in-Some-clause-found g c = rw c.in-Some.is c.read_ann.ensures.found
