use Rattle.pc_sound.proofs.Values.ValuesFlow.{of_static}
use Rattle.pc_sound.proofs.laws.values_flow_statically.Goals as goal

pub returns : goal.returns
returns c = λ bases k s t v below h. of_static bases k s t below v h
