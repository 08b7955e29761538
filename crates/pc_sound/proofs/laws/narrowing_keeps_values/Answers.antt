use Rattle.pc_sound.proofs.Values.Narrowing.{passing_keeps, failing_keeps}
use Rattle.pc_sound.proofs.laws.narrowing_keeps_values.Goals as goal

pub returns : goal.returns
returns c = record { passing = passing_keeps; failing = failing_keeps }
