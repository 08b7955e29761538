use Rattle.pc_sound.proofs.Border.Fitting.{fitting_is_right, fitting_calls_are_sound, fitting_sequences_are_sound}
use Rattle.pc_sound.proofs.outside_laws.fitting_is_right.Goals as goal

pub returns : goal.returns
returns c = record {
  right = fitting_is_right;
  sound = fitting_calls_are_sound;
  goes_on = fitting_sequences_are_sound;
}
