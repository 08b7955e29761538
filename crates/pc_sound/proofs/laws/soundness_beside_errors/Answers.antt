use Rattle.pc_sound.proofs.Modules.Soundness.{sound_beside_errors}
use Rattle.pc_sound.proofs.laws.soundness_beside_errors.Goals as goal

pub returns : goal.returns
returns c = sound_beside_errors
