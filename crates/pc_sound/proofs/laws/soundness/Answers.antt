use Rattle.pc_sound.proofs.Modules.Soundness.{sound}
use Rattle.pc_sound.proofs.laws.soundness.Goals as goal

pub returns : goal.returns
returns c = sound
