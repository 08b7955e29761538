use Rattle.pc_sound.proofs.Modules.Loading.{loading_is_sound}
use Rattle.pc_sound.proofs.outside_laws.loading_is_sound.Goals as goal

pub returns : goal.returns
returns c = loading_is_sound
