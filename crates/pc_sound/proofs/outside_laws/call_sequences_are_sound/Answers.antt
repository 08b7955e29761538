use Rattle.pc_sound.proofs.Modules.Loading.{call_sequences_are_sound}
use Rattle.pc_sound.proofs.outside_laws.call_sequences_are_sound.Goals as goal

pub returns : goal.returns
returns c = call_sequences_are_sound
