use Rattle.pc_sound.proofs.Modules.CallsFromOutside.{calls_are_sound}
use Rattle.pc_sound.proofs.outside_laws.calls_from_outside_are_sound.Goals as goal

pub returns : goal.returns
returns c = calls_are_sound
