use Rattle.pc_sound.proofs.Values.Joins.{join_holds}
use Rattle.pc_sound.proofs.laws.joins_keep_values.Goals as goal

pub returns : goal.returns
returns c = join_holds
