use Rattle.std.proofs.Common.{arith}
use Rattle.pc_position.proofs.Counts.{character_few}
use Rattle.pc_position.proofs.positions.mark_after.Goals as goal

pub overflow_add-character : goal.overflow_add-character
overflow_add-character c =
    omega (arith, character_few c.args.encoding c.args.text.now c.loop-at.at, c.units_of-character.ensures.few)
