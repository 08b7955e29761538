use Rattle.std.proofs.Common.{◌≡◌}
use Rattle.pc_position.specs.Positions.{line_at, character_at}
use Rattle.pc_position.proofs.positions.mark_after.Given as goal

abbrev pub invariant-loop-at : goal.invariant-loop-at
invariant-loop-at l = record {
  line : l.line ≡ line_at l.text l.at;
  character : l.character ≡ character_at l.encoding l.text l.at;
}
