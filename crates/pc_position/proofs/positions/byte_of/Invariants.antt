use Rattle.std.proofs.Common.{◌≡◌, ◌<◌, ℕ, List, Option, None, Some}
use Rattle.pc_position.specs.declared.positions.Encoding.{Encoding}
use Rattle.pc_position.specs.declared.positions.Position.{Position}
use Rattle.pc_position.specs.Positions.{IsPositionOf}
use Rattle.pc_position.proofs.positions.byte_of.Given as goal

-- the last byte at the position among those below an end
abbrev pub IsLastBelow : Encoding → List ℕ → Position → ℕ → Option ℕ → Type 0
IsLastBelow encoding text position end None = (byte : ℕ) → byte < end → ¬ (IsPositionOf encoding text byte position)
IsLastBelow encoding text position end (Some found) = (found < end) × IsPositionOf encoding text found position
    × ((later : ℕ) → found < later → later < end → ¬ (IsPositionOf encoding text later position))

abbrev pub invariant-loop-byte : goal.invariant-loop-byte
invariant-loop-byte l = record {
  known : IsPositionOf l.encoding l.text l.known.byte l.known.position;
  found : IsLastBelow l.encoding l.text l.position l.byte l.found;
}
