use Rattle.std.proofs.Common.{◌≡◌, ◌≤◌, ◌-◌, length, drop}
use Rattle.std.specs.Prelude.{slice_range}
use Rattle.pc_token.specs.Strings.{IsBody}
use Rattle.pc_token.proofs.StringBodies.{Closes}
use Rattle.pc_token.proofs.string.string_len.Given as goal

abbrev pub invariant-loop-at : goal.invariant-loop-at
invariant-loop-at l = record {
  some : 1 ≤ l.at;
  within : length l.bytes ≡ 0 → ⊥;
  body : IsBody l.quote (slice_range l.bytes 1 l.at);
  goes : Closes l.quote (drop 1 l.bytes) → Closes l.quote (drop l.at l.bytes);
}

abbrev pub decreases-loop-at : goal.decreases-loop-at
decreases-loop-at l = length l.bytes - l.at
