use Rattle.std.proofs.Common.{◌≡◌, ◌≤◌, ◌+◌, ℕ, length}
use Rattle.std.specs.Prelude.{Some, slice_get}
use Rattle.pc_class.specs.Listed.{needed_in}
use Rattle.pc_class.proofs.listed.needed_of.Given as goal

abbrev pub invariant-loop-i : goal.invariant-loop-i
invariant-loop-i g l = record {
  last : l.last ≡ needed_in l.params l.i;
  many : length l.needed.items ≡ l.i + 1;
  each : (k : ℕ) → k ≤ l.i → slice_get l.needed.items k ≡ Some (needed_in l.params k);
}
