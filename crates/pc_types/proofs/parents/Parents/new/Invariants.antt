use Rattle.std.proofs.Common.{◌≡◌, ℕ, Some, ◌<◌}
use Rattle.pc_types.specs.Below.{base_of}
use Rattle.pc_types.proofs.parents.Parents.new.Given as goal

abbrev pub invariant-loop-i : goal.invariant-loop-i
invariant-loop-i l = (c : ℕ) → c < l.i → (b : ℕ) → base_of l.bases.items c ≡ Some b → b < c
