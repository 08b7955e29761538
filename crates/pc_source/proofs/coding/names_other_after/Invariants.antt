use Rattle.std.proofs.Common.{ℕ, ◌<◌, ◌≡◌, true, drop}
use Rattle.std.specs.Prelude.{IsTrue}
use Rattle.pc_source.specs.Coding.{names_other_coding}
use Rattle.pc_source.proofs.coding.names_other_after.Given as goal

abbrev pub invariant-bytes : goal.invariant-bytes
invariant-bytes l = (k : ℕ) → k < l.k → l.byte < k → IsTrue (names_other_coding (drop k l.line)) → ⊥
