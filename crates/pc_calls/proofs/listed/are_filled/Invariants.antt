use Rattle.std.proofs.Common.{◌≡◌, ◌≤◌, ℕ, suc, length, true, false}
use Rattle.std.specs.Prelude.{slice_get}
use Rattle.pc_class.specs.Listings.{listed_in}
use Rattle.pc_class.specs.Listed.{is_defaulted}
use Rattle.pc_calls.specs.JudgedCalls.{names_in}
use Rattle.pc_calls.proofs.ListedCalls.{filled_past}
use Rattle.pc_calls.proofs.listed.are_filled.Given as goal

abbrev pub invariant-loop-end : goal.invariant-loop-end
invariant-loop-end g l = record {
  within : l.end ≤ length (listed_in l.params);
  plain : (j : ℕ) → l.end ≡ suc j → is_defaulted (slice_get (listed_in l.params) j) ≡ false;
  filled : filled_past (names_in l.given.named) (listed_in l.params) l.end ≡ true;
}

abbrev pub decreases-loop-end : goal.decreases-loop-end
decreases-loop-end g l = l.end
