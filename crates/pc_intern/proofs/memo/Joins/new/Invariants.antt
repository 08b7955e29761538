use Rattle.std.proofs.Common.{◌≡◌, All, None, length}
use Rattle.pc_intern.proofs.memo.Joins.new.Given as goal

abbrev pub invariant-loop-place : goal.invariant-loop-place
invariant-loop-place l = (length l.places.items ≡ l.place) × All (λ o. o ≡ None) l.places.items
