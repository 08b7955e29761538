use Rattle.std.proofs.Common.{◌≡◌, ◌<◌, ℕ, Some, below_more}
use Rattle.pc_types.specs.Below.{base_of}
use Rattle.pc_types.proofs.Truth.{is_no}
use Rattle.pc_types.proofs.parents.Parents.new.Goals as goal

pub loop-i-preserved : goal.loop-i-preserved
loop-i-preserved c =
    below_more (λ k. (b : ℕ) → base_of c.args.bases.items k ≡ Some b → b < k) c.loop-i.i c.loop-i.invariant
    (rw c.deref.ensures.value at (c.has_smaller_base.ensures.0 c.if-not-has_smaller_base.false))

pub returns-then-not-has_smaller_base : goal.returns-then-not-has_smaller_base
returns-then-not-has_smaller_base c =
    λ h. is_no c.if-not-has_smaller_base.true (rw c.deref.ensures.value at c.has_smaller_base.ensures) (h c.loop-i.i)
