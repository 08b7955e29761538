use Rattle.std.proofs.Common.{◌≡◌, ◌≤◌, ◌-◌, length, None}
use Rattle.std.specs.Prelude.{replicate}
use Rattle.pc_flow.proofs.locals.no_types.Given as goal

abbrev pub invariant-loop-types : goal.invariant-loop-types
invariant-loop-types g l = (l.types.items ≡ replicate (length l.types.items) None) × (length l.types.items ≤ l.locals)

abbrev pub decreases-loop-types : goal.decreases-loop-types
decreases-loop-types g l = l.locals - length l.types.items
