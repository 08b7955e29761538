use Rattle.std.proofs.Common.{◌≡◌, length}
use Rattle.test_layers.proofs.HeldLocals.{AreHeld}
use Rattle.test_layers.proofs.locals.assigned.Given as goal

abbrev pub invariant-loop-param : goal.invariant-loop-param
invariant-loop-param l = AreHeld l.row.outline.now.parents.now l.env × (length l.env ≡ 3)
