use Rattle.test_layers.proofs.HeldLocals.{AreHeld}
use Rattle.test_layers.proofs.locals.declared_types.Given as goal

abbrev pub invariant-loop-param : goal.invariant-loop-param
invariant-loop-param l = AreHeld l.row.outline.now.parents.now l.declared
