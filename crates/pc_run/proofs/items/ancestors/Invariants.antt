use Rattle.std.proofs.Common.{◌≡◌, ◌++◌, ◌∷◌, drop, map}
use Rattle.pc_run.proofs.items.ancestors.Given as goal

abbrev pub invariant-loop-ancestor : goal.invariant-loop-ancestor
invariant-loop-ancestor l = l.numbers.items ++ drop l.ancestor-index l.ancestor-items ≡ l.number ∷ l.ancestor-items
