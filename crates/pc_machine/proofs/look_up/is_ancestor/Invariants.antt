use Rattle.std.proofs.Common.{◌≡◌, drop}
use Rattle.pc_machine.specs.Calls.{is_ancestor}
use Rattle.pc_machine.proofs.look_up.is_ancestor.Given as goal

abbrev pub invariant-loop-ancestor : goal.invariant-loop-ancestor
invariant-loop-ancestor l = is_ancestor l.class (drop l.ancestor-index l.ancestors) ≡ is_ancestor l.class l.ancestors
