use Rattle.std.proofs.Common.{◌≡◌, map, ◌++◌}
use Rattle.pc_machine.specs.Machine.{local_of}
use Rattle.pc_machine.proofs.calls.frame_of.Given as goal

abbrev pub invariant-loop-argument : goal.invariant-loop-argument
invariant-loop-argument l = map local_of l.frame.items ≡ map local_of l.initial.frame.items ++ map local_of l.yielded
