use Rattle.std.proofs.Common.{◌≡◌, ◌++◌, ◌∷◌, drop, map}
use Rattle.pc_machine.specs.Machine.{method_of_def}
use Rattle.pc_run.proofs.items.methods.Given as goal

abbrev pub invariant-loop-method : goal.invariant-loop-method
invariant-loop-method l = map method_of_def l.methods.items ++ map method_of_def (drop l.method-index l.method-items)
    ≡ map method_of_def l.initial.methods.items ++ map method_of_def l.method-items
