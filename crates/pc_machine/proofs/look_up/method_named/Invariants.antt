use Rattle.std.proofs.Common.{◌≡◌, drop, map}
use Rattle.pc_machine.specs.Calls.{method_among}
use Rattle.pc_machine.specs.Machine.{method_of_def}
use Rattle.pc_machine.proofs.look_up.method_named.Given as goal

abbrev pub invariant-loop-method : goal.invariant-loop-method
invariant-loop-method l = method_among l.name (map method_of_def (drop l.method-index l.methods)) ≡ method_among l.name
    (map method_of_def l.methods)
