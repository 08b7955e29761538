use Rattle.std.proofs.Common.{◌≡◌, map, drop, List, ℕ}
use Rattle.std.specs.Prelude.{◌||◌}
use Rattle.pc_tree.specs.Stopping.{is_among}
use Rattle.pc_tree.specs.Names.{texts_in}
use Rattle.pc_machine.specs.Calls.{is_parameter}
use Rattle.pc_machine.specs.Machine.{parameter_of}
use Rattle.pc_machine.proofs.calls.parameter_names.Given as goal

abbrev pub invariant-loop-parameter : goal.invariant-loop-parameter
invariant-loop-parameter l = (name : List ℕ) → (is_among (texts_in l.names) name || is_parameter name
    (map parameter_of (drop l.parameter-index l.parameters))) ≡ is_parameter name (map parameter_of l.parameters)
