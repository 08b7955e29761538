use Rattle.std.proofs.Common.{◌≡◌, ◌++◌, ◌∷◌, drop, map}
use Rattle.pc_machine.specs.Evaluation.{all_have_defaults, defaults_last}
use Rattle.pc_machine.specs.Machine.{parameter_of}
use Rattle.std.specs.Prelude.{if◌then◌else◌}
use Rattle.pc_run.proofs.items.defaults_last.Given as goal

abbrev pub invariant-loop-field : goal.invariant-loop-field
invariant-loop-field l = (if l.defaulted then all_have_defaults (map parameter_of (drop l.field-index l.fields))
    else defaults_last (map parameter_of (drop l.field-index l.fields))) ≡ defaults_last (map parameter_of l.fields)
