use Rattle.std.proofs.Common.{◌≡◌, ◌++◌, ◌∷◌, drop, map}
use Rattle.pc_machine.specs.Machine.{parameter_of}
use Rattle.pc_run.proofs.items.inherited_fields.Given as goal

abbrev pub invariant-loop-field : goal.invariant-loop-field
invariant-loop-field l = map parameter_of l.fields.items ++ map parameter_of (drop l.field-index l.field-items)
    ≡ map parameter_of l.field-items
