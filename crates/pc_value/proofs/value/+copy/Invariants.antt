use Rattle.std.proofs.Common.{◌≡◌, map, take}
use Rattle.pc_value.specs.Meaning.{value_of}
use Rattle.pc_value.proofs.value.+copy.Given as goal

abbrev pub invariant-copy_values-loop-value : goal.invariant-copy_values-loop-value
invariant-copy_values-loop-value l = map value_of l.copied.items ≡ map value_of (take l.value-index l.values)
