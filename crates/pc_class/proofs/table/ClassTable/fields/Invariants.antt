use Rattle.std.proofs.Common.{◌≡◌, ◌≤◌, length}
use Rattle.std.specs.Prelude.{map, take}
use Rattle.pc_class.specs.FieldLists.{fields_in}
use Rattle.pc_class.specs.Parts.{lent_parameter}
use Rattle.pc_class.proofs.table.ClassTable.fields.Given as goal

abbrev pub invariant-loop-place : goal.invariant-loop-place
invariant-loop-place g l = record {
  within : l.place ≤ length (fields_in l.self l.class);
  taken : map lent_parameter l.fields.items ≡ take l.place (fields_in l.self l.class);
}
