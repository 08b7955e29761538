use Rattle.std.proofs.Common.{◌≤◌, ◌++◌, List}
use Rattle.pc_shared_maps.specs.SharedLists.{HasRoom, KeepsLists}
use Rattle.pc_class.specs.declared.table.Parameter.{Parameter as RustParameter}
use Rattle.pc_class.specs.FieldLists.{IsListOf}
use Rattle.pc_class.specs.Parts.{items_in_span}
use Rattle.pc_class.proofs.TableFields.{span}
use Rattle.pc_class.proofs.field_lists.add_fields.Given as goal

abbrev pub invariant-loop-number : goal.invariant-loop-number
invariant-loop-number g l = record {
  order : l.fn.span.start ≤ l.number;
  within : l.number ≤ l.fn.span.end;
  room : HasRoom l.lists l.longer;
  kept : KeepsLists l.fn.lists l.lists;
  list : (before : List (RustParameter _)) → IsListOf l.fields l.fn.lists before l.fn.list
      → IsListOf l.fields l.lists (before ++ items_in_span l.fields (span l.fn.span.start l.number)) l.longer;
}
