use Rattle.std.proofs.Common.{◌≡◌, ◌<◌, ℕ, [], length}
use Rattle.std.specs.Prelude.{slice_index_or}
use Rattle.pc_shared_maps.specs.SharedLists.{empty_list}
use Rattle.pc_class.specs.FieldLists.{IsListOf, fields_in}
use Rattle.pc_class.specs.Parts.{classes_of_table}
use Rattle.pc_class.proofs.field_lists.ClassLists.new.Given as goal

abbrev pub invariant-loop-class : goal.invariant-loop-class
invariant-loop-class g l = record {
  many : length l.classes.items ≡ l.class;
  none : IsListOf l.parts.fields.items l.lists [] empty_list;
  each : (c : ℕ) → c < l.class
      → IsListOf l.parts.fields.items l.lists (fields_in (classes_of_table l.parts) c)
      (slice_index_or l.classes.items c empty_list);
}
