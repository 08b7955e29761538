use Rattle.std.proofs.Common.{◌≡◌, ◌++◌, [], map, drop, length}
use Rattle.pc_tree.specs.Tree.{item_of}
use Rattle.pc_scope.specs.Bindings.{classes_in}
use Rattle.pc_types.specs.Store.{KeepsTypes}
use Rattle.pc_class.specs.Internal.Readers.{IsLentSame}
use Rattle.pc_class.specs.Facts.{classes_behind}
use Rattle.pc_class.specs.Tables.{classes_with}
use Rattle.pc_class.specs.Parts.{classes_of_table, IsClassTable, HasParts}
use Rattle.pc_annotations.specs.ModuleOutlines.{module_in}
use Rattle.pc_class.specs.Built.{found_behind, annotated_behind}
use Rattle.pc_class.proofs.ItemsBuilt.{AreAhead}
use Rattle.pc_class.proofs.building.all_classes.Given as goal

abbrev pub invariant-loop-item : goal.invariant-loop-item
invariant-loop-item g l = record {
  same : IsLentSame l.fn.reader l.reader;
  store : KeepsTypes g.S.TypeStore.has l.fn.reader.store.now l.reader.store.now;
  table : IsClassTable l.parts;
  given : HasParts (g.S.TypeStore.has l.reader.store.now) l.parts;
  ahead : AreAhead (classes_in (map item_of l.items)) (length l.parts.classes.items)
      (classes_in (map item_of (drop l.item-index l.items)));
  classes : classes_behind (module_in l.outline) (classes_with g.S.TypeStore.tree (classes_of_table l.parts))
      (length l.parts.classes.items) (classes_in (map item_of (drop l.item-index l.items))) ≡ classes_behind
      (module_in l.outline) [] 0 (classes_in (map item_of l.items));
  found : l.found.items ++ found_behind (module_in l.outline) (classes_with g.S.TypeStore.tree (classes_of_table l.parts))
      (length l.parts.classes.items) (classes_in (map item_of (drop l.item-index l.items))) ≡ l.fn.found.items
      ++ found_behind (module_in l.outline) [] 0 (classes_in (map item_of l.items));
  annotated : l.reader.found.now.items ++ annotated_behind (module_in l.outline)
      (classes_with g.S.TypeStore.tree (classes_of_table l.parts)) (length l.parts.classes.items)
      (classes_in (map item_of (drop l.item-index l.items))) ≡ l.fn.reader.found.now.items ++ annotated_behind
      (module_in l.outline) [] 0 (classes_in (map item_of l.items));
}
