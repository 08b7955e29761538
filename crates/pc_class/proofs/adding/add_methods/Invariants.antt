use Rattle.std.proofs.Common.{◌≡◌, ◌++◌, List, map, drop}
use Rattle.pc_types.specs.Store.{KeepsTypes}
use Rattle.pc_class.specs.Internal.Readers.{IsLentSame}
use Rattle.pc_class.specs.Annotated.{methods_annotated}
use Rattle.pc_shared_maps.specs.NameMaps.{IsMap, KeepsNamed}
use Rattle.pc_class.specs.Entries.{entry_seen}
use Rattle.pc_class.specs.Outlines.{IsMapOf, method_name as class_method_name, own_method, AreNew}
use Rattle.pc_class.specs.Tables.{HasMethod, method_with}
use Rattle.pc_class.specs.Parts.{stored_method_name}
use Rattle.pc_annotations.specs.ModuleOutlines.{module_in}
use Rattle.pc_class.proofs.Walking.{Walk}
use Rattle.pc_class.proofs.adding.add_methods.Given as goal

abbrev pub invariant-loop-entry : goal.invariant-loop-entry
invariant-loop-entry g l = record {
  within : IsMap l.named l.at;
  kept : KeepsNamed l.fn.named l.named;
  same : IsLentSame l.fn.reader l.reader;
  store : KeepsTypes g.S.TypeStore.has l.fn.reader.store.now l.reader.store.now;
  added : (front back : List _) → IsMapOf stored_method_name l.fn.named l.fn.methods.items l.inherited (front ++ back)
      → AreNew class_method_name (own_method (module_in l.class.outline.now) l.class.number)
      (map (method_with g.S.TypeStore.tree) front) (map entry_seen l.entries)
      → Walk stored_method_name class_method_name (method_with g.S.TypeStore.tree)
      (own_method (module_in l.class.outline.now) l.class.number) (HasMethod (g.S.TypeStore.has l.reader.store.now))
      l.named l.fn.methods.items l.methods.items l.at front back (map entry_seen l.entries)
      (map entry_seen (drop l.entry-index l.entries));
  found : l.reader.found.now.items ++ methods_annotated (module_in l.class.outline.now)
      (map entry_seen (drop l.entry-index l.entries)) ≡ l.fn.reader.found.now.items ++ methods_annotated
      (module_in l.class.outline.now) (map entry_seen l.entries);
}
