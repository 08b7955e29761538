use Rattle.std.proofs.Common.{◌≡◌, ◌++◌, List, map, drop}
use Rattle.pc_types.specs.Store.{KeepsTypes}
use Rattle.pc_class.specs.Internal.Readers.{IsLentSame}
use Rattle.pc_class.specs.Annotated.{fields_annotated}
use Rattle.pc_class.specs.Built.{members_of_entries}
use Rattle.pc_shared_maps.specs.NameMaps.{IsMap, KeepsNamed}
use Rattle.pc_class.specs.Entries.{entry_seen}
use Rattle.pc_class.specs.Outlines.{IsMapOf, field_name, own_field, AreNew}
use Rattle.pc_class.specs.Tables.{HasParameter, parameter_with}
use Rattle.pc_class.specs.Parts.{parameter_name}
use Rattle.pc_annotations.specs.ModuleOutlines.{module_in}
use Rattle.pc_class.proofs.Walking.{Walk}
use Rattle.pc_class.proofs.adding.add_fields.Given as goal

abbrev pub invariant-loop-entry : goal.invariant-loop-entry
invariant-loop-entry g l = record {
  within : IsMap l.named l.at;
  kept : KeepsNamed l.fn.named l.named;
  same : IsLentSame l.fn.reader l.reader;
  store : KeepsTypes g.S.TypeStore.has l.fn.reader.store.now l.reader.store.now;
  added : (front back : List _) → IsMapOf parameter_name l.fn.named l.fn.fields.items l.inherited (front ++ back)
      → AreNew field_name (own_field (module_in l.outline)) (map (parameter_with g.S.TypeStore.tree) front)
      (map entry_seen l.entries)
      → Walk parameter_name field_name (parameter_with g.S.TypeStore.tree) (own_field (module_in l.outline))
      (HasParameter (g.S.TypeStore.has l.reader.store.now)) l.named l.fn.fields.items l.fields.items l.at front back
      (map entry_seen l.entries) (map entry_seen (drop l.entry-index l.entries));
  found : l.reader.found.now.items ++ fields_annotated (module_in l.outline)
      (members_of_entries (drop l.entry-index l.entries)) ≡ l.fn.reader.found.now.items ++ fields_annotated
      (module_in l.outline) (members_of_entries l.entries);
}
