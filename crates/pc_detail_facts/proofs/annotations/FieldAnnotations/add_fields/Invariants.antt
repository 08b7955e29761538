use Rattle.std.proofs.Common.{◌≡◌, ◌++◌, List, map, take}
use Rattle.std.specs.Prelude.{flat_map}
use Rattle.pc_tree.specs.Tree.{member_of}
use Rattle.pc_shared_maps.specs.NameMaps.{IsMap}
use Rattle.pc_detail_facts.specs.Annotated.{IsFieldMap, KeepsFields}
use Rattle.pc_detail_rules.specs.Written.{Annotated, annotated_field}
use Rattle.pc_detail_facts.proofs.annotations.FieldAnnotations.add_fields.Given as goal

abbrev pub invariant-loop-member : goal.invariant-loop-member
invariant-loop-member l = record {
  is_map : IsMap l.self.named l.map;
  kept : KeepsFields l.fn.self l.self;
  maps : l.self.maps.items ≡ l.fn.self.maps.items;
  held : (those : List Annotated) → IsFieldMap l.fn.self those l.initial.map
      → IsFieldMap l.self (those ++ flat_map annotated_field (map member_of (take l.member-index l.member-items))) l.map;
}
