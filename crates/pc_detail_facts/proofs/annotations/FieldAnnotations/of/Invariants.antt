use Rattle.std.proofs.Common.{◌≡◌, [], List, map, drop}
use Rattle.pc_detail_facts.specs.Annotated.{HoldsFields}
use Rattle.pc_detail_facts.specs.Held.{class_lent}
use Rattle.pc_detail_rules.specs.Written.{Annotated, fields_behind}
use Rattle.pc_detail_facts.proofs.annotations.FieldAnnotations.of.Given as goal

abbrev pub invariant-loop-class : goal.invariant-loop-class
invariant-loop-class l = record {
  lists : List (List Annotated);
  holds : HoldsFields lists l.fields;
  count : l.number ≡ l.class-index;
  whole : fields_behind l.parents lists l.number (map class_lent (drop l.class-index l.classes))
      ≡ fields_behind l.parents [] 0 (map class_lent l.classes);
}
