use Rattle.std.proofs.Common.{◌≡◌, map, take, All}
use Rattle.pc_types.specs.Boxed.{tree_of}
use Rattle.pc_class.specs.Tables.{classes_with}
use Rattle.pc_detail_facts.specs.Held.{AreListedGiven, listing_held}
use Rattle.pc_detail_facts.proofs.facts.fields_of_classes.Given as goal

abbrev pub invariant-loop-class : goal.invariant-loop-class
invariant-loop-class l = record {
  fields : map listing_held l.fields.items ≡ map (λ c. c.fields) (take l.class (classes_with tree_of l.classes));
  given : All AreListedGiven l.fields.items;
}
