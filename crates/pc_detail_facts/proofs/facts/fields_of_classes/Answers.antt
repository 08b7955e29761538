use Rattle.std.proofs.Common.{List, All, sym, subst, add-one, arith}
use Rattle.std.proofs.lemmas.List.{map-append}
use Rattle.pc_types.specs.declared.boxed.BoxType.{BoxType}
use Rattle.pc_class.specs.declared.listing.Listing.{Listing}
use Rattle.pc_detail_facts.specs.Held.{AreListedGiven, listing_held}
use Rattle.pc_detail_facts.proofs.Held.{fields_more, listed_given}
use Rattle.pc_detail_facts.proofs.facts.fields_of_classes.Goals as goal

pub loop-class-preserved : goal.loop-class-preserved
loop-class-preserved c = record {
  fields = rw (c.in_ok-push.ensures.items, map-append listing_held, c.loop-class.invariant.fields, add-one)
      (sym (fields_more c.args.classes.now c.loop-class.class (omega arith)));
  given = subst (λ (ls : List (Listing BoxType)). All AreListedGiven ls) (sym c.in_ok-push.ensures.items)
      (listed_given c.loop-class.fields.items c.args.classes c.loop-class.class c.requires
      c.loop-class.invariant.given);
}
