use Rattle.std.proofs.Common.{◌∙◌, List, [], Option, sym, ap, length}
use Rattle.std.proofs.lemmas.List.{length-map}
use Rattle.std.specs.Prelude.{unwrap_or}
use Rattle.std.specs.Option.{option_map}
use Rattle.pc_types.specs.Boxed.{tree_of}
use Rattle.pc_types.specs.declared.boxed.BoxType.{BoxType}
use Rattle.pc_class.specs.Facts.{TypedParameter, classes_of}
use Rattle.pc_class.specs.Listings.{listed_in}
use Rattle.pc_class.specs.Tables.{parameter_with}
use Rattle.pc_class.specs.declared.listing.Listing.{Listing}
use Rattle.pc_detail_facts.specs.Held.{listing_held, module_held}
use Rattle.pc_detail_facts.proofs.Held.{fields_listed, found_at, missed_at}
use Rattle.pc_detail_facts.proofs.facts.Facts.field_count.Goals as goal

abbrev held_or : Option (Listing BoxType) → List TypedParameter
held_or o = unwrap_or (option_map listing_held o) []

pub returns-in-Some : goal.returns-in-Some
returns-in-Some c =
    let f = c.args.self.now in
    c.len.ensures ∙ sym (length-map (listed_in c.in-Some.fields.now) (parameter_with tree_of))
    ∙ ap (λ (o : Option (Listing BoxType)). length (held_or o)) (found_at f.fields.now c.args.class c.in-Some.fields.now
    c.in-Some.ensures.lookup.0 c.in-Some.ensures.lookup.1)
    ∙ ap (λ (l : List TypedParameter). length l) (fields_listed f.fields.now (classes_of (module_held f)) c.args.class
    c.requires.fields)

pub returns-in-None : goal.returns-in-None
returns-in-None c =
    let f = c.args.self.now in
    ap (λ (o : Option (Listing BoxType)). length (held_or o)) (missed_at f.fields.now c.args.class
    c.in-None.ensures.lookup.3)
    ∙ ap (λ (l : List TypedParameter). length l) (fields_listed f.fields.now (classes_of (module_held f)) c.args.class
    c.requires.fields)
