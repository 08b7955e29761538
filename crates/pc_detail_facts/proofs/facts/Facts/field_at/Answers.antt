use Rattle.std.proofs.Common.{◌∙◌, List, [], Option, sym, ap}
use Rattle.std.proofs.lemmas.Option.{slice_get-map}
use Rattle.std.specs.Prelude.{unwrap_or, slice_get}
use Rattle.std.specs.Option.{option_map}
use Rattle.pc_types.specs.Boxed.{tree_of}
use Rattle.pc_types.specs.declared.boxed.BoxType.{BoxType}
use Rattle.pc_class.specs.Facts.{TypedParameter, classes_of}
use Rattle.pc_class.specs.Listings.{listed_in}
use Rattle.pc_class.specs.Tables.{parameter_with}
use Rattle.pc_class.specs.declared.listing.Listing.{Listing}
use Rattle.pc_detail_facts.specs.Held.{AreListedGiven, listing_held, module_held}
use Rattle.pc_detail_facts.proofs.Held.{all_at, fields_listed, found_at, missed_at, none_at, parameter_given}
use Rattle.pc_detail_facts.proofs.Held.{parameter_twice}
use Rattle.pc_detail_facts.proofs.facts.Facts.field_at.Goals as goal

abbrev held_or : Option (Listing BoxType) → List TypedParameter
held_or o = unwrap_or (option_map listing_held o) []

pub returns-in-Some-clause-field : goal.returns-in-Some-clause-field
returns-in-Some-clause-field c =
    let f = c.args.self.now in
    parameter_twice c.at.result ∙ ap (option_map (parameter_with tree_of)) c.at.ensures
    ∙ sym (slice_get-map (parameter_with tree_of) (listed_in c.in-Some.fields.now) c.args.position)
    ∙ ap (λ (o : Option (Listing BoxType)). slice_get (held_or o) c.args.position) (found_at f.fields.now c.args.class
    c.in-Some.fields.now
    c.in-Some.ensures.lookup.0 c.in-Some.ensures.lookup.1)
    ∙ ap (λ (l : List TypedParameter). slice_get l c.args.position) (fields_listed f.fields.now
    (classes_of (module_held f)) c.args.class c.requires.fields)

pub returns-in-None-clause-field : goal.returns-in-None-clause-field
returns-in-None-clause-field c =
    let f = c.args.self.now in
    none_at c.args.position
    ∙ ap (λ (o : Option (Listing BoxType)). slice_get (held_or o) c.args.position) (missed_at f.fields.now c.args.class
    c.in-None.ensures.lookup.3)
    ∙ ap (λ (l : List TypedParameter). slice_get l c.args.position) (fields_listed f.fields.now
    (classes_of (module_held f)) c.args.class c.requires.fields)

pub returns-in-Some-clause-given : goal.returns-in-Some-clause-given
returns-in-Some-clause-given c = parameter_given (listed_in c.in-Some.fields.now) c.args.position c.at.result
    (all_at AreListedGiven c.args.self.now.fields.now c.args.class c.in-Some.fields.now c.requires.listed
    (sym (found_at c.args.self.now.fields.now c.args.class c.in-Some.fields.now c.in-Some.ensures.lookup.0
    c.in-Some.ensures.lookup.1))) c.at.ensures
