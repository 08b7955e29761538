use Rattle.std.proofs.Common.{◌∙◌, List, ap, arith, sym}
use Rattle.pc_source.specs.declared.place.Place.{Place}
use Rattle.pc_tree.specs.Tree.{name_of}
use Rattle.pc_detail_rules.specs.Names.{places_named}
use Rattle.pc_name_details.specs.Uses.{first_three}
use Rattle.pc_name_details.proofs.UseSteps.{enough_places, next_place, other_name}
use Rattle.pc_name_details.proofs.uses.add_place.Goals as goal

pub returns-then-len-ge-BINDINGS-clause-places : goal.returns-then-len-ge-BINDINGS-clause-places
returns-then-len-ge-BINDINGS-clause-places c = λ rest. enough_places c.args.places.now.items _ _ (omega arith) (omega arith)

pub returns-then-not-is_word-clause-places : goal.returns-then-not-is_word-clause-places
returns-then-not-is_word-clause-places c = λ rest. other_name c.args.word.now c.args.places.now.items
    (name_of c.args.name.now) rest (sym c.is_word.ensures ∙ c.if-not-is_word.true)

pub returns-clause-places : goal.returns-clause-places
returns-clause-places c = λ rest.
    ap (λ (l : List Place). first_three l (places_named c.args.word.now rest)) c.in_ok-push.ensures.items
    ∙ next_place c.args.word.now c.args.places.now.items (name_of c.args.name.now) rest (omega arith)
    (sym c.is_word.ensures ∙ c.if-not-is_word.false)
