use Rattle.std.proofs.Common.{◌++◌, ◌∷◌, [], map, ap, subst, List}
use Rattle.pc_class.specs.Facts.{field_by_name, class_facts_at}
use Rattle.pc_class.specs.Tables.{classes_with}
use Rattle.pc_rules.specs.Calls.{CallOffer, class_offers}
use Rattle.pc_calls.specs.JudgedCalls.{given_with, offer_called, AreCallOffers}
use Rattle.pc_calls.proofs.CallsKept.{pushed_one}
use Rattle.pc_calls.proofs.HeldClasses.{method_held}
use Rattle.pc_calls.proofs.methods.push_class_offers.Goals as goal

pub method_offer-requires : goal.method_offer-requires
method_offer-requires g c = method_held (g.S.TypeStore.has c.args.store.now) c.args.classes.now c.requires.classes
    c.in-Some.method.now c.in-Some.ensures.listed

pub returns-in_ok-push_offer-in-Some-clause-offers : goal.returns-in_ok-push_offer-in-Some-clause-offers
returns-in_ok-push_offer-in-Some-clause-offers g c =
    let tree = g.S.TypeStore.tree in
    let f = field_by_name (class_facts_at (classes_with tree c.args.classes.now) c.args.class).fields
    c.args.call.now.name.now in
    rw c.in_ok-push_offer-in-Some.ensures
    (subst (λ (ms : List CallOffer). AreCallOffers g.S.TypeStore.has tree c.method_offer.new.store
    (c.args.offers.now.items ++ c.in_ok-offer-in-Some.offer ∷ [])
    (map (offer_called tree) c.args.offers.now.items ++ ms))
    (ap (λ m. class_offers (given_with c.args.call.now.given.now) m f) (c.in-Some.ensures.value tree))
    (pushed_one g.S.TypeStore.has tree c.args.store.now c.method_offer.new.store _ c.args.offers.now.items
    c.in_ok-offer-in-Some.offer c.method_offer.ensures.kept c.requires.offers c.in_ok-offer-in-Some.ensures.offer))

pub returns-in_ok-push_field_offers-in-None-clause-offers : goal.returns-in_ok-push_field_offers-in-None-clause-offers
returns-in_ok-push_field_offers-in-None-clause-offers g c =
    let tree = g.S.TypeStore.tree in
    let f = field_by_name (class_facts_at (classes_with tree c.args.classes.now) c.args.class).fields
    c.args.call.now.name.now in
    subst (λ (ms : List CallOffer). AreCallOffers g.S.TypeStore.has tree c.push_field_offers.new.store
    c.push_field_offers.new.offers.items (map (offer_called tree) c.args.offers.now.items ++ ms))
    (ap (λ m. class_offers (given_with c.args.call.now.given.now) m f) (c.in-None.ensures.value tree))
    (c.in_ok-push_field_offers-in-None.ensures.offers (given_with c.args.call.now.given.now))
