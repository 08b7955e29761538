use Rattle.std.proofs.Common.{◌++◌, ◌∷◌, [], map, ap, subst, List, None}
use Rattle.pc_rules.specs.Calls.{CallOffer, class_offers}
use Rattle.pc_calls.specs.JudgedCalls.{offer_called, AreCallOffers}
use Rattle.pc_calls.proofs.CallsKept.{pushed_one}
use Rattle.pc_calls.proofs.HeldClasses.{field_held}
use Rattle.pc_calls.proofs.methods.push_field_offers.Goals as goal

pub push_value_offers-requires-clause-ty : goal.push_value_offers-requires-clause-ty
push_value_offers-requires-clause-ty g c = field_held (g.S.TypeStore.has c.args.store.now) c.args.classes.now
    c.requires.classes c.in-Some.field.now c.in-Some.ensures.listed

pub returns-in_ok-push_value_offers-in-Some-clause-offers : goal.returns-in_ok-push_value_offers-in-Some-clause-offers
returns-in_ok-push_value_offers-in-Some-clause-offers g c gave =
    let tree = g.S.TypeStore.tree in
    subst (λ (ms : List CallOffer). AreCallOffers g.S.TypeStore.has tree c.push_value_offers.new.store
    c.push_value_offers.new.offers.items (map (offer_called tree) c.args.offers.now.items ++ ms))
    (ap (class_offers gave None) (c.in-Some.ensures.value tree)) c.in_ok-push_value_offers-in-Some.ensures.offers

pub returns-in_ok-push_offer-in-None-clause-offers : goal.returns-in_ok-push_offer-in-None-clause-offers
returns-in_ok-push_offer-in-None-clause-offers g c gave =
    let tree = g.S.TypeStore.tree in
    rw c.in_ok-push_offer-in-None.ensures
    (subst (λ (ms : List CallOffer). AreCallOffers g.S.TypeStore.has tree c.fails_at_callee.new.store
    (c.args.offers.now.items ++ c.in_ok-offer-in-None.offer ∷ [])
    (map (offer_called tree) c.args.offers.now.items ++ ms))
    (ap (class_offers gave None) (c.in-None.ensures.value tree))
    (pushed_one g.S.TypeStore.has tree c.args.store.now c.fails_at_callee.new.store _ c.args.offers.now.items
    c.in_ok-offer-in-None.offer c.fails_at_callee.ensures.kept c.requires.offers
    c.in_ok-offer-in-None.ensures.offer))
