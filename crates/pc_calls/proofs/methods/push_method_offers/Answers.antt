use Rattle.std.proofs.Common.{◌++◌, ◌∷◌, [], ◌∙◌, map, ap, subst, List}
use Rattle.pc_rules.specs.Calls.{CallOffer}
use Rattle.pc_rules.specs.Computed.Standing.{context_with}
use Rattle.pc_calls.specs.JudgedCalls.{given_with, class_in_head, offer_called, AreCallOffers}
use Rattle.pc_calls.proofs.CallsKept.{pushed_only}
use Rattle.pc_calls.proofs.MethodOffers.{class_meant, other_meant}
use Rattle.pc_calls.proofs.methods.push_method_offers.Goals as goal

pub returns-in_ok-push_class_offers-in-Some-clause-offers : goal.returns-in_ok-push_class_offers-in-Some-clause-offers
returns-in_ok-push_class_offers-in-Some-clause-offers g c =
    let tree = g.S.TypeStore.tree in
    subst (λ (ms : List CallOffer). AreCallOffers g.S.TypeStore.has tree c.push_class_offers.new.store
    c.push_class_offers.new.offers.items (map (offer_called tree) c.args.offers.now.items ++ ms))
    (class_meant (context_with tree c.args.context.now) (given_with c.args.call.now.given.now) c.args.call.now.name.now
    (tree c.args.member.now) c.in-Some.class (c.in-Some.ensures ∙ ap class_in_head c.head.ensures.head))
    c.in_ok-push_class_offers-in-Some.ensures.offers

pub returns-in_ok-push_offer-in-None-clause-offers : goal.returns-in_ok-push_offer-in-None-clause-offers
returns-in_ok-push_offer-in-None-clause-offers g c =
    let tree = g.S.TypeStore.tree in
    rw c.in_ok-push_offer-in-None.ensures
    (subst (λ (ms : List CallOffer). AreCallOffers g.S.TypeStore.has tree c.other_offer.new.store
    (c.args.offers.now.items ++ c.in_ok-offer-in-None.offer ∷ [])
    (map (offer_called tree) c.args.offers.now.items ++ ms))
    (other_meant (context_with tree c.args.context.now) (given_with c.args.call.now.given.now) c.args.call.now.name.now
    (tree c.args.member.now) (c.in-None.ensures ∙ ap class_in_head c.head.ensures.head))
    (pushed_only g.S.TypeStore.has tree c.args.store.now c.other_offer.new.store _ c.args.offers.now.items
    c.in_ok-offer-in-None.offer c.other_offer.ensures.kept c.requires.offers c.in_ok-offer-in-None.ensures.offer))
