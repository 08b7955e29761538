use Rattle.std.proofs.Common.{◌∙◌, refl, sym, ap, subst}
use Rattle.pc_rules.specs.Calls.{CallOffer, function_offer}
use Rattle.pc_calls.specs.JudgedCalls.{given_with, IsCallOffer}
use Rattle.pc_rules.specs.Computed.Standing.{signature_with}
use Rattle.pc_calls.proofs.HeldClasses.{called_meant, mapped_get}
use Rattle.pc_calls.proofs.functions.function_offer.Goals as goal

pub returns-clause-offer : goal.returns-clause-offer
returns-clause-offer g c =
    let tree = g.S.TypeStore.tree in
    let gave = given_with c.args.given.now in
    subst (λ (m : CallOffer). IsCallOffer g.S.TypeStore.has tree c.call_of_list.new.store c.in_ok-offer.offer m)
    (called_meant gave _ _ _ _ refl c.in_ok-returns.ensures.1
    ∙ ap (function_offer gave) (sym (mapped_get (signature_with tree) c.args.functions.now c.args.function
    c.index-functions-function.result c.if-function-functions.false c.index-functions-function.is)))
    c.in_ok-offer.ensures.offer
