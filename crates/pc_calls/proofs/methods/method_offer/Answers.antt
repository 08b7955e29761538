use Rattle.std.proofs.Common.{refl, subst}
use Rattle.pc_rules.specs.Calls.{CallOffer}
use Rattle.pc_calls.specs.JudgedCalls.{given_with, IsCallOffer}
use Rattle.pc_calls.proofs.HeldClasses.{called_meant}
use Rattle.pc_calls.proofs.methods.method_offer.Goals as goal

pub returns-clause-offer : goal.returns-clause-offer
returns-clause-offer g c =
    let tree = g.S.TypeStore.tree in
    subst (λ (m : CallOffer). IsCallOffer g.S.TypeStore.has tree c.call_of_list.new.store c.in_ok-offer.offer m)
    (called_meant (given_with c.args.given.now) _ _ _ _ refl c.in_ok-returns.ensures.1)
    c.in_ok-offer.ensures.offer
