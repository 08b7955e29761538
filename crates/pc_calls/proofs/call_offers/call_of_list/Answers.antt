use Rattle.std.proofs.Common.{◌∙◌, sym, subst}
use Rattle.std.specs.Prelude.{IfOk}
use Rattle.pc_class.specs.Listings.{listed_in}
use Rattle.pc_rules.specs.Calls.{CallOffer}
use Rattle.pc_calls.specs.JudgedCalls.{given_with, signature_listed, IsCallOffer}
use Rattle.pc_calls.proofs.HeldClasses.{called_suited, called_unsuited}
use Rattle.pc_calls.proofs.call_offers.call_of_list.Goals as goal

pub returns-then-not-suits_list-clause-offer : goal.returns-then-not-suits_list-clause-offer
returns-then-not-suits_list-clause-offer g c =
    let tree = g.S.TypeStore.tree in
    let returns = tree c.args.returns in
    subst (λ (m : CallOffer). IfOk c.fails_at_call.result (λ o. IsCallOffer g.S.TypeStore.has tree
    c.fails_at_call.new.store o m))
    (called_unsuited (given_with c.args.given.now) (signature_listed tree returns (listed_in c.args.params))
    (sym (c.suits_list.ensures tree returns) ∙ c.if-not-suits_list.true))
    c.fails_at_call.ensures.offer

pub returns-clause-offer : goal.returns-clause-offer
returns-clause-offer g c =
    let tree = g.S.TypeStore.tree in
    let returns = tree c.args.returns in
    record {
      given = record { gives = c.requires.returns; calls = c.requires.params };
      is = called_suited (given_with c.args.given.now) (signature_listed tree returns (listed_in c.args.params))
          (sym (c.suits_list.ensures tree returns) ∙ c.if-not-suits_list.false);
    }
