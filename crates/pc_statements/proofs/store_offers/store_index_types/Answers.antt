use Rattle.std.proofs.Common.{arith, ap, sym, ◌∙◌}
use Rattle.pc_rules.specs.Operations.{has_error}
use Rattle.pc_statements.proofs.Storing.{error_is, take_more, types_right, types_wrong}
use Rattle.pc_statements.proofs.store_offers.store_index_types.Goals as goal

pub loop-offer-preserved : goal.loop-offer-preserved
loop-offer-preserved g c = record {
  held = c.in_ok-add_copy.ensures.held;
  taken = take_more g.S.TypeStore.tree c.args.offers.now (λ o. o.takes) c.loop-offer.offer-index
      c.loop-offer.types.items c.add_copy.new.types.items c.offer-item.result c.loop-offer-test.true c.offer-item.is
      c.in_ok-add_copy.ensures.value c.loop-offer.invariant.taken;
}

pub returns-clause-value : goal.returns-clause-value
returns-clause-value g c =
    let found = c.in_ok-codes.ensures g.S.TypeStore.tree in
    let wrong = sym (error_is g.S.TypeStore.tree c.args.offers.now _ found) ∙ sym (ap has_error c.deref.ensures.value)
    ∙ sym c.has_error.ensures ∙ c.if-has_error.false in
    types_right g.S.TypeStore.tree c.args.offers.now (λ o. o.takes) c.loop-offer.offer-index c.loop-offer.types.items
    (omega arith) wrong c.loop-offer.invariant.taken

pub returns-then-has_error-clause-value : goal.returns-then-has_error-clause-value
returns-then-has_error-clause-value g c =
    let found = c.in_ok-codes.ensures g.S.TypeStore.tree in
    let wrong = sym (error_is g.S.TypeStore.tree c.args.offers.now _ found) ∙ sym (ap has_error c.deref.ensures.value)
    ∙ sym c.has_error.ensures ∙ c.if-has_error.true in
    rw c.new-types.ensures.items (types_wrong g.S.TypeStore.tree c.args.offers.now (λ o. o.takes) wrong)
