use Rattle.std.proofs.Common.{arith, sym, ap, map, ◌∙◌}
use Rattle.std.specs.Prelude.{true, false}
use Rattle.pc_flow.specs.Environment.{join_all}
use Rattle.pc_rules.specs.Operations.{has_error}
use Rattle.pc_operations.proofs.Offering.{listed_none, listed_more, listed_codes, listed_types, label_is}
use Rattle.pc_operations.proofs.offers.offers_label.Goals as goal

pub loop-offer-init : goal.loop-offer-init
loop-offer-init g c =
    listed_none g.S.TypeStore.has g.S.TypeStore.tree c.args.parents.now c.args.offers.now c.args.store.now _ _
    c.new-codes.ensures.items c.new-types.ensures.items

pub loop-offer-preserved : goal.loop-offer-preserved
loop-offer-preserved g c =
    listed_more g.S.TypeStore.has g.S.TypeStore.tree c.args.parents.now c.args.offers.now c.args.store.now
    c.loop-offer.offer-index c.loop-offer.codes.items c.add_found.new.codes.items c.loop-offer.types.items _
    c.offer-item.result c.in_ok-copy.field-0 c.loop-offer-test.true c.offer-item.is c.loop-offer.invariant
    c.in_ok-add_found.ensures c.in_ok-push.ensures.items c.in_ok-copy.ensures

pub returns-then-has_error-clause-value : goal.returns-then-has_error-clause-value
returns-then-has_error-clause-value g c =
    label_is g.S.TypeStore.has g.S.TypeStore.tree c.args.parents.now c.args.offers.now c.any.new.self _ true
    (sym (ap has_error c.deref.ensures.value) ∙ sym c.has_error.ensures ∙ c.if-has_error.true)
    (listed_codes g.S.TypeStore.has g.S.TypeStore.tree c.args.parents.now c.args.offers.now c.args.store.now
    c.loop-offer.offer-index c.loop-offer.codes.items c.loop-offer.types.items (omega arith) c.loop-offer.invariant)
    c.in_ok-ty.ensures.value.0 c.in_ok-ty.ensures.value.1

pub returns-clause-value : goal.returns-clause-value
returns-clause-value g c =
    let v = c.loop-offer.invariant in
    label_is g.S.TypeStore.has g.S.TypeStore.tree c.args.parents.now c.args.offers.now c.join_types.new.store _ false
    (sym (ap has_error c.deref.ensures.value) ∙ sym c.has_error.ensures ∙ c.if-has_error.false)
    (listed_codes g.S.TypeStore.has g.S.TypeStore.tree c.args.parents.now c.args.offers.now c.args.store.now
    c.loop-offer.offer-index c.loop-offer.codes.items c.loop-offer.types.items (omega arith) v)
    c.in_ok-ty-2.ensures.value.0
    (c.in_ok-ty-2.ensures.value.1
    ∙ ap (λ l. join_all c.args.parents.now (map g.S.TypeStore.tree l)) c.deref-2.ensures.value
    ∙ ap (join_all c.args.parents.now)
    (listed_types g.S.TypeStore.has g.S.TypeStore.tree c.args.parents.now c.args.offers.now c.args.store.now
    c.loop-offer.offer-index c.loop-offer.codes.items c.loop-offer.types.items (omega arith) v))
