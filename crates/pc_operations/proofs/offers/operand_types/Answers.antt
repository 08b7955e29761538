use Rattle.std.proofs.Common.{arith, sym, ◌∙◌}
use Rattle.pc_operations.proofs.Offering.{taken_more, taken_all, taken_none}
use Rattle.pc_operations.proofs.offers.operand_types.Goals as goal

pub loop-offer-preserved : goal.loop-offer-preserved
loop-offer-preserved g c = record {
  held = c.in_ok-add_copy.ensures.held;
  taken = taken_more g.S.TypeStore.tree c.args.offers.now c.loop-offer.offer-index c.loop-offer.types.items
      c.add_copy.new.types.items c.offer-item.result c.loop-offer-test.true c.offer-item.is
      c.in_ok-add_copy.ensures.value c.loop-offer.invariant.taken;
}

pub returns-clause-value : goal.returns-clause-value
returns-clause-value g c = taken_all g.S.TypeStore.tree c.args.offers.now c.loop-offer.offer-index
    c.loop-offer.types.items (omega arith) (sym (c.is_wrong.ensures g.S.TypeStore.tree) ∙ c.if-is_wrong.false)
    c.loop-offer.invariant.taken

pub returns-then-is_wrong-clause-value : goal.returns-then-is_wrong-clause-value
returns-then-is_wrong-clause-value g c = rw c.new-types.ensures.items
    (taken_none g.S.TypeStore.tree c.args.offers.now (sym (c.is_wrong.ensures g.S.TypeStore.tree) ∙ c.if-is_wrong.true))
