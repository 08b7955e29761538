use Rattle.std.proofs.Common.{◌≡◌, ◌+◌, arith, ◌<◌, length, sym, ◌∙◌, subst₂, true≢false, below_more}
use Rattle.std.proofs.lemmas.List.Elements.{AllZip-get_or, length_all_zip}
use Rattle.pc_types.proofs.Weight.{weight, weights, weight_item, weight_tuple}
use Rattle.pc_types.proofs.Tuples.{AreEqual, same_zip, zip_same, not_true, tuple_is, at_index}
use Rattle.pc_types.proofs.Heads.{tuple_differs}
use Rattle.pc_types.proofs.compare.+same.Goals as goal

pub are_same-returns-then-ss-ts : goal.are_same-returns-then-ss-ts
are_same-returns-then-ss-ts t c = not_true _ (λ h. c.if-ss-ts.true (length_all_zip _ _ _ (same_zip _ _ h)))

pub are_same-is_same-requires : goal.are_same-is_same-requires
are_same-is_same-requires t c =
    let l : c.loop-i.i < length c.args.ts.now = omega arith in
    let w = weight_item c.args.ss.now c.loop-i.i c.index-ss-i.result c.loop-i-test.true c.index-ss-i.is in
    let v = weight_item c.args.ts.now c.loop-i.i c.index-ts-i.result l c.index-ts-i.is in
    (omega (arith, w, v, c.decreases), tt)

pub are_same-returns-then-not-is_same : goal.are_same-returns-then-not-is_same
are_same-returns-then-not-is_same t c =
    not_true _ (λ h.
    let z = AllZip-get_or _ _ _ c.loop-i.i c.index-ss-i.result c.index-ts-i.result (same_zip _ _ h)
    c.loop-i-test.true in
    let q : AreEqual c.index-ss-i.result c.index-ts-i.result = subst₂ AreEqual (sym c.index-ss-i.is)
    (sym c.index-ts-i.is) z in
    true≢false (sym q ∙ sym c.is_same.ensures ∙ c.if-not-is_same.true))

pub are_same-returns : goal.are_same-returns
are_same-returns t c = sym (zip_same _ _ c.loop-i.invariant.0 (λ k l. c.loop-i.invariant.1 k (omega (arith, l))))

pub is_same-are_same-requires : goal.is_same-are_same-requires
is_same-are_same-requires t c =
    let v : weights c.deref-in-Tuple-t.result.now + 1 ≡ weight c.args.s.now = rw c.deref-in-Tuple-t.ensures.value
    (omega (arith, weight_tuple _ _ c.in-Tuple.is)) in
    let w : weights c.deref-in-Tuple-t-2.result.now + 1 ≡ weight c.args.t.now = rw c.deref-in-Tuple-t-2.ensures.value
    (omega (arith, weight_tuple _ _ c.in-Tuple-t.is)) in
    (omega (arith, v, w, c.decreases), tt)

pub is_same-returns-in-Tuple-t : goal.is_same-returns-in-Tuple-t
is_same-returns-in-Tuple-t t c =
    rw (tuple_is _ _ c.in-Tuple.is, tuple_is _ _ c.in-Tuple-t.is)
    (rw (c.deref-in-Tuple-t.ensures.value, c.deref-in-Tuple-t-2.ensures.value) at c.are_same.ensures)

pub is_same-returns-in_default-t-4 : goal.is_same-returns-in_default-t-4
is_same-returns-in_default-t-4 t c = rw (tuple_is _ _ c.in-Tuple.is)
    (tuple_differs _ c.args.t.now c.in_default-t-4.not-Tuple)

pub are_same-loop-i-preserved : goal.are_same-loop-i-preserved
are_same-loop-i-preserved t c =
    let e : AreEqual c.index-ss-i.result c.index-ts-i.result = sym c.is_same.ensures ∙ c.if-not-is_same.false in (
      c.loop-i.invariant.0,
      below_more _ _ c.loop-i.invariant.1 (at_index AreEqual _ _ c.loop-i.i _ _ c.loop-i-test.true
          (omega arith) c.index-ss-i.is c.index-ts-i.is e),
    )
