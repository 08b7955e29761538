use Rattle.std.proofs.Common.{◌≡◌, ◌+◌, IsTrue, arith, ◌<◌, length, get_or, sym, subst₂, below_more}
use Rattle.std.proofs.lemmas.List.Elements.{AllZip-get_or, length_all_zip}
use Rattle.std.proofs.lemmas.Grind.{common_steps}
use Rattle.pc_types.specs.Internal.HeadFlow.{w_from_any, w_never, w_object, w_both, w_left, w_right}
use Rattle.pc_types.specs.declared.boxed.BoxType.{BoxType}
use Rattle.pc_types.specs.declared.boxed.BoxType.TheVariants as ty
use Rattle.pc_types.proofs.Truth.{yes_is, no_is, is_no, both_second, both_first, either_first, either_second}
use Rattle.pc_types.proofs.Truth.{through_is}
use Rattle.pc_types.proofs.Heads.{is_left, is_right, flow_is_fits, to_any, flow_parts, flow_member, is_no_union}
use Rattle.pc_types.proofs.Heads.{tuple_flows, list_flows, dict_flows, whole_flows}
use Rattle.pc_types.proofs.Tuples.{PartFlows, each_zip, zip_each, zip_from, tuple_is, at_index}
use Rattle.pc_types.proofs.Weight.{weight, weights, weight_item, weight_tuple}
use Rattle.pc_types.proofs.flow.+flow.Goals as goal

pub flows-returns-then-matches : goal.flows-returns-then-matches
flows-returns-then-matches t c =
    let e : c.args.s.now ≡ ty.Any = grind (arith, common_steps) in
    rw e (rw c.if-gradual.true (yes_is w_from_any))

pub flows-returns-in-Never : goal.flows-returns-in-Never
flows-returns-in-Never t c = rw c.in-Never.is (yes_is w_never)

pub flows-returns-then-flows : goal.flows-returns-then-flows
flows-returns-then-flows t c =
    rw c.in-Union.is
    (both_second c.if-flows.true (rw c.deref.ensures at c.flows.ensures)
    (rw c.deref-then-flows.ensures at c.flows-then-flows.ensures) (λ h. flow_parts h) (λ x y. w_both x y))

pub flows-returns-else-flows : goal.flows-returns-else-flows
flows-returns-else-flows t c = rw c.in-Union.is (both_first c.if-flows.false (rw c.deref.ensures at c.flows.ensures)
    (λ h. (flow_parts h).0))

pub flows-returns-in-Any-t : goal.flows-returns-in-Any-t
flows-returns-in-Any-t t c = rw c.in-Any-t.is (yes_is (to_any c.args.gradual))

pub flows-returns-in-Object : goal.flows-returns-in-Object
flows-returns-in-Object t c = rw c.in-Object.is (yes_is w_object)

pub flows-returns-then-flows-2 : goal.flows-returns-then-flows-2
flows-returns-then-flows-2 t c = rw c.in-Union-t.is (either_first c.if-flows-2.true
    (rw c.deref-in-Union-t.ensures at c.flows-in-Union-t.ensures) (λ h. w_left h))

pub flows-returns-else-flows-2 : goal.flows-returns-else-flows-2
flows-returns-else-flows-2 t c =
    let a : IsTrue c.args.gradual → c.args.s.now ≡ ty.Any → ⊥ = grind (arith, common_steps) in
    let l = is_left c.args.gradual c.args.s.now a c.in_default-s.not-Never
    (is_no_union c.args.s.now c.in_default-s.not-Union) in
    rw c.in-Union-t.is
    (either_second c.if-flows-2.false (rw c.deref-in-Union-t.ensures at c.flows-in-Union-t.ensures)
    (rw c.deref-else-flows-2.ensures at c.flows-else-flows-2.ensures) (λ h. flow_member h l) (λ h. w_right h))

pub flows-returns-in_default-t : goal.flows-returns-in_default-t
flows-returns-in_default-t t c =
    let a : IsTrue c.args.gradual → c.args.s.now ≡ ty.Any → ⊥ = grind (arith, common_steps) in
    let p = is_left c.args.gradual c.args.s.now a c.in_default-s.not-Never
    (is_no_union c.args.s.now c.in_default-s.not-Union) in
    let q = is_right c.args.gradual c.args.t.now c.in_default-t.not-Any c.in_default-t.not-Object
    (is_no_union c.args.t.now c.in_default-t.not-Union) in
    through_is c.fits.ensures (flow_is_fits c.args.parents.now _ _ _ p q)

pub each_flows-returns-then-ss-ts : goal.each_flows-returns-then-ss-ts
each_flows-returns-then-ss-ts t c = no_is (λ h. c.if-ss-ts.true (length_all_zip _ _ _ (each_zip _ _ _ _ _ h)))

pub each_flows-agree-requires : goal.each_flows-agree-requires
each_flows-agree-requires t c =
    let l : c.loop-i.i < length c.args.ts.now = omega arith in
    let w = weight_item c.args.ss.now c.loop-i.i c.index-ss-i.result c.loop-i-test.true c.index-ss-i.is in
    let v = weight_item c.args.ts.now c.loop-i.i c.index-ts-i.result l c.index-ts-i.is in
    (omega (arith, w, v, c.decreases), tt)

pub each_flows-returns-then-not-agree : goal.each_flows-returns-then-not-agree
each_flows-returns-then-not-agree t c =
    no_is (λ h.
    let z = AllZip-get_or _ _ _ c.loop-i.i c.index-ss-i.result c.index-ts-i.result
    (each_zip c.args.parents.now c.args.gradual c.args.both _ _ h) c.loop-i-test.true in
    is_no c.if-not-agree.true c.agree.ensures (subst₂ (PartFlows c.args.parents.now c.args.gradual c.args.both)
    (sym c.index-ss-i.is) (sym c.index-ts-i.is) z))

pub each_flows-returns : goal.each_flows-returns
each_flows-returns t c =
    yes_is (zip_each _ _ _ _ _ (zip_from _ _ _ _ _ c.loop-i.invariant.0
    (λ k d e l. c.loop-i.invariant.1 k d e (omega (arith, l)))))

pub fits-returns-in-Tuple-t : goal.fits-returns-in-Tuple-t
fits-returns-in-Tuple-t t c =
    rw (tuple_is _ _ c.in-Tuple.is, tuple_is _ _ c.in-Tuple-t.is)
    (rw (c.deref-in-Tuple-t.ensures.value, c.deref-in-Tuple-t-2.ensures.value) at c.each_flows.ensures)

pub fits-returns-in_default-t-3 : goal.fits-returns-in_default-t-3
fits-returns-in_default-t-3 t c =
    rw (tuple_is _ _ c.in-Tuple.is) (no_is (tuple_flows c.args.parents.now _ _ _ c.args.t.now
    c.in_default-t-3.not-Tuple))

pub fits-each_flows-requires : goal.fits-each_flows-requires
fits-each_flows-requires t c =
    let v : weights c.deref-in-Tuple-t.result.now + 1 ≡ weight c.args.s.now = rw c.deref-in-Tuple-t.ensures.value
    (omega (arith, weight_tuple _ _ c.in-Tuple.is)) in
    let w : weights c.deref-in-Tuple-t-2.result.now + 1 ≡ weight c.args.t.now = rw c.deref-in-Tuple-t-2.ensures.value
    (omega (arith, weight_tuple _ _ c.in-Tuple-t.is)) in
    (omega (arith, v, w, c.decreases), tt)

pub fits-returns-in-List-t : goal.fits-returns-in-List-t
fits-returns-in-List-t t c =
    rw (c.in-List.is, c.in-List-t.is) (rw (c.deref.ensures, c.deref-in-List-t.ensures) at c.agree.ensures)

pub fits-returns-in_default-t : goal.fits-returns-in_default-t
fits-returns-in_default-t t c =
    rw c.in-List.is (no_is (list_flows c.args.parents.now c.args.both c.args.gradual _ c.args.t.now
    c.in_default-t.not-List))

pub fits-returns-then-agree : goal.fits-returns-then-agree
fits-returns-then-agree t c =
    rw (c.in-Dict.is, c.in-Dict-t.is) (both_second c.if-agree.true
    (rw (c.deref-in-Dict-t.ensures, c.deref-in-Dict-t-2.ensures) at c.agree-in-Dict-t.ensures)
    (rw (c.deref-then-agree.ensures, c.deref-then-agree-2.ensures) at c.agree-then-agree.ensures)
    (λ h. ((h.0, h.1), (h.2, h.3))) (λ x y. (x.0, x.1, y.0, y.1)))

pub fits-returns-else-agree : goal.fits-returns-else-agree
fits-returns-else-agree t c =
    rw (c.in-Dict.is, c.in-Dict-t.is) (both_first c.if-agree.false
    (rw (c.deref-in-Dict-t.ensures, c.deref-in-Dict-t-2.ensures) at c.agree-in-Dict-t.ensures) (λ h. (h.0, h.1)))

pub fits-returns-in_default-t-2 : goal.fits-returns-in_default-t-2
fits-returns-in_default-t-2 t c =
    rw c.in-Dict.is (no_is (dict_flows c.args.parents.now c.args.both c.args.gradual _ _ c.args.t.now
    c.in_default-t-2.not-Dict))

pub fits-returns-in_default : goal.fits-returns-in_default
fits-returns-in_default t c =
    through_is c.head_fits.ensures (whole_flows c.args.parents.now c.args.both c.args.gradual c.args.s.now c.args.t.now
    c.in_default.not-List c.in_default.not-Dict c.in_default.not-Tuple)

pub each_flows-loop-i-preserved : goal.each_flows-loop-i-preserved
each_flows-loop-i-preserved t c =
    let e : PartFlows c.args.parents.now c.args.gradual c.args.both c.index-ss-i.result c.index-ts-i.result =
    c.agree.ensures.0 c.if-not-agree.false in (
      c.loop-i.invariant.0,
      λ k d f l. below_more (λ j. (d f : BoxType) → PartFlows c.args.parents.now c.args.gradual c.args.both
          (get_or c.args.ss.now j d) (get_or c.args.ts.now j f)) c.loop-i.i
          (λ j m d f. c.loop-i.invariant.1 j d f m)
          (at_index (PartFlows c.args.parents.now c.args.gradual c.args.both) _ _ c.loop-i.i _ _
          c.loop-i-test.true (omega arith) c.index-ss-i.is c.index-ts-i.is e) k l d f,
    )
