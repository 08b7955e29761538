use Rattle.std.proofs.Common.{◌∙◌, ◌+◌, List, ap, drop, map, sym}
use Rattle.std.specs.Prelude.{option_map}
use Rattle.pc_scope.specs.Resolution.{resolve}
use Rattle.pc_calls.specs.JudgedCalls.{given_with}
use Rattle.pc_detail_texts.specs.Details as detail
use Rattle.pc_detail_texts.specs.Mapped.{map_detail}
use Rattle.pc_detail_facts.specs.declared.called.CallTarget.{CallTarget}
use Rattle.pc_detail_facts.specs.Callees.{called_of}
use Rattle.pc_detail_rules.specs.Calls.{called_misfit, misfits_of}
use Rattle.pc_detail_facts.specs.Held.{known_held, module_held, text_held}
use Rattle.pc_type_details.proofs.CallSteps.{detail_here, misfits_ended, misfits_next, no_detail_here}
use Rattle.pc_type_details.proofs.CallsShown.{call_is}
use Rattle.pc_type_details.proofs.calls.call_detail.Goals as goal

pub loop-called-preserved : goal.loop-called-preserved
loop-called-preserved c =
    let f = c.args.facts.now in
    let g = given_with c.in_ok-given.given in
    let cs = c.deref-called-items.result.now in
    let i = c.loop-called.called-index in
    let x = called_of f c.called-item.result in
    sym (no_detail_here (map_detail (text_held f)) (option_map (detail.call x.what) (called_misfit g x))
    (misfits_of g (map (called_of f) (drop (i + 1) cs))) c.in_ok-detail.detail
    (sym c.is_some.ensures ∙ c.if-is_some.false) c.in_ok-detail.ensures)
    ∙ sym (misfits_next f g cs i c.called-item.result c.loop-called-test.true c.called-item.is)
    ∙ c.loop-called.invariant

pub returns-then-is_some : goal.returns-then-is_some
returns-then-is_some c =
    let f = c.args.facts.now in
    let m = module_held f in
    let g = given_with c.in_ok-given.given in
    let cs = c.deref-called-items.result.now in
    let i = c.loop-called.called-index in
    let x = called_of f c.called-item.result in
    detail_here (map_detail (text_held f)) (option_map (detail.call x.what) (called_misfit g x))
    (misfits_of g (map (called_of f) (drop (i + 1) cs))) c.in_ok-detail.detail
    (sym c.is_some.ensures ∙ c.if-is_some.true) c.in_ok-detail.ensures
    ∙ ap (option_map (map_detail (text_held f)))
    (sym (misfits_next f g cs i c.called-item.result c.loop-called-test.true c.called-item.is)
    ∙ c.loop-called.invariant
    ∙ call_is m (known_held f) (resolve m c.args.owned.owner) c.args.owned.expr.now c.in-Call.place
    c.in-Call.callee c.in-Call.arguments c.in-Call.keywords g (map (called_of f) cs) c.in-Call.is
    (rw (c.deref.ensures.value, c.deref-2.ensures.value) at c.in_ok-given.ensures)
    (ap (λ (l : List CallTarget). map (called_of f) l) c.deref-called-items.ensures.value
    ∙ (rw c.deref-3.ensures at c.in_ok-callees.ensures.called)))

pub returns : goal.returns
returns c =
    let f = c.args.facts.now in
    let m = module_held f in
    let g = given_with c.in_ok-given.given in
    let cs = c.deref-called-items.result.now in
    ap (option_map (map_detail (text_held f)))
    (sym (misfits_ended f g cs c.loop-called.called-index c.loop-called-test.false)
    ∙ c.loop-called.invariant
    ∙ call_is m (known_held f) (resolve m c.args.owned.owner) c.args.owned.expr.now c.in-Call.place
    c.in-Call.callee c.in-Call.arguments c.in-Call.keywords g (map (called_of f) cs) c.in-Call.is
    (rw (c.deref.ensures.value, c.deref-2.ensures.value) at c.in_ok-given.ensures)
    (ap (λ (l : List CallTarget). map (called_of f) l) c.deref-called-items.ensures.value
    ∙ (rw c.deref-3.ensures at c.in_ok-callees.ensures.called)))
