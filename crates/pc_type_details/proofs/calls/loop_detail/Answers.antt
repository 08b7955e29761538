use Rattle.std.proofs.Common.{◌≡◌, ◌∙◌, Some, None, ap, codes, sym, true}
use Rattle.std.specs.Option.{option_map}
use Rattle.pc_tree.specs.Tree.{expr_of}
use Rattle.pc_tree.specs.declared.tree.Expr.{Expr as RustExpr}
use Rattle.pc_scope.specs.Expressions.{is_named}
use Rattle.pc_calls.specs.JudgedCalls.{given_with}
use Rattle.pc_detail_texts.specs.Shown.{misfit_of_value}
use Rattle.pc_detail_facts.specs.Held.{known_held, module_held, text_held}
use Rattle.pc_type_details.proofs.RangeCalls.{ranged}
use Rattle.pc_type_details.proofs.calls.loop_detail.Goals as goal

pub returns-in-Some : goal.returns-in-Some
returns-in-Some c =
    let f = c.args.facts.now in
    let named : true ≡ is_named (codes "range") (expr_of c.in-Call.callee.value) = sym c.if-not-is_range.false
    ∙ c.is_range.ensures ∙ ap (λ (e : RustExpr). is_named (codes "range") (expr_of e)) c.deref.ensures in
    ranged (module_held f) (known_held f) (text_held f) c.args.expr.now c.in-Call.place c.in-Call.callee
    c.in-Call.arguments c.in-Call.keywords c.in-Call.is (given_with c.in_ok-given.given)
    (Some (misfit_of_value c.in-Some.misfit)) named
    (rw (c.deref-2.ensures.value, c.deref-3.ensures.value) at c.in_ok-given.ensures)
    (ap (option_map misfit_of_value) (sym c.in-Some.is) ∙ c.in_ok-misfit.ensures)

pub returns : goal.returns
returns c =
    let f = c.args.facts.now in
    let named : true ≡ is_named (codes "range") (expr_of c.in-Call.callee.value) = sym c.if-not-is_range.false
    ∙ c.is_range.ensures ∙ ap (λ (e : RustExpr). is_named (codes "range") (expr_of e)) c.deref.ensures in
    ranged (module_held f) (known_held f) (text_held f) c.args.expr.now c.in-Call.place c.in-Call.callee
    c.in-Call.arguments c.in-Call.keywords c.in-Call.is (given_with c.in_ok-given.given) None named
    (rw (c.deref-2.ensures.value, c.deref-3.ensures.value) at c.in_ok-given.ensures)
    (ap (option_map misfit_of_value) (sym c.in-None.is) ∙ c.in_ok-misfit.ensures)
