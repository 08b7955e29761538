use Rattle.std.proofs.Common.{◌≡◌, ◌∙◌, ◌||◌, ℕ, List, Bor, map, Option, Some, Bool, ap, arith, subst, sym}
use Rattle.std.specs.Prelude.{IfOk}
use Rattle.std.specs.Option.{option_map}
use Rattle.pc_tree.specs.Stopping.{has_none}
use Rattle.pc_calls.specs.JudgedCalls.{given_with}
use Rattle.pc_detail_texts.specs.Details.{Misfit, too_many}
use Rattle.pc_detail_texts.specs.Mapped.{short_misfit}
use Rattle.pc_detail_texts.specs.Shown.{misfit_of_value}
use Rattle.pc_detail_facts.specs.Callees.{called_of}
use Rattle.pc_type_details.proofs.GivenNames.{missing_is_misfit, name_is_misfit, names_given, too_many_given}
use Rattle.pc_type_details.proofs.given.parameter_misfit.Goals as goal

pub returns-then-counts : goal.returns-then-counts
returns-then-counts c =
    let g = given_with c.args.given.now in
    let s = (called_of c.args.facts.now c.args.called).signature in
    ap (λ (n : ℕ). Some (too_many n g.positional)) c.count.ensures ∙ too_many_given g s (omega arith)

pub returns-then-not-may_be_named : goal.returns-then-not-may_be_named
returns-then-not-may_be_named c =
    let g = given_with c.args.given.now in
    let s = (called_of c.args.facts.now c.args.called).signature in
    names_given g s (omega arith) (ap (λ (b : Bool). b || has_none g.named)
    (sym (c.takes_names-takes_names.ensures c.args.facts.now))
    ∙ sym c.may_be_named.ensures ∙ c.if-not-may_be_named.true)

pub returns-then-is_some : goal.returns-then-is_some
returns-then-is_some c =
    let g = given_with c.args.given.now in
    let s = (called_of c.args.facts.now c.args.called).signature in
    name_is_misfit g s (omega arith) (ap (λ (b : Bool). b || has_none g.named)
    (sym (c.takes_names-takes_names.ensures c.args.facts.now))
    ∙ sym c.may_be_named.ensures ∙ c.if-not-may_be_named.false) _ c.in_ok-named.ensures
    (sym c.is_some.ensures ∙ c.if-is_some.true)

pub returns : goal.returns
returns c =
    let g = given_with c.args.given.now in
    let s = (called_of c.args.facts.now c.args.called).signature in
    subst (λ (w : Option Misfit). IfOk c.missing_misfit.result (λ x. option_map misfit_of_value x ≡ option_map short_misfit w))
    (missing_is_misfit g s (omega arith) (ap (λ (b : Bool). b || has_none g.named)
    (sym (c.takes_names-takes_names.ensures c.args.facts.now))
    ∙ sym c.may_be_named.ensures ∙ c.if-not-may_be_named.false) _ c.in_ok-named.ensures
    c.takes_names-takes_names.result c.count.result _ (sym c.is_some.ensures ∙ c.if-is_some.false)
    (c.takes_names-takes_names.ensures c.args.facts.now) c.count.ensures
    (ap (λ (l : List (Bor (List ℕ))). map (λ w. w.now) l) c.as_slice.ensures.value ∙ c.in_ok-missing.ensures))
    c.missing_misfit.ensures
