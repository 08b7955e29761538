use Rattle.std.proofs.Common.{◌≡◌, sym, subst, Contains, Some, rules, ap, ◌∙◌}
use Rattle.std.specs.Prelude.{MatchOption, Option}
use Rattle.std.specs.Borrow.{Bor}
use Rattle.std.specs.Rc.{rc_str_bytes}
use Rattle.std.specs.BTreeMap.{get}
use Rattle.pc_tree.specs.declared.code.Code.TheVariants.{A1}
use Rattle.pc_report.specs.declared.flow.FlowTexts.{FlowTexts}
use Rattle.pc_report.specs.Flows.{FlowEntry, HasFlowAt, place_cmp}
use Rattle.pc_report.proofs.flow.texts_of.Goals as goal

pub returns-in-None : goal.returns-in-None
returns-in-None c = λ listed has a l.
    let p = c.args.finding.place in
    (subst (λ (o : Option (Bor FlowEntry)). MatchOption o (¬ (HasFlowAt listed p)) (λ f. Contains listed f.now
    × (f.now.0 ≡ p))) (sym c.in-None.ensures.value) (has p)) l

pub returns-in_ok-new-in-Some : goal.returns-in_ok-new-in-Some
returns-in_ok-new-in-Some c = λ listed has.
    let p = c.args.finding.place in
    let f : Bor FlowEntry = c.in-Some.field-0.now in
    let v : Some f ≡ get place_cmp c.args.flows.now p = c.in-Some.ensures.value in
    let found : Contains listed f.now × (f.now.0 ≡ p) = subst (λ (o : Option (Bor FlowEntry)). MatchOption o
    (¬ (HasFlowAt listed p)) (λ f. Contains listed f.now × (f.now.0 ≡ p))) (sym v) (has p) in
    let code : c.args.finding.code ≡ A1 = search rules in
    let value = c.in_ok-new-in-Some.ensures.ok in (
      code,
      (
        f.now,
        found.0,
        found.1,
        ap (λ (t : FlowTexts). rc_str_bytes t.from) value
            ∙ c.in_ok-clone-in-Some.ensures.cases,
        ap (λ (t : FlowTexts). rc_str_bytes t.to) value ∙ c.in_ok-clone-in-Some-2.ensures.cases,
      ),
    )
