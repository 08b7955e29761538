use Rattle.std.proofs.Common.{◌∙◌, None, Some, ap₂, refl, subst, sym}
use Rattle.pc_source.specs.declared.place.Place.{Place}
use Rattle.pc_tree.specs.declared.code.Code.TheVariants.{E30}
use Rattle.pc_tree.specs.Tree.{stmt_of}
use Rattle.pc_scope_findings.proofs.Reached.{first_is}
use Rattle.pc_detail_texts.specs.Details as detail
use Rattle.pc_name_details.specs.Naming.{behind_rule}
use Rattle.pc_name_details.specs.Offered.{AddsDetails, of_code, at_place}
use Rattle.pc_detail_rules.specs.Statements.{unreached_after}
use Rattle.pc_name_details.proofs.Offered.{none_added, one_added, shut_added}
use Rattle.pc_detail_facts.proofs.Results.{none_left, on_ok}
use Rattle.pc_name_details.proofs.leaving.add_unreached.Goals as goal

pub returns-in_default : goal.returns-in_default
returns-in_default c = rw (none_left c.args.before c.in_default.not-Some) (none_added c.args.facts.now
    (behind_rule None (stmt_of c.args.statement.now)) c.args.offers.now (λ f. refl))

pub returns-then-not-wants : goal.returns-then-not-wants
returns-then-not-wants c =
    let s = c.args.statement.now in
    let d = unreached_after (stmt_of c.in-Some.before.now) in
    rw c.in-Some.is (subst (λ (p : Place). AddsDetails c.args.facts.now (of_code E30 (at_place p (Some d)))
    c.args.offers.now c.args.offers.now) (sym (first_is s.first s.kind))
    (shut_added c.args.facts.now E30 s.first (Some d) c.args.offers.now (sym c.wants.ensures ∙ c.if-not-wants.true)))

pub returns : goal.returns
returns c =
    let s = c.args.statement.now in
    let b = c.in-Some.before.now in
    let d = unreached_after (stmt_of b) in
    rw c.in-Some.is (on_ok c.keep.result (λ k. subst (λ (p : Place). AddsDetails c.args.facts.now
    (of_code E30 (at_place p (Some d))) c.args.offers.now c.keep.new.self) (sym (first_is s.first s.kind))
    (one_added c.args.facts.now E30 s.first d c.args.offers.now c.keep.new.self _
    (sym c.wants.ensures ∙ c.if-not-wants.false) k
    (ap₂ (λ w p. detail.unreachable w p) c.leaving_of.ensures (sym (first_is b.first b.kind))))) c.keep.ensures)
