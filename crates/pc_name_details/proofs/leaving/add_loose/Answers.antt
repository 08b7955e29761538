use Rattle.std.proofs.Common.{◌∙◌, Option, ap, refl, subst, sym}
use Rattle.std.specs.Option.{option_map}
use Rattle.pc_source.specs.declared.place.Place.{Place}
use Rattle.pc_tree.specs.declared.code.Code.TheVariants.{E05}
use Rattle.pc_tree.specs.Tree.{stmt_of}
use Rattle.pc_scope_findings.proofs.Reached.{first_is}
use Rattle.pc_types.specs.Tree.{Tree}
use Rattle.pc_detail_texts.specs.Details.{Detail}
use Rattle.pc_name_details.specs.Naming.{outside_of_value}
use Rattle.pc_name_details.specs.Offered.{AddsDetails, of_code, at_place}
use Rattle.pc_detail_rules.specs.Statements.{loose_detail}
use Rattle.pc_name_details.proofs.Offered.{nothing_added, one_added, shut_added}
use Rattle.pc_detail_facts.proofs.Results.{none_left, on_ok}
use Rattle.pc_name_details.proofs.leaving.add_loose.Goals as goal

pub returns-in_default : goal.returns-in_default
returns-in_default c =
    let s = c.args.statement.now in
    subst (λ (p : Place). AddsDetails c.args.facts.now (of_code E05 (at_place p (loose_detail (stmt_of s))))
    c.args.offers.now c.args.offers.now) (sym (first_is s.first s.kind))
    (subst (λ (d : Option (Detail Tree)). AddsDetails c.args.facts.now (of_code E05 (at_place s.first d)) c.args.offers.now
    c.args.offers.now) (sym (ap (option_map outside_of_value) (none_left c.loose.result c.in_default.not-Some))
    ∙ c.loose.ensures) (nothing_added c.args.facts.now E05 s.first c.args.offers.now))

pub returns-then-not-wants : goal.returns-then-not-wants
returns-then-not-wants c =
    let s = c.args.statement.now in
    subst (λ (p : Place). AddsDetails c.args.facts.now (of_code E05 (at_place p (loose_detail (stmt_of s))))
    c.args.offers.now c.args.offers.now) (sym (first_is s.first s.kind))
    (shut_added c.args.facts.now E05 s.first (loose_detail (stmt_of s)) c.args.offers.now
    (sym c.wants.ensures ∙ c.if-not-wants.true))

pub returns : goal.returns
returns c =
    let s = c.args.statement.now in
    on_ok c.keep.result (λ k. subst (λ (p : Place). AddsDetails c.args.facts.now
    (of_code E05 (at_place p (loose_detail (stmt_of s)))) c.args.offers.now c.keep.new.self)
    (sym (first_is s.first s.kind))
    (subst (λ (d : Option (Detail Tree)). AddsDetails c.args.facts.now (of_code E05 (at_place s.first d)) c.args.offers.now
    c.keep.new.self) (sym (ap (option_map outside_of_value) c.in-Some.is) ∙ c.loose.ensures)
    (one_added c.args.facts.now E05 s.first (outside_of_value c.in-Some.word) c.args.offers.now c.keep.new.self _
    (sym c.wants.ensures ∙ c.if-not-wants.false) k refl))) c.keep.ensures
