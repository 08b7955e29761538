use Rattle.std.proofs.Common.{◌∙◌, Some, ap, subst, sym}
use Rattle.pc_detail_texts.specs.Shortened.{shortened}
use Rattle.pc_tree.specs.declared.code.Code.TheVariants.{E08}
use Rattle.pc_tree.specs.Stopping.{name_of_member}
use Rattle.pc_tree.specs.Tree.{Name, member_of}
use Rattle.pc_detail_rules.specs.Names.{field_order_after}
use Rattle.pc_name_details.specs.Naming.{owned_member}
use Rattle.pc_name_details.specs.Offered.{AddsDetails, of_code, at_place}
use Rattle.pc_name_details.proofs.MemberDetails.{order_shown}
use Rattle.pc_name_details.proofs.Offered.{nothing_added, one_added, shut_added}
use Rattle.pc_detail_facts.proofs.Results.{none_left, on_ok}
use Rattle.pc_name_details.proofs.class_members.add_order.Goals as goal

pub returns-in_default : goal.returns-in_default
returns-in_default c = rw (none_left c.args.before c.in_default.not-Some) (nothing_added c.args.facts.now E08 (name_of_member (member_of c.args.member.now)).place c.args.offers.now)

pub returns-then-not-wants : goal.returns-then-not-wants
returns-then-not-wants c =
    let d = field_order_after (member_of c.args.member.now) (owned_member c.in-Some.before) in
    rw c.in-Some.is (subst (λ (n : Name). AddsDetails c.args.facts.now (of_code E08 (at_place n.place (Some d)))
    c.args.offers.now c.args.offers.now) c.name-name.ensures (shut_added c.args.facts.now E08 c.name-name.result.now.place (Some d)
    c.args.offers.now (sym c.wants.ensures ∙ c.if-not-wants.true)))

pub returns : goal.returns
returns c =
    let x = member_of c.args.member.now in
    let o = owned_member c.in-Some.before in
    let d = field_order_after x o in
    rw c.in-Some.is (on_ok c.keep.result (λ k. subst (λ (n : Name). AddsDetails c.args.facts.now (of_code E08 (at_place n.place (Some d)))
    c.args.offers.now c.keep.new.self) c.name-name.ensures (one_added c.args.facts.now E08 c.name-name.result.now.place d
    c.args.offers.now c.keep.new.self _ (sym c.wants.ensures ∙ c.if-not-wants.false) k
    (order_shown x o _ _ _ _
    (c.in_ok-words.ensures ∙ ap shortened (c.as_str.ensures.value ∙ ap (λ (n : Name). n.text) c.name-name.ensures))
    (c.in_ok-class.ensures ∙ ap shortened c.as_str-3.ensures.value)
    (c.in_ok-words-2.ensures ∙ ap shortened (c.as_str-2.ensures.value ∙ ap (λ (n : Name). n.text) c.name-with_default.ensures))
    (ap (λ (n : Name). n.place) c.name-with_default.ensures)))) c.keep.ensures)
