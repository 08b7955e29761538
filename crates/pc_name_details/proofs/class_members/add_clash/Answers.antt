use Rattle.std.proofs.Common.{◌∙◌, Option, Some, ap, refl, subst, sym, take}
use Rattle.std.specs.Option.{option_map}
use Rattle.pc_tree.specs.declared.code.Code.TheVariants.{E06}
use Rattle.pc_tree.specs.Code.{finding}
use Rattle.pc_tree.specs.Stopping.{name_of_member}
use Rattle.pc_tree.specs.Tree.{Member, Name, class_of, member_of}
use Rattle.pc_detail_facts.specs.Held.{module_held}
use Rattle.pc_detail_rules.specs.Names.{OwnedMember, clash_detail, member_detail}
use Rattle.pc_name_details.specs.Naming.{numbered_held, owned_member}
use Rattle.pc_name_details.specs.Offered.{AddsDetails, is_still_open, of_code, at_place}
use Rattle.pc_name_details.proofs.MemberDetails.{this_member}
use Rattle.pc_name_details.proofs.Offered.{nothing_added, one_added, shut_added}
use Rattle.pc_detail_facts.proofs.Results.{on_ok}
use Rattle.pc_name_details.proofs.class_members.add_clash.Goals as goal

pub returns-then-not-wants : goal.returns-then-not-wants
returns-then-not-wants c = λ y at.
    let facts = c.args.facts.now in
    let m = module_held facts in
    let n = numbered_held c.args.number c.args.class.now in
    let xs = c.args.class.now.members.items in
    let x = c.index-member.result.now in
    let before = take c.args.position (class_of c.args.class.now).members in
    let a = c.args.offers.now in
    subst (λ (z : Member). AddsDetails facts (of_code E06 (at_place (name_of_member z).place (clash_detail m n before z))) a a)
    (this_member xs c.args.position x y c.requires.within c.index-member.ensures at)
    (subst (λ (k : Name). AddsDetails facts (of_code E06 (at_place k.place (clash_detail m n before (member_of x)))) a a)
    c.name.ensures (shut_added facts E06 c.name.result.now.place (clash_detail m n before (member_of x)) a
    (sym c.wants.ensures ∙ c.if-not-wants.true)))

pub returns-in-Some : goal.returns-in-Some
returns-in-Some c = λ y at.
    let facts = c.args.facts.now in
    let xs = c.args.class.now.members.items in
    let x = c.index-member.result.now in
    let a = c.args.offers.now in
    let same = this_member xs c.args.position x y c.requires.within c.index-member.ensures at in
    on_ok c.keep_member.result (λ k. subst (λ (o : Option OwnedMember). AddsDetails facts (of_code E06
    (at_place (name_of_member y).place (option_map member_detail o))) a c.keep_member.new.offers)
    (sym (ap (option_map owned_member) c.in-Some.is) ∙ c.clash_at.ensures y at)
    (subst (λ (z : Member). AddsDetails facts (of_code E06 (at_place (name_of_member z).place
    (Some (member_detail (owned_member c.in-Some.other))))) a c.keep_member.new.offers) same
    (one_added facts E06 (name_of_member (member_of x)).place _ a c.keep_member.new.offers _
    (ap (λ (q : Name). is_still_open a (finding q.place E06)) (sym c.name.ensures) ∙ sym c.wants.ensures
    ∙ c.if-not-wants.false) k refl))) c.keep_member.ensures

pub returns-in-None : goal.returns-in-None
returns-in-None c = λ y at.
    let facts = c.args.facts.now in
    let a = c.args.offers.now in
    subst (λ (o : Option OwnedMember). AddsDetails facts (of_code E06
    (at_place (name_of_member y).place (option_map member_detail o))) a a)
    (sym (ap (option_map owned_member) c.in-None.is) ∙ c.clash_at.ensures y at)
    (nothing_added facts E06 (name_of_member y).place a)
