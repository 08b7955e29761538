use Rattle.std.proofs.Common.{◌∙◌, ◌++◌, ◌∷◌, [], List, Option, ap, arith, map, subst, sym, take}
use Rattle.std.proofs.lemmas.List.{append-nil, map-append, take_all}
use Rattle.std.specs.Option.{option_map}
use Rattle.std.specs.Prelude.{flat_map}
use Rattle.pc_tree.specs.declared.code.Code.TheVariants.{E08}
use Rattle.pc_tree.specs.declared.tree.Member.{Member as RustMember}
use Rattle.pc_tree.specs.Stopping.{name_of_member}
use Rattle.pc_tree.specs.Tree.{Name, class_of, member_of}
use Rattle.pc_class.specs.Entries.{MemberEntry, entries_of_members, entry_of_member, inherited_by}
use Rattle.pc_class.specs.Findings.{base_class}
use Rattle.pc_detail_facts.specs.Held.{module_held}
use Rattle.pc_detail_rules.specs.Names.{OwnedMember, bound_member, entry_order, first_from, members_above, place_of_entry}
use Rattle.pc_name_details.specs.Naming.{AreFirst, first_default, order_after, owned_member}
use Rattle.pc_name_details.specs.Offered.{AddsDetails, of_code, at_place}
use Rattle.pc_name_details.proofs.BoundMembers.{binds_if_new, entries_more, names_onto, number_behind}
use Rattle.pc_name_details.proofs.MemberOrders.{bound_each, default_after, from_one_more, new_name}
use Rattle.pc_name_details.proofs.NamingSteps.{code_added, mapped_more}
use Rattle.pc_name_details.proofs.class_members.add_orders_in.Goals as goal

pub loop-member-init : goal.loop-member-init
loop-member-init c = record {
  before = c.new-before.ensures;
  first = c.requires.above
      ∙ ap first_default (sym (append-nil (members_above (module_held c.args.facts.now) c.args.number)));
  added = code_added c.args.facts.now E08 c.args.offers.now;
}

pub loop-member-preserved : goal.loop-member-preserved
loop-member-preserved c =
    let facts = c.args.facts.now in
    let m = module_held facts in
    let class = class_of c.args.class.now in
    let above = members_above m c.args.number in
    let h = inherited_by (base_class m c.args.number class) in
    let items = c.deref-member-items.result.now in
    let i = c.loop-member.member-index in
    let x = c.member-item.result in
    let y = member_of x in
    let xs = map member_of (take i items) in
    let before = names_onto [] xs in
    let e = entry_of_member h before (number_behind 0 xs) y in
    let es = entries_of_members h [] 0 xs in
    let more = mapped_more member_of items i x c.loop-member-test.true c.member-item.is in
    let entries = ap (entries_of_members h [] 0) more ∙ entries_more h [] 0 xs y in
    let inv = c.loop-member.invariant in
    record {
      before = subst (λ (l : List Name). AreFirst c.add.new.self l)
          (ap (λ (n : Name). map name_of_member xs ++ n ∷ []) c.name.ensures
          ∙ sym (ap (map name_of_member) more ∙ map-append name_of_member xs (y ∷ [])))
          (c.in_ok-add.ensures (map name_of_member xs) inv.before);
      first = c.first_default-first.ensures
          ∙ default_after class above es e (option_map owned_member c.loop-member.first) c.binds_behind-binds.result inv.first
          (c.binds_behind-binds.ensures ∙ binds_if_new h before y _ (new_name c.loop-member.before xs (name_of_member y).text
          inv.before))
          ∙ ap (λ (l : List MemberEntry). first_default (above ++ flat_map (bound_member class) l)) (sym entries);
      added = subst (λ (l : List MemberEntry). AddsDetails facts (of_code E08 (λ p. first_from place_of_entry
          (entry_order above class) p [] l)) c.args.offers.now c.add_order.new.offers) (sym entries)
          (from_one_more facts E08 place_of_entry (entry_order above class) es e c.args.offers.now c.loop-member.offers
          c.add_order.new.offers inv.added (subst (λ (o : Option OwnedMember). AddsDetails facts (of_code E08
          (at_place (name_of_member y).place (order_after o y))) c.loop-member.offers c.add_order.new.offers) inv.first
          c.in_ok-add_order.ensures));
    }

pub returns : goal.returns
returns c =
    let facts = c.args.facts.now in
    let m = module_held facts in
    let class = class_of c.args.class.now in
    let above = members_above m c.args.number in
    let h = inherited_by (base_class m c.args.number class) in
    let items = c.deref-member-items.result.now in
    let all = take_all c.loop-member.member-index items (omega arith) ∙ c.deref-member-items.ensures.value in
    let inv = c.loop-member.invariant in
    record {
      added = subst (λ (l : List RustMember). AddsDetails facts (of_code E08 (λ p. first_from place_of_entry
          (entry_order above class) p [] (entries_of_members h [] 0 (map member_of l)))) c.args.offers.now
          c.loop-member.offers) all inv.added;
      first = inv.first ∙ ap (λ (l : List RustMember). first_default (above
          ++ flat_map (bound_member class) (entries_of_members h [] 0 (map member_of l)))) all
          ∙ ap (λ (l : List OwnedMember). first_default (above ++ l))
          (sym (bound_each class (entries_of_members h [] 0 (map member_of c.args.class.now.members.items))));
    }
