use Rattle.std.proofs.Common.{◌≡◌, ◌++◌, [], map, take}
use Rattle.std.specs.Option.{option_map}
use Rattle.std.specs.Prelude.{flat_map}
use Rattle.pc_tree.specs.declared.code.Code.TheVariants.{E08}
use Rattle.pc_tree.specs.Stopping.{name_of_member}
use Rattle.pc_tree.specs.Tree.{class_of, member_of}
use Rattle.pc_class.specs.Entries.{entries_of_members, inherited_by}
use Rattle.pc_class.specs.Findings.{base_class}
use Rattle.pc_detail_facts.specs.Held.{module_held}
use Rattle.pc_detail_rules.specs.Names.{bound_member, entry_order, first_from, members_above, place_of_entry}
use Rattle.pc_name_details.specs.Naming.{AreFirst, first_default, owned_member}
use Rattle.pc_name_details.specs.Offered.{AddsDetails, of_code}
use Rattle.pc_name_details.proofs.class_members.add_orders_in.Given as goal

abbrev pub invariant-loop-member : goal.invariant-loop-member
invariant-loop-member l =
    let m = module_held l.facts in
    let class = class_of l.class in
    let entries = entries_of_members (inherited_by (base_class m l.number class)) [] 0
    (map member_of (take l.member-index l.member-items)) in
    record {
      before : AreFirst l.before (map name_of_member (map member_of (take l.member-index l.member-items)));
      first : option_map owned_member l.first
          ≡ first_default (members_above m l.number ++ flat_map (bound_member class) entries);
      added : AddsDetails l.facts (of_code E08 (λ p. first_from place_of_entry
          (entry_order (members_above m l.number) class) p [] entries)) l.initial.offers l.offers;
    }
