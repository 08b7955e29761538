use Rattle.std.proofs.Common.{◌≡◌, length, map, take}
use Rattle.pc_tree.specs.declared.code.Code.TheVariants.{E08}
use Rattle.pc_detail_facts.specs.Held.{class_lent, module_held}
use Rattle.pc_detail_rules.specs.Names.{first_of_all, numbered_from, order_in_class}
use Rattle.pc_name_details.specs.Naming.{AreFirstDefaults}
use Rattle.pc_name_details.specs.Offered.{AddsDetails, of_code}
use Rattle.pc_name_details.proofs.class_members.add_orders.Given as goal

abbrev pub invariant-loop-class : goal.invariant-loop-class
invariant-loop-class l = record {
  count : length l.first.items ≡ l.class-index;
  first : AreFirstDefaults (module_held l.facts) l.first.items;
  added : AddsDetails l.facts (of_code E08 (λ p. first_of_all (order_in_class (module_held l.facts) p)
      (numbered_from 0 (map class_lent (take l.class-index l.class-items))))) l.initial.offers l.offers;
}
