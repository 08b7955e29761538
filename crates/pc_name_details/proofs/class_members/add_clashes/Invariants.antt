use Rattle.std.proofs.Common.{◌≡◌, map, take}
use Rattle.pc_tree.specs.declared.code.Code.TheVariants.{E06}
use Rattle.pc_detail_facts.specs.Held.{class_lent, module_held}
use Rattle.pc_detail_rules.specs.Names.{clash_in_class, first_of_all, numbered_from}
use Rattle.pc_name_details.specs.Offered.{AddsDetails, of_code}
use Rattle.pc_name_details.proofs.class_members.add_clashes.Given as goal

abbrev pub invariant-loop-class : goal.invariant-loop-class
invariant-loop-class l = record {
  count : l.number ≡ l.class-index;
  added : AddsDetails l.facts (of_code E06 (λ p. first_of_all (clash_in_class (module_held l.facts) p)
      (numbered_from 0 (map class_lent (take l.class-index l.class-items))))) l.initial.offers l.offers;
}
