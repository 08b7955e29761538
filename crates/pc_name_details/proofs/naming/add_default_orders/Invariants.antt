use Rattle.std.proofs.Common.{◌≡◌, map, take}
use Rattle.std.specs.Option.{option_map}
use Rattle.std.specs.Prelude.{find, is_some}
use Rattle.pc_tree.specs.declared.code.Code.TheVariants.{E31}
use Rattle.pc_tree.specs.Tree.{param_of}
use Rattle.pc_detail_rules.specs.Names.{default_order_among}
use Rattle.pc_name_details.specs.Naming.{param_lent}
use Rattle.pc_name_details.specs.Offered.{AddsDetails, of_code}
use Rattle.pc_name_details.proofs.naming.add_default_orders.Given as goal

abbrev pub invariant-loop-param : goal.invariant-loop-param
invariant-loop-param l = record {
  first : option_map param_lent l.with_default
      ≡ find (λ y. is_some y.default) (map param_of (take l.param-index l.params));
  added : AddsDetails l.facts (of_code E31 (λ p. default_order_among p (map param_of (take l.param-index l.params))))
      l.initial.offers l.offers;
}
