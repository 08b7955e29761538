use Rattle.std.proofs.Common.{◌∙◌, Option, map, refl, subst, take, arith, List}
use Rattle.std.specs.Option.{option_map}
use Rattle.pc_tree.specs.declared.code.Code.TheVariants.{E31}
use Rattle.pc_tree.specs.Tree.{Param, param_of}
use Rattle.pc_detail_rules.specs.Names.{default_order_after, order_of_param, place_of_param}
use Rattle.pc_name_details.specs.Offered.{AddsDetails, of_code, at_place}
use Rattle.pc_detail_rules.specs.Names.{default_order_among}
use Rattle.std.proofs.lemmas.List.{take_all}
use Rattle.pc_tree.specs.declared.tree.Param.{Param as RustParam}
use Rattle.pc_name_details.proofs.NamingSteps.{code_added, default_more, from_next}
use Rattle.pc_name_details.proofs.naming.add_default_orders.Goals as goal

pub loop-param-init : goal.loop-param-init
loop-param-init c = record { first = refl; added = code_added c.args.facts.now E31 c.args.offers.now }

pub loop-param-preserved : goal.loop-param-preserved
loop-param-preserved c =
    let params = c.args.params.now in
    let i = c.loop-param.param-index in
    let x = c.param-item.result in
    let before = map param_of (take i params) in
    record {
      first = c.first_with_default-with_default.ensures
          ∙ default_more params i x c.loop-param-test.true c.param-item.is _ c.loop-param.invariant.first;
      added = from_next param_of c.args.facts.now params i x c.loop-param-test.true c.param-item.is c.args.offers.now
          c.loop-param.offers c.add_default_order.new.offers E31 place_of_param order_of_param c.loop-param.invariant.added
          (subst (λ (o : Option Param). AddsDetails c.args.facts.now (of_code E31 (at_place (place_of_param (param_of x))
          (option_map (default_order_after (param_of x).name) o))) c.loop-param.offers c.add_default_order.new.offers)
          c.loop-param.invariant.first c.in_ok-add_default_order.ensures);
    }

pub returns : goal.returns
returns c = subst (λ (l : List RustParam). AddsDetails c.args.facts.now
    (of_code E31 (λ p. default_order_among p (map param_of l))) c.args.offers.now c.loop-param.offers)
    (take_all c.loop-param.param-index c.args.params.now (omega arith)) c.loop-param.invariant.added
