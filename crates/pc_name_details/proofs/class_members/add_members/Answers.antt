use Rattle.pc_tree.specs.declared.code.Code.TheVariants.{E06, E08}
use Rattle.pc_detail_facts.specs.Held.{module_held}
use Rattle.pc_detail_rules.specs.Names.{field_order_detail, twice_member_detail}
use Rattle.pc_name_details.specs.Offered.{of_code}
use Rattle.pc_name_details.proofs.Offered.{added_both}
use Rattle.pc_detail_facts.proofs.Results.{on_ok}
use Rattle.pc_name_details.proofs.class_members.add_members.Goals as goal

pub returns : goal.returns
returns c =
    let m = module_held c.args.facts.now in
    on_ok c.add_orders.result (λ k. added_both c.args.facts.now (of_code E06 (twice_member_detail m))
    (of_code E08 (field_order_detail m)) c.args.offers.now c.add_clashes.new.offers c.add_orders.new.offers
    c.in_ok-add_clashes.ensures k) c.add_orders.ensures
