use Rattle.pc_tree.specs.declared.code.Code.TheVariants.{E01, E24, E31}
use Rattle.pc_detail_facts.specs.Held.{body_of}
use Rattle.pc_detail_rules.specs.Names.{default_order_in, late_in, parameters_together, twice_among}
use Rattle.pc_name_details.specs.Offered.{of_code}
use Rattle.pc_detail_rules.specs.Overrides.{detail_or}
use Rattle.pc_name_details.proofs.Offered.{added_both}
use Rattle.pc_detail_facts.proofs.Results.{on_ok}
use Rattle.pc_name_details.proofs.naming.add_body.Goals as goal

pub returns : goal.returns
returns c =
    let b = body_of c.args.body in
    let facts = c.args.facts.now in
    on_ok c.add_late_names.result (λ k. added_both facts (of_code E01 (λ p. twice_among p (parameters_together b)))
    (λ f. detail_or (of_code E31 (λ p. default_order_in p b) f) (of_code E24 (λ p. late_in p b) f)) c.args.offers.now
    c.add_params_twice.new.offers c.add_late_names.new.offers c.in_ok-add_params_twice.ensures
    (added_both facts (of_code E31 (λ p. default_order_in p b)) (of_code E24 (λ p. late_in p b))
    c.add_params_twice.new.offers c.add_default_orders.new.offers c.add_late_names.new.offers
    (rw c.deref.ensures.value at c.in_ok-add_default_orders.ensures) k)) c.add_late_names.ensures
