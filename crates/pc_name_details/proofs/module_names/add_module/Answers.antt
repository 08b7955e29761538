use Rattle.pc_tree.specs.declared.code.Code.TheVariants.{E01, E29}
use Rattle.pc_scope.specs.Bindings.{Body, bodies, classes_in}
use Rattle.std.proofs.Common.{List, subst}
use Rattle.pc_detail_facts.specs.Held.{module_held}
use Rattle.pc_detail_rules.specs.Names.{first_of_all, items_together, reserved_detail, twice_among}
use Rattle.pc_name_details.specs.Naming.{body_rule, names_of_classes, head_rule, members_rule}
use Rattle.pc_name_details.specs.Offered.{AddsDetails, Rule, of_code}
use Rattle.pc_detail_rules.specs.Overrides.{detail_or}
use Rattle.pc_name_details.proofs.NamingSteps.{both_ways}
use Rattle.pc_name_details.proofs.Offered.{added_as, added_both}
use Rattle.pc_detail_facts.proofs.Results.{on_ok}
use Rattle.pc_name_details.proofs.module_names.add_module.Goals as goal

pub returns : goal.returns
returns c =
    let facts = c.args.facts.now in
    let m = module_held facts in
    let classes = classes_in m.items in
    let items : Rule = of_code E01 (λ p. twice_among p (items_together m)) in
    let reserved : Rule = of_code E29 (reserved_detail m) in
    let heads : Rule = λ f. first_of_all (λ d. head_rule (names_of_classes classes) d f) classes in
    let bound : List Body → Rule = λ bs f. first_of_all (λ b. body_rule b f) bs in
    let a = c.args.offers.now in
    let o = c.add_bodies.new.offers in
    on_ok c.add_bodies.result (λ k.
    let last = subst (λ (bs : List Body). AddsDetails facts (bound bs) c.add_members.new.offers o) c.requires.bodies k in
    let rest = added_both facts (members_rule m) (bound (bodies m)) c.add_heads.new.offers c.add_members.new.offers o
    c.in_ok-add_members.ensures last in
    let more = added_both facts heads (λ f. detail_or (members_rule m f) (bound (bodies m) f)) c.add_items.new.offers
    c.add_heads.new.offers o c.in_ok-add_heads.ensures rest in
    added_as facts _ _ a o (λ f. both_ways (items f) (reserved f) _)
    (added_both facts (λ f. detail_or (items f) (reserved f))
    (λ f. detail_or (heads f) (detail_or (members_rule m f) (bound (bodies m) f))) a c.add_items.new.offers o
    c.in_ok-add_items.ensures more)) c.add_bodies.ensures
