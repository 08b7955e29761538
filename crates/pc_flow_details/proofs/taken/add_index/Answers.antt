use Rattle.std.proofs.Common.{◌≡◌, ◌∙◌, Bor, List, ap, map, refl, subst}
use Rattle.pc_types.specs.declared.boxed.BoxType.{BoxType}
use Rattle.pc_tree.specs.Tree.{expr_of}
use Rattle.std.specs.Prelude.{flat_map}
use Rattle.pc_detail_rules.specs.Sinks.{index_in}
use Rattle.pc_detail_facts.specs.Held.{module_held, tree_lent}
use Rattle.pc_types.specs.Tree.{Tree}
use Rattle.pc_flow_details.specs.Kept.{first_of_both, flows_to_sinks, flows_kept}
use Rattle.pc_flow_details.proofs.Kept.{end_of, next_of}
use Rattle.pc_flow_details.proofs.taken.add_index.Goals as goal

pub loop-member-preserved : goal.loop-member-preserved
loop-member-preserved c =
    let f = c.args.facts.now in
    next_of f (λ (xs : List (Bor BoxType)). flat_map (index_in (module_held f) (expr_of c.args.index.now))
    (map tree_lent xs)) (index_in (module_held f) (expr_of c.args.index.now) (tree_lent c.member-item.result)) _
    c.loop-member.member-index c.member-item.result _ _ _ refl c.loop-member-test.true c.member-item.is
    c.loop-member.invariant
    c.in_ok-add_index_in.ensures

pub returns : goal.returns
returns c =
    let f = c.args.facts.now in
    let same = ap (λ (l : List (Bor BoxType)). map tree_lent l) c.deref-member-items.ensures.value
    ∙ c.in_ok-members.ensures.trees in
    subst (λ (l : List Tree). flows_kept c.loop-member.sinks
    ≡ first_of_both (flows_kept c.args.sinks.now) (flows_to_sinks f
    (flat_map (index_in (module_held f) (expr_of c.args.index.now)) l))) same
    (end_of f (λ (xs : List (Bor BoxType)). flat_map (index_in (module_held f) (expr_of c.args.index.now))
    (map tree_lent xs)) _ c.loop-member.member-index _ _ refl c.loop-member-test.false c.loop-member.invariant)
