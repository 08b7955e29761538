use Rattle.std.proofs.Common.{◌≡◌, ◌∷◌, [], List, refl, subst}
use Rattle.pc_tree.specs.Depth.{place_of}
use Rattle.pc_tree.specs.Lists.{exprs_of_list}
use Rattle.pc_tree.specs.Tree.{expr_of}
use Rattle.pc_tree.specs.declared.tree.Expr.{Expr as RustExpr}
use Rattle.pc_types.specs.Boxed.{tree_of}
use Rattle.pc_types.specs.Tree.{Tree, ListOf}
use Rattle.pc_detail_texts.specs.Details as detail
use Rattle.pc_flow_details.specs.Kept.{first_of_both, flows_to_sinks, flows_kept}
use Rattle.pc_detail_rules.specs.Sinks.{item_sinks, one_sink}
use Rattle.pc_flow_details.proofs.Kept.{end_of, next_of}
use Rattle.pc_flow_details.proofs.taken.add_each_item.Goals as goal

pub loop-e-preserved : goal.loop-e-preserved
loop-e-preserved c =
    let f = c.args.facts.now in
    let u = tree_of c.args.item.now in
    let place = place_of (expr_of c.e-item.result) in
    next_of f (λ (xs : List RustExpr). item_sinks (ListOf u) (exprs_of_list xs))
    (one_sink place (detail.an_item (ListOf u)) u ∷ []) _ c.loop-e.e-index c.e-item.result _ _ _ refl
    c.loop-e-test.true c.e-item.is c.loop-e.invariant
    (subst (λ (x : Tree). flows_kept c.add_item.new.sinks ≡ first_of_both (flows_kept c.loop-e.sinks)
    (flows_to_sinks f (one_sink place (detail.an_item x) u ∷ []))) c.requires.list c.in_ok-add_item.ensures)

pub returns : goal.returns
returns c =
    let f = c.args.facts.now in
    let u = tree_of c.args.item.now in
    end_of f (λ (xs : List RustExpr). item_sinks (ListOf u) (exprs_of_list xs)) _ c.loop-e.e-index _ _ refl
    c.loop-e-test.false c.loop-e.invariant
