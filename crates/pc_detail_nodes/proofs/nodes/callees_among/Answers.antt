use Rattle.std.proofs.Common.{◌∙◌, List, ap, sym, map, take, arith}
use Rattle.std.proofs.lemmas.List.{take_all}
use Rattle.std.specs.List.{list_any}
use Rattle.std.specs.Prelude.{◌||◌, Bool}
use Rattle.pc_tree.specs.Tree.{expr_of}
use Rattle.pc_detail_rules.specs.Explains.{calls_at}
use Rattle.pc_detail_facts.specs.Held.{owned_of}
use Rattle.pc_detail_rules.specs.Nodes.{OwnedExpr}
use Rattle.pc_detail_facts.specs.declared.definitions.OwnedExpr.{OwnedExpr as RustOwned}
use Rattle.pc_detail_nodes.proofs.PlacesMarked.{any_more}
use Rattle.pc_detail_nodes.proofs.nodes.callees_among.Goals as goal

pub loop-owned-preserved : goal.loop-owned-preserved
loop-owned-preserved c = λ p. c.in_ok-add_callee.ensures p
    ∙ ap (λ (b : Bool). b || calls_at p (expr_of c.owned-item.result.expr.now)) (c.loop-owned.invariant p)
    ∙ sym (any_more owned_of (λ (o : OwnedExpr). calls_at p o.expr) c.args.exprs.now c.loop-owned.owned-index
    c.owned-item.result c.loop-owned-test.true c.owned-item.is)

pub returns : goal.returns
returns c = λ p. c.loop-owned.invariant p
    ∙ ap (λ (l : List RustOwned). list_any (λ (o : OwnedExpr). calls_at p o.expr) (map owned_of l))
    (take_all c.loop-owned.owned-index c.args.exprs.now (omega arith))
