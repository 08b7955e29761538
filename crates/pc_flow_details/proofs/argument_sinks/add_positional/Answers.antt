use Rattle.std.proofs.Common.{◌≡◌, ◌∙◌, ◌++◌, ◌+◌, ℕ, suc, List, map, drop, ap, arith}
use Rattle.std.proofs.Math.ListN.{drop_of_length-le}
use Rattle.std.specs.Prelude.{flat_map}
use Rattle.pc_tree.proofs.Stops.{cons_at}
use Rattle.pc_tree.specs.Depth.{place_of}
use Rattle.pc_tree.specs.Lists.{exprs_of_list}
use Rattle.pc_tree.specs.Tree.{expr_of}
use Rattle.pc_tree.specs.declared.tree.Expr.{Expr as RustExpr}
use Rattle.pc_detail_facts.specs.Callees.{called_of}
use Rattle.pc_detail_rules.specs.Sinks.{positional_on, positional_sinks}
use Rattle.pc_flow_details.proofs.Kept.{end_into, rest_into}
use Rattle.pc_flow_details.proofs.argument_sinks.add_positional.Goals as goal

pub loop-argument-preserved : goal.loop-argument-preserved
loop-argument-preserved c =
    let f = c.args.facts.now in
    let cs = map (called_of f) c.args.called.now in
    let i = c.loop-argument.argument-index in
    let k = c.loop-argument.position in
    let own = flat_map (positional_on (place_of (expr_of c.argument-item.result)) k) cs in
    let rest = exprs_of_list (drop (i + 1) c.args.arguments.now) in
    let next : suc k ≡ k + 1 = omega arith in
    record {
      left = rest_into f _ _ _ own (positional_sinks cs (k + 1) rest)
          (positional_sinks cs k (exprs_of_list (drop i c.args.arguments.now)))
          (ap (λ (xs : List RustExpr). positional_sinks cs k (exprs_of_list xs))
          (cons_at c.args.arguments.now i c.argument-item.result c.loop-argument-test.true c.argument-item.is)
          ∙ ap (λ (j : ℕ). own ++ positional_sinks cs j rest) next)
          c.loop-argument.invariant.left c.in_ok-add_at.ensures;
      count = omega (arith, c.loop-argument.invariant.count);
    }

pub returns : goal.returns
returns c =
    let f = c.args.facts.now in
    let cs = map (called_of f) c.args.called.now in
    end_into f _ _ (positional_sinks cs c.loop-argument.position
    (exprs_of_list (drop c.loop-argument.argument-index c.args.arguments.now)))
    (ap (λ (xs : List RustExpr). positional_sinks cs c.loop-argument.position (exprs_of_list xs))
    (drop_of_length-le c.args.arguments.now c.loop-argument-test.false)) c.loop-argument.invariant.left
