use Rattle.pc_detail_facts.specs.declared.called.CallTarget.{CallTarget}
use Rattle.std.proofs.Common.{List, map, refl}
use Rattle.pc_detail_facts.specs.Callees.{called_of}
use Rattle.pc_tree.specs.Tree.{expr_of, name_of}
use Rattle.std.specs.Prelude.{flat_map}
use Rattle.pc_detail_rules.specs.Sinks.{named_on}
use Rattle.pc_tree.specs.Depth.{place_of}
use Rattle.pc_flow_details.proofs.Kept.{end_of, next_of}
use Rattle.pc_flow_details.proofs.argument_sinks.add_by_name.Goals as goal

pub loop-callee-preserved : goal.loop-callee-preserved
loop-callee-preserved c =
    let f = c.args.facts.now in
    let place = place_of (expr_of c.args.keyword.now.value) in
    let word = (name_of c.args.keyword.now.name).text in
    next_of f (λ (xs : List CallTarget). flat_map (named_on place word) (map (called_of f) xs))
    (named_on place word (called_of f c.callee-item.result)) _
    c.loop-callee.callee-index c.callee-item.result _ _ _ refl c.loop-callee-test.true c.callee-item.is
    c.loop-callee.invariant
    c.in_ok-add_argument_named.ensures

pub returns : goal.returns
returns c =
    let f = c.args.facts.now in
    end_of f (λ (xs : List CallTarget). flat_map (named_on (place_of (expr_of c.args.keyword.now.value))
    (name_of c.args.keyword.now.name).text) (map (called_of f) xs)) _
    c.loop-callee.callee-index _ _ refl c.loop-callee-test.false c.loop-callee.invariant
