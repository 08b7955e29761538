use Rattle.std.proofs.Common.{List, map, refl}
use Rattle.pc_tree.specs.Lists.{keywords_of_list}
use Rattle.pc_tree.specs.declared.tree.KeywordArgument.{KeywordArgument as RustKeyword}
use Rattle.pc_detail_facts.specs.Callees.{called_of}
use Rattle.pc_detail_rules.specs.Sinks.{named_sinks}
use Rattle.pc_flow_details.proofs.Kept.{end_of, next_of}
use Rattle.pc_flow_details.proofs.argument_sinks.add_named.Goals as goal

pub loop-keyword-preserved : goal.loop-keyword-preserved
loop-keyword-preserved c =
    let f = c.args.facts.now in
    next_of f (λ (xs : List RustKeyword). named_sinks (map (called_of f) c.args.called.now) (keywords_of_list xs)) _ _
    c.loop-keyword.keyword-index c.keyword-item.result _ _ _ refl c.loop-keyword-test.true c.keyword-item.is
    c.loop-keyword.invariant c.in_ok-add_by_name.ensures

pub returns : goal.returns
returns c =
    let f = c.args.facts.now in
    end_of f (λ (xs : List RustKeyword). named_sinks (map (called_of f) c.args.called.now) (keywords_of_list xs)) _
    c.loop-keyword.keyword-index _ _ refl c.loop-keyword-test.false c.loop-keyword.invariant
