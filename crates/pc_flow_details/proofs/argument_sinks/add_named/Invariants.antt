use Rattle.std.proofs.Common.{List, map}
use Rattle.pc_tree.specs.declared.tree.KeywordArgument.{KeywordArgument as RustKeyword}
use Rattle.pc_detail_facts.specs.Callees.{called_of}
use Rattle.pc_tree.specs.Lists.{keywords_of_list}
use Rattle.pc_detail_rules.specs.Sinks.{named_sinks}
use Rattle.pc_flow_details.proofs.Kept.{LeftOf}
use Rattle.pc_flow_details.proofs.argument_sinks.add_named.Given as goal

abbrev pub invariant-loop-keyword : goal.invariant-loop-keyword
invariant-loop-keyword l =
    LeftOf l.facts (λ (xs : List (RustKeyword)).
    named_sinks (map (called_of l.facts) l.called) (keywords_of_list xs)) l.keywords l.keyword-index l.sinks l.fn.sinks
