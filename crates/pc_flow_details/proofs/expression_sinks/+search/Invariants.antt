use Rattle.std.proofs.Common.{List, false}
use Rattle.pc_tree.specs.Lists.{entries_of_list, exprs_of_list, keywords_of_list}
use Rattle.pc_tree.specs.declared.tree.Entry.{Entry as RustEntry}
use Rattle.pc_tree.specs.declared.tree.Expr.{Expr as RustExpr}
use Rattle.pc_tree.specs.declared.tree.KeywordArgument.{KeywordArgument as RustKeyword}
use Rattle.pc_scope.specs.Expressions.{parts_in_all, parts_in_entries, parts_in_keywords}
use Rattle.pc_flow_details.specs.Kept.{taken_in}
use Rattle.pc_flow_details.proofs.Kept.{LeftOf}
use Rattle.pc_flow_details.proofs.expression_sinks.+search.Given as goal

abbrev pub invariant-search_each-loop-expr : goal.invariant-search_each-loop-expr
invariant-search_each-loop-expr l =
    LeftOf l.facts (λ (xs : List RustExpr). taken_in l.facts l.owner (parts_in_all false (exprs_of_list xs)))
    l.exprs l.expr-index l.sinks l.fn.sinks

abbrev pub invariant-search_entries-loop-entry : goal.invariant-search_entries-loop-entry
invariant-search_entries-loop-entry l =
    LeftOf l.facts (λ (xs : List RustEntry). taken_in l.facts l.owner (parts_in_entries false (entries_of_list xs)))
    l.entries l.entry-index l.sinks l.fn.sinks

abbrev pub invariant-search_values-loop-keyword : goal.invariant-search_values-loop-keyword
invariant-search_values-loop-keyword l =
    LeftOf l.facts (λ (xs : List RustKeyword). taken_in l.facts l.owner (parts_in_keywords false (keywords_of_list xs)))
    l.keywords l.keyword-index l.sinks l.fn.sinks
