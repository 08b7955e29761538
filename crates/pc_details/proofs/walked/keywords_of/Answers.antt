use Rattle.std.proofs.Common.{◌∙◌, ◌∷◌, [], List, ap, sym}
use Rattle.pc_tree.proofs.Trees.{call_tree}
use Rattle.pc_tree.specs.Lists.{keywords_of_list}
use Rattle.pc_tree.specs.Tree.{expr_of}
use Rattle.pc_tree.specs.declared.tree.Expr.{Expr as RustExpr}
use Rattle.pc_tree.specs.declared.tree.KeywordArgument.{KeywordArgument as RustKeyword}
use Rattle.pc_scope.specs.Expressions.{keyword_names}
use Rattle.pc_detail_rules.specs.Names.{arguments_of}
use Rattle.pc_name_details.specs.Naming.{arguments_named}
use Rattle.pc_details.proofs.walked.keywords_of.Goals as goal

pub returns-in-Call : goal.returns-in-Call
returns-in-Call c =
    ap (λ (ks : List RustKeyword). arguments_named (keyword_names (keywords_of_list ks)) ∷ [])
    c.deref.ensures.value ∙ sym (ap (λ (x : RustExpr). arguments_of (expr_of x)) c.in-Call.is
    ∙ ap arguments_of (call_tree c.in-Call.place c.in-Call.callee c.in-Call.arguments c.in-Call.keywords))
