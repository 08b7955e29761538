use Rattle.std.proofs.Common.{sym, ◌∙◌}
use Rattle.pc_tree.specs.Tree.{expr_of}
use Rattle.pc_tree.specs.Lists.{keywords_of_list}
use Rattle.pc_expr.proofs.CallForms.{two_tested}
use Rattle.pc_expr.proofs.call_labels.is_test.Goals as goal

pub returns-clause-two : goal.returns-clause-two
returns-clause-two c = λ h. two_tested (expr_of c.args.callee.now) c.args.arguments.now
    (keywords_of_list c.args.by_name.now) (sym c.is_instance_test.ensures ∙ h)
