use Rattle.std.proofs.Common.{sym, subst}
use Rattle.std.specs.Prelude.{IfOk}
use Rattle.pc_tree.specs.Tree.{Expr}
use Rattle.pc_tree.proofs.Trees.{call_tree}
use Rattle.pc_detail_facts.specs.Held.{ShowsDetail, known_held}
use Rattle.pc_detail_rules.specs.Statements.{list_test_detail}
use Rattle.pc_type_details.proofs.statements.list_test_detail.Goals as goal

pub returns : goal.returns
returns c = rw c.in-Call.is (subst (λ (x : Expr). IfOk c.first_tested.result (ShowsDetail c.args.facts.now
    (list_test_detail (known_held c.args.facts.now) x)))
    (sym (call_tree c.in-Call.place c.in-Call.callee c.in-Call.arguments c.in-Call.keywords))
    (rw c.deref.ensures.value at c.first_tested.ensures))
