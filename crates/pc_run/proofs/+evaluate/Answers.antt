use Rattle.std.proofs.Common.{rules, ◌≡◌, ◌<◌, ◌+◌, ◌∙◌, sym, ap, arith, drop, true, false, inl, inr, suc, ◌⊎◌}
use Rattle.std.specs.Prelude.{Err}
use Rattle.pc_tree.specs.Tree.{expr_of, stmts_of_list, stmt_of}
use Rattle.pc_value.specs.Meaning.{value_of}
use Rattle.pc_value.specs.Doing.{iteration_of, action_of}
use Rattle.pc_value.proofs.Views.{tuple_value}
use Rattle.pc_value.specs.Meaning.{heap_of}
use Rattle.pc_value.specs.Value.{is_true}
use Rattle.pc_machine.specs.Steps.{next, breaking, continuing, leaves}
use Rattle.pc_machine.specs.Plain.{Came, and_then, act, after_change}
use Rattle.pc_machine.specs.Evaluation.{binds_local}
use Rattle.pc_machine.specs.Runs.{plain_parts}
use Rattle.pc_run.specs.Internal.Nodes.{charged_expr, exec_one, branches_in}
use Rattle.pc_machine.specs.Performed.{empty_charged}
use Rattle.pc_machine.specs.Machine.{progress_of, unit, flow_of, value_if_any}
use Rattle.pc_run.specs.Internal.Nodes.{values_of_vec}
use Rattle.pc_tree.specs.Lists.{branches_of_list, exprs_of_list, keywords_of_list}
use Rattle.pc_run.specs.Internal.CallForms.{form_seen}
use Rattle.pc_machine.specs.Steps.{item_out}
use Rattle.pc_machine.specs.Evaluation as text
use Rattle.pc_machine.specs.Plain.{Step, plain, after_event}
use Rattle.pc_run.proofs.Bounds.{turn_index}
use Rattle.pc_run.proofs.Steps.{spent_turn, tells_as, went, turned_err, turned_break, turned_leave, suite_to, suite_err}
use Rattle.pc_run.proofs.Steps.{while_more, for_more, stmts_next, stmts_end, other_flow, ends, charged_eval, begun}
use Rattle.pc_run.proofs.Steps.{uncharged, nothing_left, branch_taken, branch_passed, while_err, while_over, while_turn}
use Rattle.pc_run.proofs.Steps.{for_err, for_over, for_turn, suite_uncharged}
use Rattle.pc_value.specs.declared.action.Action.TheVariants as rust_action
use Rattle.pc_tree.specs.declared.tree.Branch.{out-Branch}
use Rattle.pc_tree.proofs.Trees.{branches_next, tuple_tree, list_tree, dict_tree, call_tree, while_tree, for_tree}
use Rattle.pc_tree.proofs.Trees.{if_tree}
use Rattle.pc_run.proofs.+evaluate.Goals as goal
use Rattle.pc_run.proofs.+evaluate.Goals.{loops::run_while-in-Next, loops::run_while-in-Continuing}
use Rattle.pc_run.proofs.+evaluate.Goals.{loops::run_for-in-Next, loops::run_for-in-Continuing}

pub calls::call-returns-in-Function-clause-plain : goal.calls::call-returns-in-Function-clause-plain
calls::call-returns-in-Function-clause-plain t c n lt = rw c.in-Function.is (c.enter.ensures.plain n lt)

pub calls::call-returns-in-Class-clause-plain : goal.calls::call-returns-in-Class-clause-plain
calls::call-returns-in-Class-clause-plain t c n lt = rw c.in-Class.is (c.make_instance.ensures.plain n)

pub calls::call-returns-in-Reserved-clause-plain : goal.calls::call-returns-in-Reserved-clause-plain
calls::call-returns-in-Reserved-clause-plain t c n lt = rw c.in-Reserved.is (c.call_reserved.ensures.plain n)

pub calls::call-returns-in-Method-clause-plain : goal.calls::call-returns-in-Method-clause-plain
calls::call-returns-in-Method-clause-plain t c n lt = rw c.in-Method.is (c.enter-in-Method.ensures.plain n lt)

pub calls::call-returns-clause-plain : goal.calls::call-returns-clause-plain
calls::call-returns-clause-plain t c n lt = rw c.in-BuiltinMethod.is (c.call_builtin_method.ensures.plain n)

pub evaluate::eval-returns-clause-plain : goal.evaluate::eval-returns-clause-plain
evaluate::eval-returns-clause-plain t c n lt =
    let w = charged_eval n (expr_of c.args.e.now) (progress_of c.args.machine.now) (progress_of c.charge.new.self)
    c.in_ok-charge.ensures.spent lt c.in_ok-charge.ensures.plain in
    rw w.is (c.eval_node.ensures.plain w.k w.room)

pub calls::eval_callee-returns-in-Name-clause-plain : goal.calls::eval_callee-returns-in-Name-clause-plain
calls::eval_callee-returns-in-Name-clause-plain t c n lt = rw c.in-Name.is (c.callee_of_name.ensures.plain n)

pub evaluate::eval_node-returns-in-Tuple-clause-plain : goal.evaluate::eval_node-returns-in-Tuple-clause-plain
evaluate::eval_node-returns-in-Tuple-clause-plain t c n lt =
    rw c.in-Tuple.is (tells_as value_of c.eval_tuple.result c.eval_tuple.new.machine _ _
    (ap (λ x. charged_expr n x (progress_of c.args.machine.now)) (tuple_tree c.in-Tuple.place c.in-Tuple.items))
    (rw c.deref.ensures.value at (c.eval_tuple.ensures.plain n lt)))

pub evaluate::eval_node-returns-in-List-clause-plain : goal.evaluate::eval_node-returns-in-List-clause-plain
evaluate::eval_node-returns-in-List-clause-plain t c n lt =
    rw c.in-List.is (tells_as value_of c.eval_list.result c.eval_list.new.machine _ _
    (ap (λ x. charged_expr n x (progress_of c.args.machine.now)) (list_tree c.in-List.place c.in-List.items))
    (rw c.deref-in-List.ensures.value at (c.eval_list.ensures.plain n lt)))

pub evaluate::eval_node-returns-in-Dict-clause-plain : goal.evaluate::eval_node-returns-in-Dict-clause-plain
evaluate::eval_node-returns-in-Dict-clause-plain t c n lt =
    rw c.in-Dict.is (tells_as value_of c.eval_dict.result c.eval_dict.new.machine _ _
    (ap (λ x. charged_expr n x (progress_of c.args.machine.now)) (dict_tree c.in-Dict.place c.in-Dict.items))
    (rw c.deref-in-Dict.ensures.value at (c.eval_dict.ensures.plain n lt)))

pub evaluate::eval_node-returns-in-Call-clause-plain : goal.evaluate::eval_node-returns-in-Call-clause-plain
evaluate::eval_node-returns-in-Call-clause-plain t c n lt =
    rw c.in-Call.is (tells_as value_of c.eval_call.result c.eval_call.new.machine _ _
    (ap (λ x. charged_expr n x (progress_of c.args.machine.now)) (call_tree c.in-Call.place c.in-Call.callee
    c.in-Call.arguments c.in-Call.by_name)) (rw (
      c.deref-in-Call.ensures,
      c.deref-in-Call-2.ensures.value,
      c.deref-in-Call-3.ensures.value,
    ) at (c.eval_call.ensures.plain n lt)))

pub calls::eval_call-returns-in-Some-clause-plain : goal.calls::eval_call-returns-in-Some-clause-plain
calls::eval_call-returns-in-Some-clause-plain t c n lt =
    tells_as value_of c.eval_instance_test.result c.eval_instance_test.new.machine _ _
    (ap (λ f. text.eval_call Step plain (plain_parts n) c.args.place (expr_of c.args.callee.now)
    (exprs_of_list c.args.arguments.now) (keywords_of_list c.args.by_name.now) f (progress_of c.args.machine.now))
    (sym c.instance_test.ensures ∙ ap form_seen c.in-Some.is)) (c.eval_instance_test.ensures.plain n lt)

pub evaluate::eval_tuple-returns-clause-plain : goal.evaluate::eval_tuple-returns-clause-plain
evaluate::eval_tuple-returns-clause-plain t c n lt =
    went value_of c.give.result c.give.new.self _ _ (values_of_vec c.in_ok-values.values)
    (progress_of c.eval_all.new.machine) (c.in_ok-values.ensures.plain n lt)
    (tells_as value_of c.give.result c.give.new.self _ _
    (ap (λ v. Came v (after_event c.args.place (progress_of c.eval_all.new.machine)))
    (sym (tuple_value c.in_ok-values.values))) c.give.ensures.plain)

pub statements::exec-returns-in_err-charge-clause-plain : goal.statements::exec-returns-in_err-charge-clause-plain
statements::exec-returns-in_err-charge-clause-plain t c n lt =
    let is : c.from_residual.result ≡ Err c.in_err-charge.field-0.0 = search rules in
    rw is (tells_as flow_of (Err c.in_err-charge.field-0.0) c.charge.new.self _ _ (c.loop-statement.invariant.run n lt
    ∙ ap (λ b. (plain_parts n).exec b (progress_of c.loop-statement.machine))
    (stmts_next c.args.body.now c.loop-statement.statement-index c.statement-item.result (omega arith)
    c.statement-item.is)) (uncharged n (stmt_of c.statement-item.result)
    (stmts_of_list (drop (c.loop-statement.statement-index + 1) c.args.body.now))
    (progress_of c.loop-statement.machine) c.in_err-charge.field-0.0 c.charge.new.self
    (omega (arith, c.loop-statement.invariant.fuel, lt)) c.in_err-charge.ensures.plain))

pub statements::exec-returns-in_err-flow-clause-plain : goal.statements::exec-returns-in_err-flow-clause-plain
statements::exec-returns-in_err-flow-clause-plain t c n lt =
    let is : c.from_residual-in_err-flow.result ≡ Err c.in_err-flow.field-0.0 = search rules in
    let b = begun n (stmt_of c.statement-item.result) (stmts_of_list
    (drop (c.loop-statement.statement-index + 1) c.args.body.now)) (progress_of c.loop-statement.machine)
    (progress_of c.charge.new.self) c.in_ok-charge.ensures.spent
    (omega (arith, c.loop-statement.invariant.fuel, lt)) c.in_ok-charge.ensures.plain in
    rw is (tells_as flow_of (Err c.in_err-flow.field-0.0) c.exec_node.new.machine _ _
    (c.loop-statement.invariant.run n lt ∙ ap (λ b. (plain_parts n).exec b (progress_of c.loop-statement.machine))
    (stmts_next c.args.body.now c.loop-statement.statement-index c.statement-item.result (omega arith)
    c.statement-item.is) ∙ b.is) (ends flow_of flow_of c.in_err-flow.field-0.0 c.exec_node.new.machine _ _
    (c.in_err-flow.ensures.plain b.k c.statement-item.result.first b.room)))

pub statements::exec-returns-in_default : goal.statements::exec-returns-in_default
statements::exec-returns-in_default t c = record {
  plain = λ n lt. let b = begun n (stmt_of c.statement-item.result)
      (stmts_of_list (drop (c.loop-statement.statement-index + 1) c.args.body.now))
      (progress_of c.loop-statement.machine) (progress_of c.charge.new.self) c.in_ok-charge.ensures.spent
      (omega (arith, c.loop-statement.invariant.fuel, lt)) c.in_ok-charge.ensures.plain in
      c.loop-statement.invariant.run n lt ∙ ap (λ b. (plain_parts n).exec b (progress_of c.loop-statement.machine))
      (stmts_next c.args.body.now c.loop-statement.statement-index c.statement-item.result (omega arith)
      c.statement-item.is) ∙ b.is
      ∙ ap (λ l. and_then l (λ flow. text.then_follows Step plain flow
      ((plain_parts n).exec (stmts_of_list (drop (c.loop-statement.statement-index + 1) c.args.body.now)))))
      (c.in_ok-flow.ensures.plain b.k c.statement-item.result.first b.room)
      ∙ other_flow c.in_ok-flow.flow
      ((plain_parts n).exec (stmts_of_list (drop (c.loop-statement.statement-index + 1) c.args.body.now)))
      (progress_of c.exec_node.new.machine) (search rules);
  fuel = omega (arith, c.loop-statement.invariant.fuel, c.in_ok-flow.ensures.fuel, c.in_ok-charge.ensures.fuel);
  spent = λ ne. omega (arith, c.loop-statement.invariant.fuel, c.in_ok-flow.ensures.fuel, c.in_ok-charge.ensures.spent);
}

pub statements::exec-loop-statement-preserved : goal.statements::exec-loop-statement-preserved
statements::exec-loop-statement-preserved t c = record {
  fuel = omega (arith, c.loop-statement.invariant.fuel, c.in_ok-flow.ensures.fuel, c.in_ok-charge.ensures.spent);
  run = λ n lt. let b = begun n (stmt_of c.statement-item.result)
      (stmts_of_list (drop (c.loop-statement.statement-index + 1) c.args.body.now))
      (progress_of c.loop-statement.machine) (progress_of c.charge.new.self) c.in_ok-charge.ensures.spent
      (omega (arith, c.loop-statement.invariant.fuel, lt)) c.in_ok-charge.ensures.plain in
      c.loop-statement.invariant.run n lt ∙ ap (λ b. (plain_parts n).exec b (progress_of c.loop-statement.machine))
      (stmts_next c.args.body.now c.loop-statement.statement-index c.statement-item.result (omega arith)
      c.statement-item.is) ∙ b.is
      ∙ ap (λ l. and_then l (λ flow. text.then_follows Step plain flow
      ((plain_parts n).exec (stmts_of_list (drop (c.loop-statement.statement-index + 1) c.args.body.now)))))
      (c.in_ok-flow.ensures.plain b.k c.statement-item.result.first b.room)
      ∙ ap (λ g. text.then_follows Step plain (flow_of g) ((plain_parts n).exec
      (stmts_of_list (drop (c.loop-statement.statement-index + 1) c.args.body.now)))
      (progress_of c.exec_node.new.machine)) c.in-Next.is;
}

pub statements::exec-returns-clause-plain : goal.statements::exec-returns-clause-plain
statements::exec-returns-clause-plain t c n lt =
    c.loop-statement.invariant.run n lt ∙ ap (λ b. (plain_parts n).exec b (progress_of c.loop-statement.machine))
    (stmts_end c.args.body.now c.loop-statement.statement-index (omega arith))
    ∙ nothing_left n (progress_of c.loop-statement.machine) (omega (arith, c.loop-statement.invariant.fuel, lt))

pub statements::exec_node-returns-in-While-clause-plain : goal.statements::exec_node-returns-in-While-clause-plain
statements::exec_node-returns-in-While-clause-plain t c n p lt =
    rw c.in-While.is (tells_as flow_of c.run_while.result c.run_while.new.machine _ _
    (ap (λ s. exec_one n s (progress_of c.args.machine.now)) (while_tree p c.in-While.condition c.in-While.body))
    (rw (c.deref-in-While.ensures, c.deref-in-While-2.ensures.value) at (c.run_while.ensures.plain n lt)))

pub
    statements::exec_node-returns-in_ok-over-in-For-clause-plain : goal.statements::exec_node-returns-in_ok-over-in-For-clause-plain
statements::exec_node-returns-in_ok-over-in-For-clause-plain t c n p lt =
    rw c.in-For.is (tells_as flow_of c.run_for.result c.run_for.new.machine _ _
    (ap (λ s. exec_one n s (progress_of c.args.machine.now)) (for_tree p c.in-For.name c.in-For.e c.in-For.body))
    (went flow_of c.run_for.result c.run_for.new.machine _ _ (iteration_of c.in_ok-over-in-For.over)
    (progress_of c.eval_iterable.new.machine) (rw c.deref-in-For.ensures at
    (c.in_ok-over-in-For.ensures.plain n lt)) (rw (c.deref-in-For-2.ensures.value, c.as_str-in-For.ensures.value) at
    (c.run_for.ensures.plain n (omega (arith, lt, c.in_ok-over-in-For.ensures.fuel))))))

pub statements::exec_node-returns-in-If-clause-plain : goal.statements::exec_node-returns-in-If-clause-plain
statements::exec_node-returns-in-If-clause-plain t c n p lt =
    rw c.in-If.is (tells_as flow_of c.exec_branches.result c.exec_branches.new.machine _ _
    (ap (λ s. exec_one n s (progress_of c.args.machine.now)) (if_tree p c.in-If.branches c.in-If.otherwise))
    (rw (c.deref-in-If.ensures.value, c.deref-in-If-2.ensures.value) at (c.exec_branches.ensures.plain n lt)))

pub statements::exec_node-returns-in-Assign-clause-plain : goal.statements::exec_node-returns-in-Assign-clause-plain
statements::exec_node-returns-in-Assign-clause-plain t c n p lt =
    rw c.in-Assign.is (rw c.deref-in-Assign.ensures at (c.exec_assignment.ensures.plain n p lt))

pub statements::exec_node-returns-in-Expr-clause-plain : goal.statements::exec_node-returns-in-Expr-clause-plain
statements::exec_node-returns-in-Expr-clause-plain t c n p lt = rw c.in-Expr.is (c.exec_expression.ensures.plain n p lt)

pub statements::exec_node-returns-in-Assert-clause-plain : goal.statements::exec_node-returns-in-Assert-clause-plain
statements::exec_node-returns-in-Assert-clause-plain t c n p lt =
    rw c.in-Assert.is (rw c.deref-in-Assert.ensures at (c.exec_assert.ensures.plain n p lt))

pub loops::run_while-returns-in_err-v-clause-plain : goal.loops::run_while-returns-in_err-v-clause-plain
loops::run_while-returns-in_err-v-clause-plain t c n lt =
    let is : c.from_residual.result ≡ Err c.in_err-v.field-0.0 = search rules in
    let a = c.loop-v.invariant.run n lt in
    rw is (tells_as flow_of (Err c.in_err-v.field-0.0) c.eval.new.machine _ _ a.is
    (while_err a.bound (expr_of c.args.condition.now) (stmts_of_list c.args.body.now) (progress_of c.loop-v.machine)
    c.in_err-v.field-0.0 c.eval.new.machine a.room (c.in_err-v.ensures.plain a.bound a.room)))

pub loops::run_while-returns-then-not-is_true-clause-plain : goal.loops::run_while-returns-then-not-is_true-clause-plain
loops::run_while-returns-then-not-is_true-clause-plain t c n lt =
    let b : is_true (heap_of c.eval.new.machine.heap) (value_of c.in_ok-v.v) ≡ false = search rules in
    let a = c.loop-v.invariant.run n lt in
    a.is ∙ while_over a.bound (expr_of c.args.condition.now) (stmts_of_list c.args.body.now)
    (progress_of c.loop-v.machine) (progress_of c.eval.new.machine) (value_of c.in_ok-v.v) a.room
    (c.in_ok-v.ensures.plain a.bound a.room) b

pub
    loops::run_while-returns-in_err-charge_empty-clause-plain : goal.loops::run_while-returns-in_err-charge_empty-clause-plain
loops::run_while-returns-in_err-charge_empty-clause-plain t c n lt =
    let is : c.from_residual-in_err-charge_empty.result ≡ Err c.in_err-charge_empty.field-0.0 = search rules in
    let b : is_true (heap_of c.eval.new.machine.heap) (value_of c.in_ok-v.v) ≡ true = search rules in
    let a = c.loop-v.invariant.run n lt in
    let w = while_turn a.bound (expr_of c.args.condition.now) (stmts_of_list c.args.body.now)
    (progress_of c.loop-v.machine) (progress_of c.eval.new.machine) (value_of c.in_ok-v.v) a.room
    (c.in_ok-v.ensures.plain a.bound a.room) b in
    rw is (tells_as flow_of (Err c.in_err-charge_empty.field-0.0) c.charge_empty.new.self _ _ a.is
    (turned_err a.bound (stmts_of_list c.args.body.now) (progress_of c.eval.new.machine)
    (λ k. (plain_parts k).again (expr_of c.args.condition.now) (stmts_of_list c.args.body.now))
    ((plain_parts a.bound).again (expr_of c.args.condition.now) (stmts_of_list c.args.body.now)
    (progress_of c.loop-v.machine)) c.in_err-charge_empty.field-0.0 c.charge_empty.new.self w
    (suite_uncharged a.bound (stmts_of_list c.args.body.now) (progress_of c.eval.new.machine)
    c.in_err-charge_empty.field-0.0 c.charge_empty.new.self c.in_err-charge_empty.ensures.plain)))

pub loops::run_while-returns-in_err-exec-clause-plain : goal.loops::run_while-returns-in_err-exec-clause-plain
loops::run_while-returns-in_err-exec-clause-plain t c n lt =
    let is : c.from_residual-in_err-exec.result ≡ Err c.in_err-exec.field-0.0 = search rules in
    let b : is_true (heap_of c.eval.new.machine.heap) (value_of c.in_ok-v.v) ≡ true = search rules in
    let a = c.loop-v.invariant.run n lt in
    let w = while_turn a.bound (expr_of c.args.condition.now) (stmts_of_list c.args.body.now)
    (progress_of c.loop-v.machine) (progress_of c.eval.new.machine) (value_of c.in_ok-v.v) a.room
    (c.in_ok-v.ensures.plain a.bound a.room) b in
    rw is (tells_as flow_of (Err c.in_err-exec.field-0.0) c.exec.new.machine _ _ a.is
    (turned_err a.bound (stmts_of_list c.args.body.now) (progress_of c.eval.new.machine)
    (λ k. (plain_parts k).again (expr_of c.args.condition.now) (stmts_of_list c.args.body.now))
    ((plain_parts a.bound).again (expr_of c.args.condition.now) (stmts_of_list c.args.body.now)
    (progress_of c.loop-v.machine)) c.in_err-exec.field-0.0 c.exec.new.machine w
    (suite_err a.bound (stmts_of_list c.args.body.now) (progress_of c.eval.new.machine)
    (progress_of c.charge_empty.new.self) c.in_err-exec.field-0.0 c.exec.new.machine
    c.in_ok-charge_empty.ensures.plain (c.in_err-exec.ensures.plain a.bound
    (omega (arith, a.room, c.in_ok-v.ensures.fuel, c.in_ok-charge_empty.ensures.fuel))))))

pub loops::run_while-returns-in-Breaking-clause-plain : goal.loops::run_while-returns-in-Breaking-clause-plain
loops::run_while-returns-in-Breaking-clause-plain t c n lt =
    let b : is_true (heap_of c.eval.new.machine.heap) (value_of c.in_ok-v.v) ≡ true = search rules in
    let a = c.loop-v.invariant.run n lt in
    let w = while_turn a.bound (expr_of c.args.condition.now) (stmts_of_list c.args.body.now)
    (progress_of c.loop-v.machine) (progress_of c.eval.new.machine) (value_of c.in_ok-v.v) a.room
    (c.in_ok-v.ensures.plain a.bound a.room) b in
    a.is ∙ turned_break a.bound (stmts_of_list c.args.body.now) (progress_of c.eval.new.machine)
    (progress_of c.exec.new.machine) (λ k. (plain_parts k).again (expr_of c.args.condition.now)
    (stmts_of_list c.args.body.now)) ((plain_parts a.bound).again (expr_of c.args.condition.now)
    (stmts_of_list c.args.body.now) (progress_of c.loop-v.machine)) w
    (suite_to a.bound (stmts_of_list c.args.body.now) (progress_of c.eval.new.machine)
    (progress_of c.charge_empty.new.self) (progress_of c.exec.new.machine) breaking
    c.in_ok-charge_empty.ensures.plain (c.in_ok-exec.ensures.plain a.bound
    (omega (arith, a.room, c.in_ok-v.ensures.fuel, c.in_ok-charge_empty.ensures.fuel))
    ∙ ap (λ g. Came (flow_of g) (progress_of c.exec.new.machine)) c.in-Breaking.is))

pub loops::run_while-returns-in-Leaves-clause-plain : goal.loops::run_while-returns-in-Leaves-clause-plain
loops::run_while-returns-in-Leaves-clause-plain t c n lt =
    let b : is_true (heap_of c.eval.new.machine.heap) (value_of c.in_ok-v.v) ≡ true = search rules in
    let a = c.loop-v.invariant.run n lt in
    let w = while_turn a.bound (expr_of c.args.condition.now) (stmts_of_list c.args.body.now)
    (progress_of c.loop-v.machine) (progress_of c.eval.new.machine) (value_of c.in_ok-v.v) a.room
    (c.in_ok-v.ensures.plain a.bound a.room) b in
    a.is ∙ turned_leave a.bound (stmts_of_list c.args.body.now) (progress_of c.eval.new.machine)
    (progress_of c.exec.new.machine) (value_of c.in-Leaves.v)
    (λ k. (plain_parts k).again (expr_of c.args.condition.now) (stmts_of_list c.args.body.now))
    ((plain_parts a.bound).again (expr_of c.args.condition.now) (stmts_of_list c.args.body.now)
    (progress_of c.loop-v.machine)) w (suite_to a.bound (stmts_of_list c.args.body.now)
    (progress_of c.eval.new.machine) (progress_of c.charge_empty.new.self) (progress_of c.exec.new.machine)
    (leaves (value_of c.in-Leaves.v)) c.in_ok-charge_empty.ensures.plain
    (c.in_ok-exec.ensures.plain a.bound (omega (
      arith,
      a.room,
      c.in_ok-v.ensures.fuel,
      c.in_ok-charge_empty.ensures.fuel,
    )) ∙ ap (λ g. Came (flow_of g) (progress_of c.exec.new.machine))
    c.in-Leaves.is))

pub loops::run_while-loop-v-preserved-after-branch-4 : goal.loops::run_while-loop-v-preserved-after-branch-4
loops::run_while-loop-v-preserved-after-branch-4 t c = record {
  fuel = omega (
    arith,
    c.loop-v.invariant.fuel,
    c.in_ok-v.ensures.fuel,
    c.in_ok-charge_empty.ensures.fuel,
    c.in_ok-exec.ensures.fuel,
  );
  run = λ n lt.
      let b : is_true (heap_of c.eval.new.machine.heap) (value_of c.in_ok-v.v) ≡ true = search rules in
      let a = c.loop-v.invariant.run n lt in
      let go : (flow_of c.in_ok-exec.field-0 ≡ next) ⊎ (flow_of c.in_ok-exec.field-0 ≡ continuing) =
      elim c.match-branch-4.branch [
        | loops::run_while-in-Next w ↦ inl (ap flow_of w.in-Next.is)
        | loops::run_while-in-Continuing w ↦ inr (ap flow_of w.in-Continuing.is)
      ] in
      while_more a.bound (expr_of c.args.condition.now) (stmts_of_list c.args.body.now) (progress_of c.loop-v.machine)
      (progress_of c.eval.new.machine) (progress_of c.charge_empty.new.self) (progress_of c.exec.new.machine)
      (value_of c.in_ok-v.v) (flow_of c.in_ok-exec.field-0) _ a.room
      (omega (arith, c.in_ok-v.ensures.spent, c.in_ok-charge_empty.ensures.fuel, c.in_ok-exec.ensures.fuel)) a.is
      (c.in_ok-v.ensures.plain a.bound a.room) b c.in_ok-charge_empty.ensures.plain
      (c.in_ok-exec.ensures.plain a.bound (omega (
        arith,
        a.room,
        c.in_ok-v.ensures.fuel,
        c.in_ok-charge_empty.ensures.fuel,
      ))) go;
}

pub loops::run_while-loop-v-preserved-after-branch-4-2 : goal.loops::run_while-loop-v-preserved-after-branch-4-2
loops::run_while-loop-v-preserved-after-branch-4-2 t c = record {
  fuel = omega (
    arith,
    c.loop-v.invariant.fuel,
    c.in_ok-v.ensures.fuel,
    c.in_ok-charge_empty.ensures.fuel,
    c.in_ok-exec.ensures.fuel,
  );
  run = λ n lt.
      let b : is_true (heap_of c.eval.new.machine.heap) (value_of c.in_ok-v.v) ≡ true = search rules in
      let a = c.loop-v.invariant.run n lt in
      let go : (flow_of c.in_ok-exec.field-0 ≡ next) ⊎ (flow_of c.in_ok-exec.field-0 ≡ continuing) =
      elim c.match-branch-4.branch [
        | loops::run_while-in-Next w ↦ inl (ap flow_of w.in-Next.is)
        | loops::run_while-in-Continuing w ↦ inr (ap flow_of w.in-Continuing.is)
      ] in
      while_more a.bound (expr_of c.args.condition.now) (stmts_of_list c.args.body.now) (progress_of c.loop-v.machine)
      (progress_of c.eval.new.machine) (progress_of c.charge_empty.new.self) (progress_of c.exec.new.machine)
      (value_of c.in_ok-v.v) (flow_of c.in_ok-exec.field-0) _ a.room
      (omega (arith, c.in_ok-v.ensures.spent, c.in_ok-charge_empty.ensures.fuel, c.in_ok-exec.ensures.fuel)) a.is
      (c.in_ok-v.ensures.plain a.bound a.room) b c.in_ok-charge_empty.ensures.plain
      (c.in_ok-exec.ensures.plain a.bound (omega (
        arith,
        a.room,
        c.in_ok-v.ensures.fuel,
        c.in_ok-charge_empty.ensures.fuel,
      ))) go;
}

pub loops::run_while-loop-v-preserved : goal.loops::run_while-loop-v-preserved
loops::run_while-loop-v-preserved t c = record {
  fuel = omega (
    arith,
    c.loop-v.invariant.fuel,
    c.in_ok-v.ensures.fuel,
    c.in_ok-charge_empty.ensures.fuel,
    c.in_ok-exec.ensures.fuel,
  );
  run = λ n lt.
      let b : is_true (heap_of c.eval.new.machine.heap) (value_of c.in_ok-v.v) ≡ true = search rules in
      let a = c.loop-v.invariant.run n lt in
      let go : (flow_of c.in_ok-exec.field-0 ≡ next) ⊎ (flow_of c.in_ok-exec.field-0 ≡ continuing) =
      elim c.match-branch-4.branch [
        | loops::run_while-in-Next w ↦ inl (ap flow_of w.in-Next.is)
        | loops::run_while-in-Continuing w ↦ inr (ap flow_of w.in-Continuing.is)
      ] in
      while_more a.bound (expr_of c.args.condition.now) (stmts_of_list c.args.body.now) (progress_of c.loop-v.machine)
      (progress_of c.eval.new.machine) (progress_of c.charge_empty.new.self) (progress_of c.exec.new.machine)
      (value_of c.in_ok-v.v) (flow_of c.in_ok-exec.field-0) _ a.room
      (omega (arith, c.in_ok-v.ensures.spent, c.in_ok-charge_empty.ensures.fuel, c.in_ok-exec.ensures.fuel)) a.is
      (c.in_ok-v.ensures.plain a.bound a.room) b c.in_ok-charge_empty.ensures.plain
      (c.in_ok-exec.ensures.plain a.bound (omega (
        arith,
        a.room,
        c.in_ok-v.ensures.fuel,
        c.in_ok-charge_empty.ensures.fuel,
      ))) go;
}

pub loops::run_for-returns-in_err-act_item-clause-plain : goal.loops::run_for-returns-in_err-act_item-clause-plain
loops::run_for-returns-in_err-act_item-clause-plain t c n lt =
    let is : c.from_residual.result ≡ Err c.in_err-act_item.field-0.0 = search rules in
    let a = c.loop-turn.invariant.run n lt in
    rw is (tells_as flow_of (Err c.in_err-act_item.field-0.0) c.act_item.new.self _ _ a.is
    (for_err a.bound (iteration_of c.args.over) (turn_index c.loop-turn.turn) c.args.name.now
    (stmts_of_list c.args.body.now) (progress_of c.loop-turn.machine) c.in_err-act_item.field-0.0
    c.act_item.new.self a.room (tells_as value_if_any (Err c.in_err-act_item.field-0.0) c.act_item.new.self _ _
    (ap (λ a. act item_out a (progress_of c.loop-turn.machine)) (sym (ap action_of c.loop-turn.invariant.turn)))
    c.in_err-act_item.ensures.plain)))

pub loops::run_for-returns-in-None-clause-plain : goal.loops::run_for-returns-in-None-clause-plain
loops::run_for-returns-in-None-clause-plain t c n lt =
    let a = c.loop-turn.invariant.run n lt in
    a.is ∙ for_over a.bound (iteration_of c.args.over) (turn_index c.loop-turn.turn) c.args.name.now
    (stmts_of_list c.args.body.now) (progress_of c.loop-turn.machine) (progress_of c.act_item.new.self) a.room
    (ap (λ a. act item_out a (progress_of c.loop-turn.machine)) (sym (ap action_of c.loop-turn.invariant.turn))
    ∙ c.in_ok-act_item.ensures.plain ∙ ap (λ o. Came (value_if_any o) (progress_of c.act_item.new.self))
    c.in-None.is)

pub
    loops::run_for-returns-in_err-charge_empty-clause-plain : goal.loops::run_for-returns-in_err-charge_empty-clause-plain
loops::run_for-returns-in_err-charge_empty-clause-plain t c n lt =
    let is : c.from_residual-in_err-charge_empty.result ≡ Err c.in_err-charge_empty.field-0.0 = search rules in
    let a = c.loop-turn.invariant.run n lt in
    let w = for_turn a.bound (iteration_of c.args.over) (turn_index c.loop-turn.turn) c.args.name.now
    (stmts_of_list c.args.body.now) (progress_of c.loop-turn.machine) (progress_of c.act_item.new.self)
    (value_of c.in-Some.v) a.room (ap (λ a. act item_out a (progress_of c.loop-turn.machine))
    (sym (ap action_of c.loop-turn.invariant.turn)) ∙ c.in_ok-act_item.ensures.plain
    ∙ ap (λ o. Came (value_if_any o) (progress_of c.act_item.new.self)) c.in-Some.is) in
    rw is (tells_as flow_of (Err c.in_err-charge_empty.field-0.0) c.charge_empty.new.self _ _ a.is
    (turned_err a.bound (stmts_of_list c.args.body.now) (after_change
    (binds_local c.args.name.now (value_of c.in-Some.v)) (progress_of c.act_item.new.self))
    (λ k. (plain_parts k).turns (iteration_of c.args.over) (suc (turn_index c.loop-turn.turn)) c.args.name.now
    (stmts_of_list c.args.body.now)) ((plain_parts a.bound).turns (iteration_of c.args.over)
    (turn_index c.loop-turn.turn) c.args.name.now (stmts_of_list c.args.body.now) (progress_of c.loop-turn.machine))
    c.in_err-charge_empty.field-0.0 c.charge_empty.new.self w
    (suite_uncharged a.bound (stmts_of_list c.args.body.now)
    (after_change (binds_local c.args.name.now (value_of c.in-Some.v)) (progress_of c.act_item.new.self))
    c.in_err-charge_empty.field-0.0 c.charge_empty.new.self (tells_as unit (Err c.in_err-charge_empty.field-0.0)
    c.charge_empty.new.self _ _ (ap (empty_charged (stmts_of_list c.args.body.now))
    (sym c.bind_local.ensures.plain)) c.in_err-charge_empty.ensures.plain))))

pub loops::run_for-returns-in_err-exec-clause-plain : goal.loops::run_for-returns-in_err-exec-clause-plain
loops::run_for-returns-in_err-exec-clause-plain t c n lt =
    let is : c.from_residual-in_err-exec.result ≡ Err c.in_err-exec.field-0.0 = search rules in
    let a = c.loop-turn.invariant.run n lt in
    let w = for_turn a.bound (iteration_of c.args.over) (turn_index c.loop-turn.turn) c.args.name.now
    (stmts_of_list c.args.body.now) (progress_of c.loop-turn.machine) (progress_of c.act_item.new.self)
    (value_of c.in-Some.v) a.room (ap (λ a. act item_out a (progress_of c.loop-turn.machine))
    (sym (ap action_of c.loop-turn.invariant.turn)) ∙ c.in_ok-act_item.ensures.plain
    ∙ ap (λ o. Came (value_if_any o) (progress_of c.act_item.new.self)) c.in-Some.is) in
    rw is (tells_as flow_of (Err c.in_err-exec.field-0.0) c.exec.new.machine _ _ a.is
    (turned_err a.bound (stmts_of_list c.args.body.now) (after_change
    (binds_local c.args.name.now (value_of c.in-Some.v)) (progress_of c.act_item.new.self))
    (λ k. (plain_parts k).turns (iteration_of c.args.over) (suc (turn_index c.loop-turn.turn)) c.args.name.now
    (stmts_of_list c.args.body.now)) ((plain_parts a.bound).turns (iteration_of c.args.over)
    (turn_index c.loop-turn.turn) c.args.name.now (stmts_of_list c.args.body.now) (progress_of c.loop-turn.machine))
    c.in_err-exec.field-0.0 c.exec.new.machine w (suite_err a.bound (stmts_of_list c.args.body.now)
    (after_change (binds_local c.args.name.now (value_of c.in-Some.v)) (progress_of c.act_item.new.self))
    (progress_of c.charge_empty.new.self) c.in_err-exec.field-0.0 c.exec.new.machine
    (ap (empty_charged (stmts_of_list c.args.body.now)) (sym c.bind_local.ensures.plain)
    ∙ c.in_ok-charge_empty.ensures.plain) (c.in_err-exec.ensures.plain a.bound
    (omega (
      arith,
      a.room,
      c.in_ok-act_item.ensures.fuel,
      c.bind_local.ensures.fuel,
      c.in_ok-charge_empty.ensures.fuel,
    ))))))

pub loops::run_for-returns-in-Breaking-clause-plain : goal.loops::run_for-returns-in-Breaking-clause-plain
loops::run_for-returns-in-Breaking-clause-plain t c n lt =
    let a = c.loop-turn.invariant.run n lt in
    let w = for_turn a.bound (iteration_of c.args.over) (turn_index c.loop-turn.turn) c.args.name.now
    (stmts_of_list c.args.body.now) (progress_of c.loop-turn.machine) (progress_of c.act_item.new.self)
    (value_of c.in-Some.v) a.room (ap (λ a. act item_out a (progress_of c.loop-turn.machine))
    (sym (ap action_of c.loop-turn.invariant.turn)) ∙ c.in_ok-act_item.ensures.plain
    ∙ ap (λ o. Came (value_if_any o) (progress_of c.act_item.new.self)) c.in-Some.is) in
    a.is ∙ turned_break a.bound (stmts_of_list c.args.body.now)
    (after_change (binds_local c.args.name.now (value_of c.in-Some.v)) (progress_of c.act_item.new.self))
    (progress_of c.exec.new.machine) (λ k. (plain_parts k).turns (iteration_of c.args.over)
    (suc (turn_index c.loop-turn.turn)) c.args.name.now (stmts_of_list c.args.body.now))
    ((plain_parts a.bound).turns (iteration_of c.args.over) (turn_index c.loop-turn.turn) c.args.name.now
    (stmts_of_list c.args.body.now) (progress_of c.loop-turn.machine)) w
    (suite_to a.bound (stmts_of_list c.args.body.now) (after_change
    (binds_local c.args.name.now (value_of c.in-Some.v)) (progress_of c.act_item.new.self))
    (progress_of c.charge_empty.new.self) (progress_of c.exec.new.machine) breaking
    (ap (empty_charged (stmts_of_list c.args.body.now)) (sym c.bind_local.ensures.plain)
    ∙ c.in_ok-charge_empty.ensures.plain) (c.in_ok-exec.ensures.plain a.bound
    (omega (
      arith,
      a.room,
      c.in_ok-act_item.ensures.fuel,
      c.bind_local.ensures.fuel,
      c.in_ok-charge_empty.ensures.fuel,
    )) ∙ ap (λ g. Came (flow_of g) (progress_of c.exec.new.machine))
    c.in-Breaking.is))

pub loops::run_for-returns-in-Leaves-clause-plain : goal.loops::run_for-returns-in-Leaves-clause-plain
loops::run_for-returns-in-Leaves-clause-plain t c n lt =
    let a = c.loop-turn.invariant.run n lt in
    let w = for_turn a.bound (iteration_of c.args.over) (turn_index c.loop-turn.turn) c.args.name.now
    (stmts_of_list c.args.body.now) (progress_of c.loop-turn.machine) (progress_of c.act_item.new.self)
    (value_of c.in-Some.v) a.room (ap (λ a. act item_out a (progress_of c.loop-turn.machine))
    (sym (ap action_of c.loop-turn.invariant.turn)) ∙ c.in_ok-act_item.ensures.plain
    ∙ ap (λ o. Came (value_if_any o) (progress_of c.act_item.new.self)) c.in-Some.is) in
    a.is ∙ turned_leave a.bound (stmts_of_list c.args.body.now)
    (after_change (binds_local c.args.name.now (value_of c.in-Some.v)) (progress_of c.act_item.new.self))
    (progress_of c.exec.new.machine) (value_of c.in-Leaves.v)
    (λ k. (plain_parts k).turns (iteration_of c.args.over) (suc (turn_index c.loop-turn.turn)) c.args.name.now
    (stmts_of_list c.args.body.now)) ((plain_parts a.bound).turns (iteration_of c.args.over)
    (turn_index c.loop-turn.turn) c.args.name.now (stmts_of_list c.args.body.now) (progress_of c.loop-turn.machine))
    w (suite_to a.bound (stmts_of_list c.args.body.now) (after_change
    (binds_local c.args.name.now (value_of c.in-Some.v)) (progress_of c.act_item.new.self))
    (progress_of c.charge_empty.new.self) (progress_of c.exec.new.machine) (leaves (value_of c.in-Leaves.v))
    (ap (empty_charged (stmts_of_list c.args.body.now)) (sym c.bind_local.ensures.plain)
    ∙ c.in_ok-charge_empty.ensures.plain) (c.in_ok-exec.ensures.plain a.bound
    (omega (
      arith,
      a.room,
      c.in_ok-act_item.ensures.fuel,
      c.bind_local.ensures.fuel,
      c.in_ok-charge_empty.ensures.fuel,
    )) ∙ ap (λ g. Came (flow_of g) (progress_of c.exec.new.machine))
    c.in-Leaves.is))

pub loops::run_for-advance-requires : goal.loops::run_for-advance-requires
loops::run_for-advance-requires t c =
    let less : c.exec.new.machine.fuel < c.bind_local.new.self.fuel =
    spent_turn c.args.body.now c.bind_local.new.self.fuel c.charge_empty.new.self.fuel c.exec.new.machine.fuel
    c.in_ok-charge_empty.ensures.fuel c.in_ok-exec.ensures.fuel c.in_ok-charge_empty.ensures.spent
    c.in_ok-exec.ensures.spent in (
      c.args.over,
      (
        turn_index c.loop-turn.turn,
        (
          c.loop-turn.invariant.turn,
          omega (arith, less, c.loop-turn.invariant.fuel, c.in_ok-act_item.ensures.fuel, c.bind_local.ensures.fuel),
        ),
      ),
    )

pub loops::run_for-loop-turn-preserved : goal.loops::run_for-loop-turn-preserved
loops::run_for-loop-turn-preserved t c =
    let less : c.exec.new.machine.fuel < c.bind_local.new.self.fuel =
    spent_turn c.args.body.now c.bind_local.new.self.fuel c.charge_empty.new.self.fuel c.exec.new.machine.fuel
    c.in_ok-charge_empty.ensures.fuel c.in_ok-exec.ensures.fuel c.in_ok-charge_empty.ensures.spent
    c.in_ok-exec.ensures.spent in
    let r = c.advance.ensures c.args.over (turn_index c.loop-turn.turn) c.loop-turn.invariant.turn in
    let idx : turn_index c.advance.new.turn ≡ turn_index c.loop-turn.turn + 1 = ap turn_index r in
    record {
      fuel = omega (
        arith,
        less,
        idx,
        c.loop-turn.invariant.fuel,
        c.in_ok-act_item.ensures.fuel,
        c.bind_local.ensures.fuel,
      );
      turn = r ∙ ap (λ k. rust_action.Turn c.args.over k) (sym idx);
      run = λ n lt.
          let a = c.loop-turn.invariant.run n lt in
          let go : (flow_of c.in_ok-exec.field-0 ≡ next) ⊎ (flow_of c.in_ok-exec.field-0 ≡ continuing) =
          elim c.match-branch-5.branch [
            | loops::run_for-in-Next w ↦ inl (ap flow_of w.in-Next.is)
            | loops::run_for-in-Continuing w ↦ inr (ap flow_of w.in-Continuing.is)
          ] in
          for_more a.bound (iteration_of c.args.over) (turn_index c.loop-turn.turn) (turn_index c.advance.new.turn)
          c.args.name.now (stmts_of_list c.args.body.now) (progress_of c.loop-turn.machine)
          (progress_of c.act_item.new.self) (progress_of c.bind_local.new.self)
          (progress_of c.charge_empty.new.self) (progress_of c.exec.new.machine) (value_of c.in-Some.v)
          (flow_of c.in_ok-exec.field-0) _ a.room (omega (
            arith,
            less,
            c.in_ok-act_item.ensures.fuel,
            c.bind_local.ensures.fuel,
          )) idx a.is (ap (λ a. act item_out a (progress_of c.loop-turn.machine))
          (sym (ap action_of c.loop-turn.invariant.turn)) ∙ c.in_ok-act_item.ensures.plain
          ∙ ap (λ o. Came (value_if_any o) (progress_of c.act_item.new.self)) c.in-Some.is)
          c.bind_local.ensures.plain c.in_ok-charge_empty.ensures.plain
          (c.in_ok-exec.ensures.plain a.bound (omega (
            arith,
            a.room,
            c.in_ok-act_item.ensures.fuel,
            c.bind_local.ensures.fuel,
            c.in_ok-charge_empty.ensures.fuel,
          ))) go;
    }

pub
    statements::exec_branches-returns-in_err-v-clause-plain : goal.statements::exec_branches-returns-in_err-v-clause-plain
statements::exec_branches-returns-in_err-v-clause-plain t c n lt =
    let is : c.from_residual.result ≡ Err c.in_err-v.field-0.0 = search rules in
    rw is (tells_as flow_of (Err c.in_err-v.field-0.0) c.eval.new.machine _ _ (c.loop-branch.invariant.run n lt
    ∙ ap (λ b. branches_in n b (stmts_of_list c.args.otherwise.now) (progress_of c.loop-branch.machine))
    (branches_next c.args.branches.now c.loop-branch.branch-index c.branch-item.result (omega arith)
    c.branch-item.is)) (ends value_of flow_of c.in_err-v.field-0.0 c.eval.new.machine _ _
    (c.in_err-v.ensures.plain n (omega (arith, c.loop-branch.invariant.fuel, lt)))))

pub
    statements::exec_branches-returns-then-is_true-clause-plain : goal.statements::exec_branches-returns-then-is_true-clause-plain
statements::exec_branches-returns-then-is_true-clause-plain t c n lt =
    let b : is_true (heap_of c.eval.new.machine.heap) (value_of c.in_ok-v.v) ≡ true = search rules in
    tells_as flow_of c.exec.result c.exec.new.machine _ _ (c.loop-branch.invariant.run n lt
    ∙ ap (λ b. branches_in n b (stmts_of_list c.args.otherwise.now) (progress_of c.loop-branch.machine))
    (branches_next c.args.branches.now c.loop-branch.branch-index c.branch-item.result (omega arith)
    c.branch-item.is) ∙ branch_taken n (expr_of (out-Branch c.branch-item.result).condition)
    (stmts_of_list (out-Branch c.branch-item.result).body.items)
    (branches_of_list (drop (c.loop-branch.branch-index + 1) c.args.branches.now))
    (stmts_of_list c.args.otherwise.now) (progress_of c.loop-branch.machine) (progress_of c.eval.new.machine)
    (value_of c.in_ok-v.v) (c.in_ok-v.ensures.plain n (omega (arith, c.loop-branch.invariant.fuel, lt))) b)
    (rw c.deref.ensures.value at
    (c.exec.ensures.plain n (omega (arith, c.loop-branch.invariant.fuel, c.in_ok-v.ensures.fuel, lt))))

pub statements::exec_branches-loop-branch-preserved : goal.statements::exec_branches-loop-branch-preserved
statements::exec_branches-loop-branch-preserved t c = record {
  fuel = omega (arith, c.loop-branch.invariant.fuel, c.in_ok-v.ensures.fuel);
  run = λ n lt. let b : is_true (heap_of c.eval.new.machine.heap) (value_of c.in_ok-v.v) ≡ false = search rules in
      c.loop-branch.invariant.run n lt ∙ ap (λ b. branches_in n b (stmts_of_list c.args.otherwise.now)
      (progress_of c.loop-branch.machine)) (branches_next c.args.branches.now c.loop-branch.branch-index
      c.branch-item.result (omega arith) c.branch-item.is) ∙ branch_passed n
      (expr_of (out-Branch c.branch-item.result).condition) (stmts_of_list (out-Branch c.branch-item.result).body.items)
      (branches_of_list (drop (c.loop-branch.branch-index + 1) c.args.branches.now))
      (stmts_of_list c.args.otherwise.now) (progress_of c.loop-branch.machine) (progress_of c.eval.new.machine)
      (value_of c.in_ok-v.v) (c.in_ok-v.ensures.plain n (omega (arith, c.loop-branch.invariant.fuel, lt))) b;
}
