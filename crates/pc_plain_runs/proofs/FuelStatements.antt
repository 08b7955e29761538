-- Two plain runs, one with more fuel: statements, loops, and nested steps by induction on their number.
use Rattle.std.proofs.Common.{ℕ, zero, suc, ◌+◌, ◌≤◌, List, arith}
use Rattle.std.specs.Prelude.{Option, Some, None}
use Rattle.pc_tree.specs.Tree.{Expr, Target, to_name, to_attribute, to_index, Stmt, pass, breaks, continues, returns}
use Rattle.pc_tree.specs.Tree.{asserts, annotated, assigns, evaluates, while_loop, for_loop, conditional, Stmts}
use Rattle.pc_tree.specs.Tree.{no_stmts, more_stmts, Branches, no_branches, more_branches}
use Rattle.pc_value.specs.Value.{Value, Cut, Gives, is_true}
use Rattle.pc_value.specs.Actions as action
use Rattle.pc_machine.specs.Steps.{Parts, StatementEnd, next, breaking, continuing, leaves, iteration_out, item_out}
use Rattle.pc_machine.specs.Evaluation as T
use Rattle.pc_machine.specs.Calls.{range_argument}
use Rattle.pc_machine.specs.Evaluation.{IterableForm, range_call, any_iterable, iterable_form, binds_local}
use Rattle.pc_machine.specs.Plain as P
use Rattle.pc_plain_runs.proofs.Fuel.{Same, Keeps, loosely, never, bind_same, pure_same, stop_same, charge_same, charged_same}
use Rattle.pc_plain_runs.proofs.Fuel.{emit_same, look_same, change_same, act_same}
use Rattle.pc_plain_runs.proofs.FuelExpressions.{PartsSame, value_same, choose_same, all_same, keywords_same, node_same}

then_follows_same : {extra room : ℕ} (flow : StatementEnd) (f : P.Step StatementEnd) (r : P.Step StatementEnd)
    → Keeps extra room f r
    → Keeps extra room (T.then_follows P.Step P.plain flow f) (T.then_follows P.Step P.plain flow r)
then_follows_same next f r x = x
then_follows_same breaking f r x = pure_same breaking
then_follows_same continuing f r x = pure_same continuing
then_follows_same (leaves v) f r x = pure_same (leaves v)

after_turn_same : {extra room : ℕ} (flow : StatementEnd) (f : P.Step StatementEnd) (r : P.Step StatementEnd)
    → Keeps extra room f r
    → Keeps extra room (T.after_turn P.Step P.plain flow f) (T.after_turn P.Step P.plain flow r)
after_turn_same next f r x = x
after_turn_same breaking f r x = pure_same next
after_turn_same continuing f r x = x
after_turn_same (leaves v) f r x = pure_same (leaves v)

module _ (extra room : ℕ) (f r : Parts P.Step) (h : PartsSame extra room f r) where
  assign_same : (t : Target) (v : Value) → Keeps extra room (T.assign P.Step P.plain f t v)
      (T.assign P.Step P.plain r t v)
  assign_same (to_name n) v = bind_same _ _ _ _ (change_same (binds_local n.text v)) λ u. pure_same next
  assign_same (to_attribute p e m) v = bind_same _ _ _ _ (h.eval e) λ o. bind_same _ _ _ _ (emit_same p) λ u.
      bind_same _ _ _ _ (value_same (action.store_attribute o m.text v)) λ s. pure_same next
  assign_same (to_index p e i) v = bind_same _ _ _ _ (h.eval e) λ o. bind_same _ _ _ _ (h.eval i) λ k. bind_same _ _ _ _
      (emit_same p) λ u. bind_same _ _ _ _ (value_same (action.store_item o k v)) λ s. pure_same next

  fail_same : (message : Option Expr) → Keeps extra room (T.fail P.Step P.plain f message)
      (T.fail P.Step P.plain r message)
  fail_same None = stop_same _
  fail_same (Some e) = bind_same _ _ _ _ (h.eval e) λ v. stop_same _

  branches_same : (bs : Branches) (otherwise : Stmts) → Keeps extra room (T.exec_branches P.Step P.plain f bs otherwise)
      (T.exec_branches P.Step P.plain r bs otherwise)
  branches_same no_branches otherwise = h.exec otherwise
  branches_same (more_branches e body rest) otherwise = bind_same _ _ _ _ (h.eval e) λ v. bind_same _ _ _ _ (look_same
      (λ s. Gives (is_true s.heap v))) λ b. choose_same b _ _ _ _ (h.exec body) (branches_same rest otherwise)

  iterable_same : (e : Expr) (form : IterableForm) → Keeps extra room (T.eval_iterable P.Step P.plain f e form)
      (T.eval_iterable P.Step P.plain r e form)
  iterable_same e (range_call p n arguments by_name) = bind_same _ _ _ _ charged_same λ u.
      bind_same _ _ _ _ charged_same λ u. bind_same _ _ _ _ (emit_same n.place) λ u. bind_same _ _ _ _
      (all_same f.eval r.eval h.eval arguments) λ values. bind_same _ _ _ _
      (keywords_same f.eval r.eval h.eval by_name) λ named. bind_same _ _ _ _ (emit_same p) λ u. bind_same _ _ _ _
      (look_same (λ s. range_argument values named)) λ limit. act_same iteration_out (action.iterate_range limit)
  iterable_same e any_iterable = bind_same _ _ _ _ (h.eval e) λ v. act_same iteration_out (action.iterate v)

  stmt_same : (s : Stmt) → Keeps extra room (T.exec_node P.Step P.plain f s) (T.exec_node P.Step P.plain r s)
  stmt_same (pass p) = pure_same next
  stmt_same (breaks p) = pure_same breaking
  stmt_same (continues p) = pure_same continuing
  stmt_same (returns p None) = pure_same _
  stmt_same (returns p (Some e)) = bind_same _ _ _ _ (h.eval e) λ v. pure_same (leaves v)
  stmt_same (asserts p e message) = bind_same _ _ _ _ (h.eval e) λ v. bind_same _ _ _ _ (look_same (λ s. Gives
      (is_true s.heap v))) λ b. choose_same b _ _ _ _ (pure_same next) (fail_same message)
  stmt_same (annotated p n a None) = pure_same next
  stmt_same (annotated p n a (Some e)) = bind_same _ _ _ _ (h.eval e) λ v. bind_same _ _ _ _ (change_same
      (binds_local n.text v)) λ u. pure_same next
  stmt_same (assigns p t e) = bind_same _ _ _ _ (h.eval e) λ v. assign_same t v
  stmt_same (evaluates p e) = bind_same _ _ _ _ (h.eval e) λ v. pure_same next
  stmt_same (while_loop p e body) = h.again e body
  stmt_same (for_loop p n e body) = bind_same _ _ _ _ (iterable_same e (iterable_form e)) λ over.
      h.turns over 0 n.text body
  stmt_same (conditional p bs otherwise) = branches_same bs otherwise

  stmts_same : (body : Stmts) → Keeps extra room (T.exec_all P.Step P.plain f body) (T.exec_all P.Step P.plain r body)
  stmts_same no_stmts = pure_same next
  stmts_same (more_stmts s rest) = bind_same _ _ _ _ charged_same λ u. bind_same _ _ _ _ (stmt_same s) λ flow.
      then_follows_same flow _ _ (stmts_same rest)

  -- the suite of a loop, an empty one too, takes one of the fuel at least
  suite_same : (body : Stmts) → Same extra (suc room) room
      (T.exec_body P.Step P.plain (T.exec_all P.Step P.plain f) body)
      (T.exec_body P.Step P.plain (T.exec_all P.Step P.plain r) body)
  suite_same no_stmts = bind_same _ _ _ _ charge_same λ u. pure_same next
  suite_same (more_stmts s rest) = bind_same _ _ _ _ charge_same λ u. bind_same _ _ _ _ (stmt_same s) λ flow.
      then_follows_same flow _ _ (stmts_same rest)

  later_suite_same : (body : Stmts) → Keeps extra room
      (T.exec_body P.Step P.plain (T.exec_all P.Step P.plain f) body)
      (T.exec_body P.Step P.plain (T.exec_all P.Step P.plain r) body)
  later_suite_same no_stmts = bind_same _ _ _ _ charged_same λ u. pure_same next
  later_suite_same (more_stmts s rest) = stmts_same (more_stmts s rest)

  -- an expression takes one at least
  eval_same : (e : Expr) → Same extra (suc room) room (T.eval_over P.Step P.plain f e) (T.eval_over P.Step P.plain r e)
  eval_same e = bind_same _ _ _ _ charge_same λ u. node_same extra room f r h e

  -- statements take none, or one at least
  exec_same : (body : Stmts) → Keeps extra (suc room) (T.exec_all P.Step P.plain f body)
      (T.exec_all P.Step P.plain r body)
  exec_same no_stmts = pure_same next
  exec_same (more_stmts s rest) = loosely _ _ (suite_same (more_stmts s rest))

  turn_same : (g q : P.Step StatementEnd) → Keeps extra room g q → (n : List ℕ) (body : Stmts) (item : Option Value)
      → Keeps extra (suc room) (T.with_item P.Step P.plain (T.exec_all P.Step P.plain f) g n body item)
      (T.with_item P.Step P.plain (T.exec_all P.Step P.plain r) q n body item)
  turn_same g q x n body None = pure_same next
  turn_same g q x n body (Some v) = loosely _ _ (bind_same _ _ _ _ (change_same (binds_local n v)) λ u.
      bind_same _ _ _ _ (suite_same body) λ flow. after_turn_same flow _ _ x)

  over_same : PartsSame extra (suc room) (T.over_parts P.Step P.plain f) (T.over_parts P.Step P.plain r)
  over_same = record {
    eval = λ e. loosely _ _ (eval_same e);
    exec = exec_same;
    again = λ e body. loosely _ _ (bind_same _ _ _ _ (eval_same e) λ v. bind_same _ _ _ _ (look_same (λ s. Gives
        (is_true s.heap v))) λ b. choose_same b _ _ _ _ (bind_same _ _ _ _ (later_suite_same body) λ flow.
        after_turn_same flow _ _ (h.again e body)) (pure_same next));
    turns = λ over i n body. bind_same _ _ _ _ (act_same item_out (action.turn over i)) λ item. turn_same _ _
        (h.turns over (suc i) n body) n body item;
  }

-- with no room for any fuel nothing is said but that events are added
unbounded : (extra room : ℕ) (f g r : Parts P.Step) → PartsSame extra room f r → PartsSame extra 0 g r
unbounded extra room f g r h = record {
  eval = λ e. never _ _ _ (h.eval e);
  exec = λ body. never _ _ _ (h.exec body);
  again = λ e body. never _ _ _ (h.again e body);
  turns = λ over i n body. never _ _ _ (h.turns over i n body);
}

steps_grow : (extra n : ℕ) → PartsSame extra 0 (T.steps P.Step P.plain n) (T.steps P.Step P.plain n)
steps_grow extra zero = record {
  eval = λ e. stop_same Cut;
  exec = λ body. stop_same Cut;
  again = λ e body. stop_same Cut;
  turns = λ over i n body. stop_same Cut;
}
steps_grow extra (suc n) = unbounded extra 1 _ _ _ (over_same extra 0 (T.steps P.Step P.plain n)
    (T.steps P.Step P.plain n) (steps_grow extra n))

-- at most so many nested steps, where that is enough for the fuel
pub steps_same : (extra n k : ℕ) → n + extra ≤ k → PartsSame extra n (T.steps P.Step P.plain n)
    (T.steps P.Step P.plain k)
steps_same extra zero k lt = unbounded extra 0 _ _ _ (steps_grow extra k)
steps_same extra (suc n) zero lt = absurd (omega arith)
steps_same extra (suc n) (suc k) lt = over_same extra n (T.steps P.Step P.plain n) (T.steps P.Step P.plain k)
    (steps_same extra n k (omega arith))
