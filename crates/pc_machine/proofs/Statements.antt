-- A plain run is a possible run: statements, loops, and nested steps by induction on their number.
use Rattle.std.proofs.Common.{ℕ, zero, suc, List, refl}
use Rattle.std.specs.Prelude.{Option, Some, None}
use Rattle.pc_tree.specs.Tree.{Expr, Target, to_name, to_attribute, to_index, Stmt, pass, breaks, continues, returns}
use Rattle.pc_tree.specs.Tree.{asserts, annotated, assigns, evaluates, while_loop, for_loop, conditional, Stmts}
use Rattle.pc_tree.specs.Tree.{no_stmts, more_stmts, Branches, no_branches, more_branches}
use Rattle.pc_value.specs.Value.{Value, Cut}
use Rattle.pc_machine.specs.Steps.{Parts, StatementEnd, next, breaking, continuing, leaves, iteration_out, item_out}
use Rattle.pc_machine.specs.Evaluation as T
use Rattle.pc_machine.specs.Evaluation.{IterableForm, range_call, any_iterable, iterable_form}
use Rattle.pc_machine.specs.Plain as P
use Rattle.pc_machine.specs.Free as F
use Rattle.pc_machine.proofs.Fits.{Fits, bind_fits, pure_fits, stop_fits, charge_fits, emit_fits, look_fits}
use Rattle.pc_machine.proofs.Fits.{change_fits, act_fits}
use Rattle.pc_machine.proofs.Expressions.{PartsFit, value_fits, choose_fits, all_fits, keywords_fit, node_fits}

then_follows_fits : (flow : StatementEnd) (f : P.Step StatementEnd) (r : F.Step StatementEnd) → Fits f r
    → Fits (T.then_follows P.Step P.plain flow f) (T.then_follows F.Step F.free flow r)
then_follows_fits next f r x = x
then_follows_fits breaking f r x = pure_fits breaking
then_follows_fits continuing f r x = pure_fits continuing
then_follows_fits (leaves v) f r x = pure_fits (leaves v)

after_turn_fits : (flow : StatementEnd) (f : P.Step StatementEnd) (r : F.Step StatementEnd) → Fits f r
    → Fits (T.after_turn P.Step P.plain flow f) (T.after_turn F.Step F.free flow r)
after_turn_fits next f r x = x
after_turn_fits breaking f r x = pure_fits next
after_turn_fits continuing f r x = x
after_turn_fits (leaves v) f r x = pure_fits (leaves v)

body_fits : (f : Stmts → P.Step StatementEnd) (r : Stmts → F.Step StatementEnd)
    → ((body : Stmts) → Fits (f body) (r body)) → (body : Stmts) → Fits (T.exec_body P.Step P.plain f body)
    (T.exec_body F.Step F.free r body)
body_fits f r h no_stmts = bind_fits _ _ _ _ charge_fits λ u. pure_fits next
body_fits f r h (more_stmts s rest) = h (more_stmts s rest)

module _ (f : Parts P.Step) (r : Parts F.Step) (h : PartsFit f r) where
  assign_fits : (t : Target) (v : Value) → Fits (T.assign P.Step P.plain f t v) (T.assign F.Step F.free r t v)
  assign_fits (to_name n) v = bind_fits _ _ _ _ (change_fits _) λ u. pure_fits next
  assign_fits (to_attribute p e m) v = bind_fits _ _ _ _ (h.eval e) λ o. bind_fits _ _ _ _ (emit_fits p) λ u.
      bind_fits _ _ _ _ (value_fits _) λ s. pure_fits next
  assign_fits (to_index p e i) v = bind_fits _ _ _ _ (h.eval e) λ o. bind_fits _ _ _ _ (h.eval i) λ k. bind_fits _ _ _ _
      (emit_fits p) λ u. bind_fits _ _ _ _ (value_fits _) λ s. pure_fits next

  fail_fits : (message : Option Expr) → Fits (T.fail P.Step P.plain f message) (T.fail F.Step F.free r message)
  fail_fits None = stop_fits _
  fail_fits (Some e) = bind_fits _ _ _ _ (h.eval e) λ v. stop_fits _

  branches_fit : (bs : Branches) (otherwise : Stmts) → Fits (T.exec_branches P.Step P.plain f bs otherwise)
      (T.exec_branches F.Step F.free r bs otherwise)
  branches_fit no_branches otherwise = h.exec otherwise
  branches_fit (more_branches e body rest) otherwise = bind_fits _ _ _ _ (h.eval e) λ v. bind_fits _ _ _ _ (look_fits _)
      λ b. choose_fits b _ _ _ _ (h.exec body) (branches_fit rest otherwise)

  iterable_fits : (e : Expr) (form : IterableForm) → Fits (T.eval_iterable P.Step P.plain f e form)
      (T.eval_iterable F.Step F.free r e form)
  iterable_fits e (range_call p n arguments by_name) = bind_fits _ _ _ _ charge_fits λ u. bind_fits _ _ _ _ charge_fits
      λ u. bind_fits _ _ _ _ (emit_fits n.place) λ u. bind_fits _ _ _ _ (all_fits f.eval r.eval h.eval arguments)
      λ values. bind_fits _ _ _ _ (keywords_fit f.eval r.eval h.eval by_name) λ named. bind_fits _ _ _ _ (emit_fits p)
      λ u. bind_fits _ _ _ _ (look_fits _) λ limit. act_fits iteration_out _ refl
  iterable_fits e any_iterable = bind_fits _ _ _ _ (h.eval e) λ v. act_fits iteration_out _ refl

  stmt_fits : (s : Stmt) → Fits (T.exec_node P.Step P.plain f s) (T.exec_node F.Step F.free r s)
  stmt_fits (pass p) = pure_fits next
  stmt_fits (breaks p) = pure_fits breaking
  stmt_fits (continues p) = pure_fits continuing
  stmt_fits (returns p None) = pure_fits _
  stmt_fits (returns p (Some e)) = bind_fits _ _ _ _ (h.eval e) λ v. pure_fits (leaves v)
  stmt_fits (asserts p e message) = bind_fits _ _ _ _ (h.eval e) λ v. bind_fits _ _ _ _ (look_fits _) λ b.
      choose_fits b _ _ _ _ (pure_fits next) (fail_fits message)
  stmt_fits (annotated p n a None) = pure_fits next
  stmt_fits (annotated p n a (Some e)) = bind_fits _ _ _ _ (h.eval e) λ v. bind_fits _ _ _ _ (change_fits _) λ u.
      pure_fits next
  stmt_fits (assigns p t e) = bind_fits _ _ _ _ (h.eval e) λ v. assign_fits t v
  stmt_fits (evaluates p e) = bind_fits _ _ _ _ (h.eval e) λ v. pure_fits next
  stmt_fits (while_loop p e body) = h.again e body
  stmt_fits (for_loop p n e body) = bind_fits _ _ _ _ (iterable_fits e (iterable_form e)) λ over. h.turns over 0 n.text
      body
  stmt_fits (conditional p bs otherwise) = branches_fit bs otherwise

  stmts_fit : (body : Stmts) → Fits (T.exec_all P.Step P.plain f body) (T.exec_all F.Step F.free r body)
  stmts_fit no_stmts = pure_fits next
  stmts_fit (more_stmts s rest) = bind_fits _ _ _ _ charge_fits λ u. bind_fits _ _ _ _ (stmt_fits s) λ flow.
      then_follows_fits flow _ _ (stmts_fit rest)

  eval_fits : (e : Expr) → Fits (T.eval_over P.Step P.plain f e) (T.eval_over F.Step F.free r e)
  eval_fits e = bind_fits _ _ _ _ charge_fits λ u. node_fits f r h e

  item_fits : (g : P.Step StatementEnd) (q : F.Step StatementEnd) → Fits g q
      → (n : List ℕ) (body : Stmts) (item : Option Value) → Fits
      (T.with_item P.Step P.plain (T.exec_all P.Step P.plain f) g n body item)
      (T.with_item F.Step F.free (T.exec_all F.Step F.free r) q n body item)
  item_fits g q x n body None = pure_fits next
  item_fits g q x n body (Some v) = bind_fits _ _ _ _ (change_fits _) λ u. bind_fits _ _ _ _
      (body_fits _ _ stmts_fit body) λ flow. after_turn_fits flow _ _ x

  over_fits : PartsFit (T.over_parts P.Step P.plain f) (T.over_parts F.Step F.free r)
  over_fits = record {
    eval = eval_fits;
    exec = stmts_fit;
    again = λ e body. bind_fits _ _ _ _ (eval_fits e) λ v. bind_fits _ _ _ _ (look_fits _) λ b. choose_fits b _ _ _ _
        (bind_fits _ _ _ _ (body_fits _ _ stmts_fit body) λ flow. after_turn_fits flow _ _ (h.again e body))
        (pure_fits next);
    turns = λ over i n body. bind_fits _ _ _ _ (act_fits item_out _ refl) λ item. item_fits _ _
        (h.turns over (suc i) n body) n body item;
  }

-- at most n nested steps
pub steps_fit : (n : ℕ) → PartsFit (T.steps P.Step P.plain n) (T.steps F.Step F.free n)
steps_fit zero = record {
  eval = λ e. stop_fits Cut;
  exec = λ body. stop_fits Cut;
  again = λ e body. stop_fits Cut;
  turns = λ over i n body. stop_fits Cut;
}
steps_fit (suc n) = over_fits (T.steps P.Step P.plain n) (T.steps F.Step F.free n) (steps_fit n)
