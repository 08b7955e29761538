-- An expression that ended in a value has evaluated its place.
use Rattle.std.proofs.Common.{ℕ, zero, suc}
use Rattle.pc_source.specs.declared.place.Place.{Place}
use Rattle.pc_tree.specs.Tree.{Expr, Exprs, Keywords, name, number, text, truth, nothing, tuple, list, dict, negative}
use Rattle.pc_tree.specs.Tree.{negation, binary, compare, is_none, is_not_none, conjunction, disjunction, attribute}
use Rattle.pc_tree.specs.Tree.{index, call}
use Rattle.pc_tree.specs.Depth.{place_of}
use Rattle.pc_machine.specs.Steps.{Parts}
use Rattle.pc_machine.specs.Free.{Step, free}
use Rattle.pc_machine.specs.Evaluation.{CallForm, instance_test, ordinary, call_form, eval_call, eval_node, eval_over}
use Rattle.pc_machine.specs.Evaluation.{steps}
use Rattle.pc_sound.proofs.Values.Flows.{Evaluates, emit_evaluates, later_evaluates, first_evaluates}
use Rattle.pc_sound.proofs.Steps.SafeSteps.{gives_not_stops}

module _ (parts : Parts Step) where
  call_evaluates : (p : Place) (callee : Expr) (arguments : Exprs) (by_name : Keywords) (form : CallForm)
      → Evaluates p (eval_call Step free parts p callee arguments by_name form)
  call_evaluates p callee arguments by_name (instance_test n e t) = later_evaluates p _ _ λ a. later_evaluates p _ _
      λ b. later_evaluates p _ _ λ v. first_evaluates p _ _ (emit_evaluates p)
  call_evaluates p callee arguments by_name ordinary = later_evaluates p _ _ λ a. later_evaluates p _ _ λ b.
      later_evaluates p _ _ λ v. first_evaluates p _ _ (emit_evaluates p)

  pub node_evaluates : (e : Expr) → Evaluates (place_of e) (eval_node Step free parts e)
  node_evaluates (name n) = first_evaluates n.place _ _ (emit_evaluates n.place)
  node_evaluates (number p digits) = first_evaluates p _ _ (emit_evaluates p)
  node_evaluates (text p bytes) = first_evaluates p _ _ (emit_evaluates p)
  node_evaluates (truth p b) = first_evaluates p _ _ (emit_evaluates p)
  node_evaluates (nothing p) = first_evaluates p _ _ (emit_evaluates p)
  node_evaluates (tuple p items) = later_evaluates p _ _ λ v. first_evaluates p _ _ (emit_evaluates p)
  node_evaluates (list p items) = later_evaluates p _ _ λ v. first_evaluates p _ _ (emit_evaluates p)
  node_evaluates (dict p items) = later_evaluates p _ _ λ v. first_evaluates p _ _ (emit_evaluates p)
  node_evaluates (negative p e) = later_evaluates p _ _ λ v. first_evaluates p _ _ (emit_evaluates p)
  node_evaluates (negation p e) = later_evaluates p _ _ λ v. first_evaluates p _ _ (emit_evaluates p)
  node_evaluates (binary p operator l r) = later_evaluates p _ _ λ v. later_evaluates p _ _ λ w. first_evaluates p _ _
      (emit_evaluates p)
  node_evaluates (compare p operator l r) = later_evaluates p _ _ λ v. later_evaluates p _ _ λ w. first_evaluates p _ _
      (emit_evaluates p)
  node_evaluates (is_none p e) = later_evaluates p _ _ λ v. first_evaluates p _ _ (emit_evaluates p)
  node_evaluates (is_not_none p e) = later_evaluates p _ _ λ v. first_evaluates p _ _ (emit_evaluates p)
  node_evaluates (conjunction p l r) = later_evaluates p _ _ λ v. later_evaluates p _ _ λ b. later_evaluates p _ _ λ w.
      first_evaluates p _ _ (emit_evaluates p)
  node_evaluates (disjunction p l r) = later_evaluates p _ _ λ v. later_evaluates p _ _ λ b. later_evaluates p _ _ λ w.
      first_evaluates p _ _ (emit_evaluates p)
  node_evaluates (attribute p e f) = later_evaluates p _ _ λ v. first_evaluates p _ _ (emit_evaluates p)
  node_evaluates (index p e i) = later_evaluates p _ _ λ v. later_evaluates p _ _ λ k. first_evaluates p _ _
      (emit_evaluates p)
  node_evaluates (call p callee arguments by_name) = call_evaluates p callee arguments by_name
      (call_form callee arguments by_name)

  -- steps over these parts evaluate the place of each expression
  pub over_evaluates : (e : Expr) → Evaluates (place_of e) (eval_over Step free parts e)
  over_evaluates e = later_evaluates (place_of e) _ _ λ u. node_evaluates e

pub steps_evaluate : (n : ℕ) (e : Expr) → Evaluates (place_of e) ((steps Step free n).eval e)
steps_evaluate zero e = record { place = λ s s' events a r. absurd (gives_not_stops r.is) }
steps_evaluate (suc n) e = over_evaluates (steps Step free n) e
