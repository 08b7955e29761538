-- The rule of each code for one node; where it gives a detail for a node of the module, there is one at the node's
-- place.
use Rattle.std.proofs.Common.{◌≡◌, List, false, Contains}
use Rattle.std.specs.Prelude.{flat_map, Option, Some, None}
use Rattle.pc_source.specs.declared.place.Place.{Place}
use Rattle.pc_tree.specs.declared.code.Code.{Code}
use Rattle.pc_tree.specs.declared.code.Code.TheVariants.{A2, A3, A4, A5, A6, A7, E02, E03, E04, E09, E10, E13, E14, E15}
use Rattle.pc_tree.specs.declared.code.Code.TheVariants.{E16, E17, E18, E19, E20, E22, E23, E25, E26, E27}
use Rattle.pc_tree.specs.Tree.{Ann, Target, Module}
use Rattle.pc_tree.specs.Depth.{place_of, place_of_ann, place_of_target}
use Rattle.pc_scope.specs.Resolution.{resolve}
use Rattle.pc_types.specs.Tree.{Tree}
use Rattle.pc_notes.specs.Notes.{is_same_place}
use Rattle.pc_rules.specs.Labels.{is_of_scopes}
use Rattle.pc_module_rules.proofs.Places.{own_place}
use Rattle.pc_module_rules.proofs.PlainCodes.{tells_flow}
use Rattle.pc_detail_texts.specs.Details.{Detail}
use Rattle.pc_detail_rules.specs.Annotations.{union_detail, annotation_size, annotation_detail}
use Rattle.pc_detail_rules.specs.Calls.{call_detail, builtin_detail, any_call_detail}
use Rattle.pc_detail_rules.specs.Explains.{is_callee_at, loop_detail, detail_for}
use Rattle.pc_detail_rules.specs.Facts.{Known}
use Rattle.pc_detail_rules.specs.Laws.{IsFit}
use Rattle.pc_detail_rules.specs.Names.{first_of_all, unknown_detail, early_detail, unassigned_detail, decorator_detail}
use Rattle.pc_detail_rules.specs.Nodes.{OwnedExpr, exprs_of_module, exprs_at, targets_in, targets_at, anns_in}
use Rattle.pc_detail_rules.specs.Nodes.{anns_of_item, anns_at}
use Rattle.pc_detail_rules.specs.Operations.{operator_detail, index_detail, store_detail, attribute_here}
use Rattle.pc_detail_rules.specs.Operations.{attribute_target, method_target, value_detail, display_size, keys_detail}
use Rattle.pc_detail_rules.specs.Overrides.{detail_or}
use Rattle.pc_detail_rules.specs.Statements.{no_test_detail, list_test_detail}
use Rattle.pc_detail_rules.proofs.Explained.Lists.{IsThere, none_there, there_first, there_second, first_passing}

-- labels say the code, it is none of flows, and the module has what its details ask for
pub record Asked (m : Module) (c : Code) : Type 0 where
  pub own : is_of_scopes c ≡ false
  pub plain : tells_flow c ≡ false
  pub fit : IsFit m c

module _ (m : Module) (known : Known) where
  -- there is a detail of a code at a place
  abbrev pub IsTold : Place → Code → Type 0
  IsTold p c = IsThere (detail_for m known p c)

  -- ---- expressions

  -- the rule of a code for one expression
  abbrev pub expr_rule : Code → OwnedExpr → Option (Detail Tree)
  expr_rule A2 o = operator_detail m known o.expr
  expr_rule A3 o = index_detail m known o.expr
  expr_rule A4 o = attribute_here m known (is_callee_at m (place_of o.expr)) o.expr
  expr_rule A5 o = loop_detail m known o.expr
  expr_rule A6 o = any_call_detail m known (resolve m o.owner) o.expr
  expr_rule A7 o = list_test_detail known o.expr
  expr_rule E02 o = unknown_detail m o
  expr_rule E03 o = early_detail m o.expr
  expr_rule E04 o = unassigned_detail m o
  expr_rule E13 o = operator_detail m known o.expr
  expr_rule E14 o = call_detail m known (resolve m o.owner) o.expr
  expr_rule E15 o = attribute_here m known (is_callee_at m (place_of o.expr)) o.expr
  expr_rule E16 o = index_detail m known o.expr
  expr_rule E18 o = loop_detail m known o.expr
  expr_rule E19 o = operator_detail m known o.expr
  expr_rule E20 o = value_detail m known o
  expr_rule E22 o = keys_detail m known o.expr
  expr_rule E25 o = Some (no_test_detail o.expr)
  expr_rule E26 o = display_size m known o.expr
  expr_rule E27 o = builtin_detail m known (resolve m o.owner) o.expr
  expr_rule c o = None

  at_expr : (rule : OwnedExpr → Option (Detail Tree)) (o : OwnedExpr) → Contains (exprs_of_module m) o
      → IsThere (rule o) → IsThere (first_of_all rule (exprs_at m (place_of o.expr)))
  at_expr rule o h k = first_passing rule (λ (x : OwnedExpr). is_same_place (place_of o.expr) (place_of x.expr))
      (exprs_of_module m) o h (own_place (place_of o.expr)) k

  behind_targets : (rule : Target → Option (Detail Tree)) (other : OwnedExpr → Option (Detail Tree)) (o : OwnedExpr)
      → Contains (exprs_of_module m) o → IsThere (other o)
      → IsThere (detail_or (first_of_all rule (targets_at m (place_of o.expr)))
      (first_of_all other (exprs_at m (place_of o.expr))))
  behind_targets rule other o h k = there_second (first_of_all rule (targets_at m (place_of o.expr)))
      (first_of_all other (exprs_at m (place_of o.expr))) (at_expr other o h k)

  pub expr_told : (o : OwnedExpr) → Contains (exprs_of_module m) o → (c : Code) → IsThere (expr_rule c o)
      → IsTold (place_of o.expr) c
  expr_told o h A2 k = at_expr (expr_rule A2) o h k
  expr_told o h A3 k = behind_targets (store_detail m known) (expr_rule A3) o h k
  expr_told o h A4 k = behind_targets (attribute_target m known)
      (λ x. attribute_here m known (is_callee_at m (place_of o.expr)) x.expr) o h k
  expr_told o h A5 k = at_expr (expr_rule A5) o h k
  expr_told o h A6 k = at_expr (expr_rule A6) o h k
  expr_told o h A7 k = at_expr (expr_rule A7) o h k
  expr_told o h E02 k = there_first (first_of_all (unknown_detail m) (exprs_at m (place_of o.expr)))
      (decorator_detail m (place_of o.expr)) (at_expr (expr_rule E02) o h k)
  expr_told o h E03 k = at_expr (expr_rule E03) o h k
  expr_told o h E04 k = at_expr (expr_rule E04) o h k
  expr_told o h E13 k = at_expr (expr_rule E13) o h k
  expr_told o h E14 k = at_expr (expr_rule E14) o h k
  expr_told o h E15 k = behind_targets (attribute_target m known)
      (λ x. attribute_here m known (is_callee_at m (place_of o.expr)) x.expr) o h k
  expr_told o h E16 k = at_expr (expr_rule E16) o h k
  expr_told o h E18 k = at_expr (expr_rule E18) o h k
  expr_told o h E19 k = at_expr (expr_rule E19) o h k
  expr_told o h E20 k = at_expr (expr_rule E20) o h k
  expr_told o h E22 k = at_expr (expr_rule E22) o h k
  expr_told o h E25 k = at_expr (expr_rule E25) o h k
  expr_told o h E26 k = there_second (first_of_all (λ a. Some (annotation_size m a)) (anns_at m (place_of o.expr)))
      (first_of_all (expr_rule E26) (exprs_at m (place_of o.expr))) (at_expr (expr_rule E26) o h k)
  expr_told o h E27 k = at_expr (expr_rule E27) o h k
  expr_told o h _ k = none_there k

  -- ---- targets

  -- the rule of a code for one target
  abbrev pub target_rule : Code → Target → Option (Detail Tree)
  target_rule A3 t = store_detail m known t
  target_rule A4 t = attribute_target m known t
  target_rule E15 t = attribute_target m known t
  target_rule E17 t = store_detail m known t
  target_rule E23 t = method_target m known t
  target_rule c t = None

  at_target : (rule : Target → Option (Detail Tree)) (t : Target) → Contains (targets_in m) t → IsThere (rule t)
      → IsThere (first_of_all rule (targets_at m (place_of_target t)))
  at_target rule t h k = first_passing rule (λ x. is_same_place (place_of_target t) (place_of_target x)) (targets_in m) t
      h (own_place (place_of_target t)) k

  before_exprs : (rule : Target → Option (Detail Tree)) (other : OwnedExpr → Option (Detail Tree)) (t : Target)
      → Contains (targets_in m) t → IsThere (rule t)
      → IsThere (detail_or (first_of_all rule (targets_at m (place_of_target t)))
      (first_of_all other (exprs_at m (place_of_target t))))
  before_exprs rule other t h k = there_first (first_of_all rule (targets_at m (place_of_target t)))
      (first_of_all other (exprs_at m (place_of_target t))) (at_target rule t h k)

  pub target_told : (t : Target) → Contains (targets_in m) t → (c : Code) → IsThere (target_rule c t)
      → IsTold (place_of_target t) c
  target_told t h A3 k = before_exprs (target_rule A3) (expr_rule A3) t h k
  target_told t h A4 k = before_exprs (target_rule A4)
      (λ x. attribute_here m known (is_callee_at m (place_of_target t)) x.expr) t h k
  target_told t h E15 k = before_exprs (target_rule E15)
      (λ x. attribute_here m known (is_callee_at m (place_of_target t)) x.expr) t h k
  target_told t h E17 k = at_target (target_rule E17) t h k
  target_told t h E23 k = at_target (target_rule E23) t h k
  target_told t h _ k = none_there k

  -- ---- annotations

  -- the annotations of a module, whole or parts of others
  abbrev pub anns_of_module : List Ann
  anns_of_module = flat_map anns_in (flat_map anns_of_item m.items)

  -- the rule of a code for one annotation
  abbrev pub ann_rule : Code → Ann → Option (Detail Tree)
  ann_rule E09 a = annotation_detail m a
  ann_rule E10 a = union_detail m a
  ann_rule E26 a = Some (annotation_size m a)
  ann_rule c a = None

  at_ann : (rule : Ann → Option (Detail Tree)) (a : Ann) → Contains anns_of_module a → IsThere (rule a)
      → IsThere (first_of_all rule (anns_at m (place_of_ann a)))
  at_ann rule a h k = first_passing rule (λ x. is_same_place (place_of_ann a) (place_of_ann x)) anns_of_module a h
      (own_place (place_of_ann a)) k

  pub ann_told : (a : Ann) → Contains anns_of_module a → (c : Code) → IsThere (ann_rule c a) → IsTold (place_of_ann a) c
  ann_told a h E09 k = at_ann (ann_rule E09) a h k
  ann_told a h E10 k = at_ann (ann_rule E10) a h k
  ann_told a h E26 k = there_first (first_of_all (ann_rule E26) (anns_at m (place_of_ann a)))
      (first_of_all (expr_rule E26) (exprs_at m (place_of_ann a))) (at_ann (ann_rule E26) a h k)
  ann_told a h _ k = none_there k
