-- The rules of details by code, as the program looks them up: private to this crate, tied to `detail_for` in proofs/.
-- Own rule of the profile.
use Rattle.std.specs.Prelude.{List, Bool as Test, Option, Some, None}
use Rattle.std.specs.Option.{option_and_then}
use Rattle.pc_source.specs.declared.place.Place.{Place}
use Rattle.pc_tree.specs.declared.code.Code.{Code}
use Rattle.pc_tree.specs.declared.code.Code.TheVariants.{A1, A2, A3, A4, A5, A6, A7, A8, E02, E03, E04, E09, E10, E11}
use Rattle.pc_tree.specs.declared.code.Code.TheVariants.{E12, E13, E14, E15, E16, E17, E18, E19, E20, E21, E22, E23, E25, E26, E27, E28}
use Rattle.pc_tree.specs.Tree.{Ann, Target, Module}
use Rattle.pc_scope.specs.Bindings.{Body}
use Rattle.pc_scope.specs.Resolution.{resolve}
use Rattle.pc_types.specs.Tree.{Tree}
use Rattle.pc_detail_texts.specs.Details.{Detail}
use Rattle.pc_detail_rules.specs.Facts.{Known}
use Rattle.pc_detail_rules.specs.Nodes.{OwnedExpr, anns_at, body_named_at, exprs_at, targets_at}
use Rattle.pc_detail_rules.specs.Operations.{operator_detail, index_detail, store_detail, attribute_here, attribute_target}
use Rattle.pc_detail_rules.specs.Operations.{method_target, value_detail, display_size, keys_detail}
use Rattle.pc_detail_rules.specs.Calls.{call_detail, builtin_detail, any_call_detail}
use Rattle.pc_detail_rules.specs.Annotations.{union_detail, annotation_size, annotation_detail}
use Rattle.pc_detail_rules.specs.Explains.{is_callee_at, loop_detail}
use Rattle.pc_detail_rules.specs.Overrides.{detail_or, override_detail}
use Rattle.pc_detail_rules.specs.Names.{early_detail, first_of_all, main_detail, unassigned_detail, unknown_detail}
use Rattle.pc_name_details.specs.Naming.{walked_detail}
use Rattle.pc_detail_rules.specs.Sinks.{flow_detail}
use Rattle.pc_detail_rules.specs.Statements.{list_test_detail, no_return_detail, no_test_detail}

-- the detail of an annotation by the rule of a code
abbrev pub ann_rule : Module → Code → Ann → Option (Detail Tree)
ann_rule m E09 a = annotation_detail m a
ann_rule m E10 a = union_detail m a
ann_rule m E26 a = Some (annotation_size m a)
ann_rule m c a = None

-- the detail of a function or method by the rule of a code
abbrev pub function_rule : Module → Code → Body → Option (Detail Tree)
function_rule m A8 b = override_detail m A8 b
function_rule m E11 b = override_detail m E11 b
function_rule m E21 b = Some (no_return_detail m b)
function_rule m c b = None

-- the detail of a target by the rule of a code
abbrev pub target_rule : Module → Known → Code → Target → Option (Detail Tree)
target_rule m known A3 t = store_detail m known t
target_rule m known E17 t = store_detail m known t
target_rule m known A4 t = attribute_target m known t
target_rule m known E15 t = attribute_target m known t
target_rule m known E23 t = method_target m known t
target_rule m known c t = None

-- the detail of an expression, which may be a callee, by the rule of a code
abbrev pub expr_rule : Module → Known → (called : Test) → Code → OwnedExpr → Option (Detail Tree)
expr_rule m known called A2 o = operator_detail m known o.expr
expr_rule m known called E13 o = operator_detail m known o.expr
expr_rule m known called E19 o = operator_detail m known o.expr
expr_rule m known called A3 o = index_detail m known o.expr
expr_rule m known called E16 o = index_detail m known o.expr
expr_rule m known called A4 o = attribute_here m known called o.expr
expr_rule m known called E15 o = attribute_here m known called o.expr
expr_rule m known called A5 o = loop_detail m known o.expr
expr_rule m known called E18 o = loop_detail m known o.expr
expr_rule m known called A6 o = any_call_detail m known (resolve m o.owner) o.expr
expr_rule m known called E14 o = call_detail m known (resolve m o.owner) o.expr
expr_rule m known called E27 o = builtin_detail m known (resolve m o.owner) o.expr
expr_rule m known called A7 o = list_test_detail known o.expr
expr_rule m known called E02 o = unknown_detail m o
expr_rule m known called E03 o = early_detail m o.expr
expr_rule m known called E04 o = unassigned_detail m o
expr_rule m known called E20 o = value_detail m known o
expr_rule m known called E22 o = keys_detail m known o.expr
expr_rule m known called E25 o = Some (no_test_detail o.expr)
expr_rule m known called E26 o = display_size m known o.expr
expr_rule m known called c o = None

-- the detail of the first of some targets, or else of some expressions, by the rule of a code
abbrev pub values_rule : Module → Known → (called : Test) → Code → List Target → List OwnedExpr → Option (Detail Tree)
values_rule m known called c ts es = detail_or (first_of_all (target_rule m known c) ts)
    (first_of_all (expr_rule m known called c) es)

-- the detail of a place by the rule of a code: of an annotation, a function, a target or an expression there
abbrev pub by_nodes : Module → Known → Code → Place → Option (Detail Tree)
by_nodes m known c p = detail_or (first_of_all (ann_rule m c) (anns_at m p))
    (detail_or (option_and_then (function_rule m c) (body_named_at m p))
    (values_rule m known (is_callee_at m p) c (targets_at m p) (exprs_at m p)))

-- the detail of a place by the rule of a code: of a flow, of `main`, of a node there, or of what is bound there
abbrev pub by_code : Module → Known → Code → Place → Option (Detail Tree)
by_code m known A1 p = flow_detail m known A1 p
by_code m known E12 p = flow_detail m known E12 p
by_code m known E28 p = Some (main_detail m)
by_code m known c p = detail_or (by_nodes m known c p) (walked_detail m p c)
