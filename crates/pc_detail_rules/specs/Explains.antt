-- The detail of a finding, for each code. Own rule of the profile.
use Rattle.std.specs.Prelude.{◌≡◌, ℕ, List, if◌then◌else◌, Bool as Test, false, Option, Some, None, codes}
use Rattle.std.specs.List.{list_any}
use Rattle.std.specs.Option.{option_map, option_and_then}
use Rattle.pc_source.specs.declared.place.Place.{Place}
use Rattle.pc_tree.specs.declared.code.Code.{Code}
use Rattle.pc_tree.specs.declared.code.Code.TheVariants.{A1, A2, A3, A4, A5, A6, A7, A8, E01, E02, E03, E04, E05, E06}
use Rattle.pc_tree.specs.declared.code.Code.TheVariants.{E07, E08, E09, E10, E11, E12, E13, E14, E15, E16, E17, E18}
use Rattle.pc_tree.specs.declared.code.Code.TheVariants.{E19, E20, E21, E22, E23, E24, E25, E26, E27, E28, E29, E30}
use Rattle.pc_tree.specs.declared.code.Code.TheVariants.{E31}
use Rattle.pc_tree.specs.declared.code.Finding.{Finding}
use Rattle.pc_tree.specs.Tree.{Expr, call, Ann, Target, Module}
use Rattle.pc_tree.specs.Depth.{place_of}
use Rattle.pc_scope.specs.declared.resolution.NameMeaning.{NameMeaning}
use Rattle.pc_scope.specs.Resolution.{resolve}
use Rattle.pc_types.specs.Tree.{Tree}
use Rattle.pc_notes.specs.Notes.{is_same_place}
use Rattle.pc_module_rules.specs.Modules.{Labelling, IsLawful}
use Rattle.pc_module_rules.specs.TypesOfStatements.{is_range_call}
use Rattle.pc_detail_texts.specs.Details.{Detail}
use Rattle.pc_detail_texts.specs.Sentences.{Words}
use Rattle.pc_detail_rules.specs.Facts.{Known, known_under}
use Rattle.pc_detail_rules.specs.Nodes.{OwnedExpr, exprs_of_module, exprs_at, targets_at, anns_at, body_named_at}
use Rattle.pc_detail_rules.specs.Operations.{operator_detail, index_detail, store_detail, iterate_detail, attribute_here}
use Rattle.pc_detail_rules.specs.Operations.{attribute_target, method_target, value_detail, display_size, keys_detail}
use Rattle.pc_detail_rules.specs.Calls.{call_detail, builtin_detail, any_call_detail, range_misfit}
use Rattle.pc_detail_rules.specs.Sinks.{flow_annotation, flow_detail}
use Rattle.pc_detail_rules.specs.Annotations.{union_detail, annotation_size, annotation_detail}
use Rattle.pc_detail_rules.specs.Overrides.{detail_or, override_detail}
use Rattle.pc_detail_rules.specs.Names.{first_of_all}
use Rattle.pc_detail_rules.specs.Names.{twice_detail, unknown_detail, decorator_detail, early_detail, unassigned_detail}
use Rattle.pc_detail_rules.specs.Names.{twice_member_detail, base_detail, field_order_detail, late_annotation_detail}
use Rattle.pc_detail_rules.specs.Names.{main_detail, reserved_detail, default_order_detail}
use Rattle.pc_detail_rules.specs.Statements.{outside_loop_detail, unreachable_detail, no_return_detail, no_test_detail}
use Rattle.pc_detail_rules.specs.Statements.{list_test_detail}
use Rattle.pc_detail_rules.specs.ToldTypes.{told_detail}

-- whether an expression is a call of the callee at this place
abbrev pub calls_at : Place → Expr → Test
calls_at p (call q callee args kws) = is_same_place p (place_of callee)
calls_at p e = false

-- whether the expression at a place is a callee
abbrev pub is_callee_at : Module → Place → Test
is_callee_at m p = list_any (λ (o : OwnedExpr). calls_at p o.expr) (exprs_of_module m)

-- A5, E18 at an iterable: the misfit of a call of `range`, or the type of the iterable
abbrev pub loop_detail : Module → Known → Expr → Option (Detail Tree)
loop_detail m known e = if is_range_call e then range_misfit e else Some (iterate_detail m known e)

module _ (m : Module) (known : Known) (p : Place) where
  -- the detail that a rule gives for the first expression at the place for which it gives one
  abbrev of_expr : (Expr → Option (Detail Tree)) → Option (Detail Tree)
  of_expr rule = first_of_all (λ (o : OwnedExpr). rule o.expr) (exprs_at m p)

  -- the detail that a rule gives for the first expression, with its function, at the place for which it gives one
  abbrev of_owned : (OwnedExpr → Option (Detail Tree)) → Option (Detail Tree)
  of_owned rule = first_of_all rule (exprs_at m p)

  -- the detail that a rule gives for the first target at the place for which it gives one
  abbrev of_target : (Target → Option (Detail Tree)) → Option (Detail Tree)
  of_target rule = first_of_all rule (targets_at m p)

  -- the detail that a rule gives for the first annotation at the place for which it gives one
  abbrev of_ann : (Ann → Option (Detail Tree)) → Option (Detail Tree)
  of_ann rule = first_of_all rule (anns_at m p)

  -- the detail of an attribute at the place: of a target, of a callee, or of one that is read
  abbrev of_attribute : Option (Detail Tree)
  of_attribute = detail_or (of_target (attribute_target m known)) (of_expr (attribute_here m known (is_callee_at m p)))

  -- the detail of a call at the place, by a rule that takes the meanings of names there
  abbrev of_call : ((names : List ℕ → NameMeaning) → Expr → Option (Detail Tree)) → Option (Detail Tree)
  of_call rule = of_owned (λ o. rule (resolve m o.owner) o.expr)

  -- the detail of a finding with this code at the place, by the rule of the code
  abbrev pub detail_for : Code → Option (Detail Tree)
  detail_for A1 = flow_detail m known A1 p
  detail_for A2 = of_expr (operator_detail m known)
  detail_for A3 = detail_or (of_target (store_detail m known)) (of_expr (index_detail m known))
  detail_for A4 = of_attribute
  detail_for A5 = of_expr (loop_detail m known)
  detail_for A6 = of_call (any_call_detail m known)
  detail_for A7 = of_expr (list_test_detail known)
  detail_for A8 = option_and_then (override_detail m A8) (body_named_at m p)
  detail_for E01 = twice_detail m p
  detail_for E02 = detail_or (of_owned (unknown_detail m)) (decorator_detail m p)
  detail_for E03 = of_expr (early_detail m)
  detail_for E04 = of_owned (unassigned_detail m)
  detail_for E05 = outside_loop_detail m p
  detail_for E06 = twice_member_detail m p
  detail_for E07 = base_detail m p
  detail_for E08 = field_order_detail m p
  detail_for E09 = of_ann (annotation_detail m)
  detail_for E10 = of_ann (union_detail m)
  detail_for E11 = option_and_then (override_detail m E11) (body_named_at m p)
  detail_for E12 = flow_detail m known E12 p
  detail_for E13 = of_expr (operator_detail m known)
  detail_for E14 = of_call (call_detail m known)
  detail_for E15 = of_attribute
  detail_for E16 = of_expr (index_detail m known)
  detail_for E17 = of_target (store_detail m known)
  detail_for E18 = of_expr (loop_detail m known)
  detail_for E19 = of_expr (operator_detail m known)
  detail_for E20 = of_owned (value_detail m known)
  detail_for E21 = option_map (no_return_detail m) (body_named_at m p)
  detail_for E22 = of_expr (keys_detail m known)
  detail_for E23 = of_target (method_target m known)
  detail_for E24 = late_annotation_detail m p
  detail_for E25 = of_expr (λ e. Some (no_test_detail e))
  detail_for E26 = detail_or (of_ann (λ a. Some (annotation_size m a))) (of_expr (display_size m known))
  detail_for E27 = of_call (builtin_detail m known)
  detail_for E28 = Some (main_detail m)
  detail_for E29 = reserved_detail m p
  detail_for E30 = unreachable_detail m p
  detail_for E31 = default_order_detail m p

-- the detail of a finding under a labelling
abbrev pub detail_under : (m : Module) → Labelling m → Finding → Option (Detail Tree)
detail_under m labels f = detail_for m (known_under m labels) f.place f.code

-- a detail explains a finding: it is that of every lawful labelling of the module
abbrev pub Explains : Module → Finding → Detail Tree → Type 0
Explains m f d = (labels : Labelling m) → IsLawful m labels → detail_under m labels f ≡ Some d

-- the annotation of the target of the flow at a place, if the code is that of a flow and the target has one
abbrev pub annotation_for : Module → Known → Place → Code → Option Ann
annotation_for m known p A1 = flow_annotation m known A1 p
annotation_for m known p E12 = flow_annotation m known E12 p
annotation_for m known p c = None

-- the annotation of the target of a finding, if there is one, is this under every lawful labelling of the module
abbrev pub IsAnnotated : Module → Finding → Option Ann → Type 0
IsAnnotated m f a = (labels : Labelling m) → IsLawful m labels
    → annotation_for m (known_under m labels) f.place f.code ≡ a

-- the words of a finding: a detail explains it, and these are the detail as it is told, with the annotation of its target
pub record AreWords (m : Module) (f : Finding) (words : Detail Words) : Type 0 where
  pub detail : Detail Tree
  pub explains : Explains m f detail
  pub annotation : Option Ann
  pub annotated : IsAnnotated m f annotation
  pub told : words ≡ told_detail m annotation detail
