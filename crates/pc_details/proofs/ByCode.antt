-- The rules of details by code, as the program looks them up, are those of the definitions.
use Rattle.std.proofs.Common.{◌≡◌, ◌∙◌, List, [], ◌∷◌, Option, Some, None, refl, sym, ap}
use Rattle.std.specs.Option.{option_and_then, option_map}
use Rattle.pc_source.specs.declared.place.Place.{Place}
use Rattle.pc_tree.specs.declared.code.Code.{Code}
use Rattle.pc_tree.specs.declared.code.Code.TheVariants.{A1, A2, A3, A4, A5, A6, A7, A8, E01, E02, E03, E04, E05, E06}
use Rattle.pc_tree.specs.declared.code.Code.TheVariants.{E07, E08, E09, E10, E11, E12, E13, E14, E15, E16, E17, E18}
use Rattle.pc_tree.specs.declared.code.Code.TheVariants.{E19, E20, E21, E22, E23, E24, E25, E26, E27, E28, E29, E30}
use Rattle.pc_tree.specs.declared.code.Code.TheVariants.{E31}
use Rattle.pc_tree.specs.Tree.{Ann, Module, Target}
use Rattle.pc_scope.specs.Bindings.{Body}
use Rattle.pc_types.specs.Tree.{Tree}
use Rattle.pc_detail_texts.specs.Details.{Detail}
use Rattle.pc_details.specs.ByCode.{ann_rule, by_code, by_nodes, expr_rule, function_rule, target_rule}
use Rattle.pc_details.specs.ByCode.{values_rule}
use Rattle.pc_detail_rules.specs.Explains.{detail_for, is_callee_at}
use Rattle.pc_detail_rules.specs.Facts.{Known}
use Rattle.pc_detail_rules.specs.Names.{first_of_all}
use Rattle.pc_name_details.specs.Naming.{walked_detail}
use Rattle.pc_detail_rules.specs.Nodes.{anns_at, body_named_at, exprs_at, targets_at}
use Rattle.pc_detail_rules.specs.Overrides.{detail_or}
use Rattle.pc_detail_rules.specs.Statements.{no_return_detail}

-- a rule that gives nothing gives nothing for a list
pub no_first : {A : Type 0} (rule : A → Option (Detail Tree)) → ((x : A) → rule x ≡ None) → (xs : List A)
    → first_of_all rule xs ≡ None
no_first rule h [] = refl
no_first rule h (x ∷ xs) = ap (λ (d : Option (Detail Tree)). detail_or d (first_of_all rule xs)) (h x)
    ∙ no_first rule h xs

-- nor for what there may be
pub no_then : {A : Type 0} (rule : A → Option (Detail Tree)) → ((x : A) → rule x ≡ None) → (o : Option A)
    → option_and_then rule o ≡ None
no_then rule h None = refl
no_then rule h (Some x) = h x

-- a detail, or else none
pub or_none : (d : Option (Detail Tree)) → detail_or d None ≡ d
or_none None = refl
or_none (Some d) = refl

-- the promise of what there may be
promise : (m : Module) (o : Option Body)
    → option_map (no_return_detail m) o ≡ option_and_then (function_rule m E21) o
promise m None = refl
promise m (Some b) = refl

module _ (m : Module) (known : Known) (p : Place) (c : Code) where
  -- the detail of the nodes, by those of each kind
  nodes_are : (a f t x : Option (Detail Tree)) → first_of_all (ann_rule m c) (anns_at m p) ≡ a
      → option_and_then (function_rule m c) (body_named_at m p) ≡ f
      → first_of_all (target_rule m known c) (targets_at m p) ≡ t
      → first_of_all (expr_rule m known (is_callee_at m p) c) (exprs_at m p) ≡ x
      → by_nodes m known c p ≡ detail_or a (detail_or f (detail_or t x))
  nodes_are a f t x ha hf ht hx =
      ap (λ (d : Option (Detail Tree)). detail_or d (detail_or
      (option_and_then (function_rule m c) (body_named_at m p))
      (values_rule m known (is_callee_at m p) c (targets_at m p) (exprs_at m p)))) ha
      ∙ ap (λ (d : Option (Detail Tree)). detail_or a (detail_or d
      (values_rule m known (is_callee_at m p) c (targets_at m p) (exprs_at m p)))) hf
      ∙ ap (λ (d : Option (Detail Tree)). detail_or a (detail_or f (detail_or d
      (first_of_all (expr_rule m known (is_callee_at m p) c) (exprs_at m p))))) ht
      ∙ ap (λ (d : Option (Detail Tree)). detail_or a (detail_or f (detail_or t d))) hx

  module _ (no_ann : (x : Ann) → ann_rule m c x ≡ None) (no_function : (b : Body) → function_rule m c b ≡ None) where
    -- a code of targets and expressions
    values_alone : by_nodes m known c p ≡ detail_or (first_of_all (target_rule m known c) (targets_at m p))
        (first_of_all (expr_rule m known (is_callee_at m p) c) (exprs_at m p))
    values_alone = nodes_are None None _ _ (no_first (ann_rule m c) no_ann (anns_at m p))
        (no_then (function_rule m c) no_function (body_named_at m p)) refl refl

    module _ (no_target : (x : Target) → target_rule m known c x ≡ None) where
      -- a code of expressions
      exprs_alone : by_nodes m known c p ≡ first_of_all (expr_rule m known (is_callee_at m p) c) (exprs_at m p)
      exprs_alone = nodes_are None None None _ (no_first (ann_rule m c) no_ann (anns_at m p))
          (no_then (function_rule m c) no_function (body_named_at m p))
          (no_first (target_rule m known c) no_target (targets_at m p)) refl

      -- a code of no node
      no_nodes : ((x : _) → expr_rule m known (is_callee_at m p) c x ≡ None) → by_nodes m known c p ≡ None
      no_nodes no_expr = nodes_are None None None None (no_first (ann_rule m c) no_ann (anns_at m p))
          (no_then (function_rule m c) no_function (body_named_at m p))
          (no_first (target_rule m known c) no_target (targets_at m p))
          (no_first (expr_rule m known (is_callee_at m p) c) no_expr (exprs_at m p))

-- a detail of the nodes alone, where the code has no rule of names
alone : (d e : Option (Detail Tree)) → e ≡ d → d ≡ detail_or e None
alone d e h = sym h ∙ sym (or_none e)

-- a detail of names, where the code has no rule of nodes
named : (d e : Option (Detail Tree)) → e ≡ None → d ≡ detail_or e d
named d e h = sym (ap (λ (x : Option (Detail Tree)). detail_or x d) h)

-- the rule of each code
pub by_code_is : (m : Module) (known : Known) (p : Place) (c : Code) → detail_for m known p c ≡ by_code m known c p
by_code_is m known p A1 = refl
by_code_is m known p A2 = alone _ _ (exprs_alone m known p A2 (λ x. refl) (λ b. refl) (λ t. refl))
by_code_is m known p A3 = alone _ _ (values_alone m known p A3 (λ x. refl) (λ b. refl))
by_code_is m known p A4 = alone _ _ (values_alone m known p A4 (λ x. refl) (λ b. refl))
by_code_is m known p A5 = alone _ _ (exprs_alone m known p A5 (λ x. refl) (λ b. refl) (λ t. refl))
by_code_is m known p A6 = alone _ _ (exprs_alone m known p A6 (λ x. refl) (λ b. refl) (λ t. refl))
by_code_is m known p A7 = alone _ _ (exprs_alone m known p A7 (λ x. refl) (λ b. refl) (λ t. refl))
by_code_is m known p A8 = alone _ _ (nodes_are m known p A8 None _ None None
    (no_first (ann_rule m A8) (λ x. refl) (anns_at m p)) refl
    (no_first (target_rule m known A8) (λ t. refl) (targets_at m p))
    (no_first (expr_rule m known (is_callee_at m p) A8) (λ x. refl) (exprs_at m p))
    ∙ or_none (option_and_then (function_rule m A8) (body_named_at m p)))
by_code_is m known p E01 = named _ _ (no_nodes m known p E01 (λ x. refl) (λ b. refl) (λ t. refl) (λ x. refl))
by_code_is m known p E02 = sym (ap (λ (d : Option (Detail Tree)). detail_or d (walked_detail m p E02))
    (exprs_alone m known p E02 (λ x. refl) (λ b. refl) (λ t. refl)))
by_code_is m known p E03 = alone _ _ (exprs_alone m known p E03 (λ x. refl) (λ b. refl) (λ t. refl))
by_code_is m known p E04 = alone _ _ (exprs_alone m known p E04 (λ x. refl) (λ b. refl) (λ t. refl))
by_code_is m known p E05 = named _ _ (no_nodes m known p E05 (λ x. refl) (λ b. refl) (λ t. refl) (λ x. refl))
by_code_is m known p E06 = named _ _ (no_nodes m known p E06 (λ x. refl) (λ b. refl) (λ t. refl) (λ x. refl))
by_code_is m known p E07 = named _ _ (no_nodes m known p E07 (λ x. refl) (λ b. refl) (λ t. refl) (λ x. refl))
by_code_is m known p E08 = named _ _ (no_nodes m known p E08 (λ x. refl) (λ b. refl) (λ t. refl) (λ x. refl))
by_code_is m known p E09 = alone _ _ (nodes_are m known p E09 _ None None None refl
    (no_then (function_rule m E09) (λ b. refl) (body_named_at m p))
    (no_first (target_rule m known E09) (λ t. refl) (targets_at m p))
    (no_first (expr_rule m known (is_callee_at m p) E09) (λ x. refl) (exprs_at m p))
    ∙ or_none (first_of_all (ann_rule m E09) (anns_at m p)))
by_code_is m known p E10 = alone _ _ (nodes_are m known p E10 _ None None None refl
    (no_then (function_rule m E10) (λ b. refl) (body_named_at m p))
    (no_first (target_rule m known E10) (λ t. refl) (targets_at m p))
    (no_first (expr_rule m known (is_callee_at m p) E10) (λ x. refl) (exprs_at m p))
    ∙ or_none (first_of_all (ann_rule m E10) (anns_at m p)))
by_code_is m known p E11 = alone _ _ (nodes_are m known p E11 None _ None None
    (no_first (ann_rule m E11) (λ x. refl) (anns_at m p)) refl
    (no_first (target_rule m known E11) (λ t. refl) (targets_at m p))
    (no_first (expr_rule m known (is_callee_at m p) E11) (λ x. refl) (exprs_at m p))
    ∙ or_none (option_and_then (function_rule m E11) (body_named_at m p)))
by_code_is m known p E12 = refl
by_code_is m known p E13 = alone _ _ (exprs_alone m known p E13 (λ x. refl) (λ b. refl) (λ t. refl))
by_code_is m known p E14 = alone _ _ (exprs_alone m known p E14 (λ x. refl) (λ b. refl) (λ t. refl))
by_code_is m known p E15 = alone _ _ (values_alone m known p E15 (λ x. refl) (λ b. refl))
by_code_is m known p E16 = alone _ _ (exprs_alone m known p E16 (λ x. refl) (λ b. refl) (λ t. refl))
by_code_is m known p E17 = alone _ _ (values_alone m known p E17 (λ x. refl) (λ b. refl)
    ∙ ap (detail_or (first_of_all (target_rule m known E17) (targets_at m p)))
    (no_first (expr_rule m known (is_callee_at m p) E17) (λ x. refl) (exprs_at m p))
    ∙ or_none (first_of_all (target_rule m known E17) (targets_at m p)))
by_code_is m known p E18 = alone _ _ (exprs_alone m known p E18 (λ x. refl) (λ b. refl) (λ t. refl))
by_code_is m known p E19 = alone _ _ (exprs_alone m known p E19 (λ x. refl) (λ b. refl) (λ t. refl))
by_code_is m known p E20 = alone _ _ (exprs_alone m known p E20 (λ x. refl) (λ b. refl) (λ t. refl))
by_code_is m known p E21 = alone _ _ (nodes_are m known p E21 None _ None None
    (no_first (ann_rule m E21) (λ x. refl) (anns_at m p)) refl
    (no_first (target_rule m known E21) (λ t. refl) (targets_at m p))
    (no_first (expr_rule m known (is_callee_at m p) E21) (λ x. refl) (exprs_at m p))
    ∙ or_none (option_and_then (function_rule m E21) (body_named_at m p)) ∙ sym (promise m (body_named_at m p)))
by_code_is m known p E22 = alone _ _ (exprs_alone m known p E22 (λ x. refl) (λ b. refl) (λ t. refl))
by_code_is m known p E23 = alone _ _ (values_alone m known p E23 (λ x. refl) (λ b. refl)
    ∙ ap (detail_or (first_of_all (target_rule m known E23) (targets_at m p)))
    (no_first (expr_rule m known (is_callee_at m p) E23) (λ x. refl) (exprs_at m p))
    ∙ or_none (first_of_all (target_rule m known E23) (targets_at m p)))
by_code_is m known p E24 = named _ _ (no_nodes m known p E24 (λ x. refl) (λ b. refl) (λ t. refl) (λ x. refl))
by_code_is m known p E25 = alone _ _ (exprs_alone m known p E25 (λ x. refl) (λ b. refl) (λ t. refl))
by_code_is m known p E26 = alone _ _ (nodes_are m known p E26 _ None None _ refl
    (no_then (function_rule m E26) (λ b. refl) (body_named_at m p))
    (no_first (target_rule m known E26) (λ t. refl) (targets_at m p)) refl)
by_code_is m known p E27 = alone _ _ (exprs_alone m known p E27 (λ x. refl) (λ b. refl) (λ t. refl))
by_code_is m known p E28 = refl
by_code_is m known p E29 = named _ _ (no_nodes m known p E29 (λ x. refl) (λ b. refl) (λ t. refl) (λ x. refl))
by_code_is m known p E30 = named _ _ (no_nodes m known p E30 (λ x. refl) (λ b. refl) (λ t. refl) (λ x. refl))
by_code_is m known p E31 = named _ _ (no_nodes m known p E31 (λ x. refl) (λ b. refl) (λ t. refl) (λ x. refl))
