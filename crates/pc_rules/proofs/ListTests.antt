-- The label of a test for a list of a local whose type has the member Any or object.
use Rattle.std.proofs.Common.{◌≡◌, List, [], ◌∷◌, refl, sym, ap, ◌∙◌, subst, inl, inr, arith, Contains}
use Rattle.std.specs.Prelude.{Bool as Test, true, false, ◌||◌, if◌then◌else◌, Some}
use Rattle.std.specs.List.{list_any}
use Rattle.pc_tree.proofs.Among.{none_among, among_first}
use Rattle.pc_tree.specs.declared.code.Code.TheVariants.{A7}
use Rattle.pc_tree.specs.Tree.{Exprs, name, no_exprs, more_exprs, no_keywords}
use Rattle.pc_types.specs.Tree.{Tree, Any, Object}
use Rattle.pc_types.specs.Shape.{members}
use Rattle.pc_flow.specs.Narrowing.{as_local, test_named}
use Rattle.pc_rules.specs.Calls.{GivenArguments, arguments_given, name_callee, is_object_or_any, any_list_codes}
use Rattle.pc_rules.specs.Calls.{test_codes, test_label}
use Rattle.pc_rules.specs.Labels.{item_types}
use Rattle.pc_rules.specs.Lawful.{whole_call_label}
use Rattle.pc_rules.specs.Laws.ListTests.{HasAnyOrObject, ListTestsAreDynamicPlaces}

second_true : (a b : Test) → b ≡ true → (a || b) ≡ true
second_true true b e = refl
second_true false b e = e

one_passes : (t : Tree) → is_object_or_any t ≡ true → (ts : List Tree) → Contains ts t → list_any is_object_or_any ts
    ≡ true
one_passes t passes [] among = absurd (none_among t among)
one_passes t passes (s ∷ ts) among = elim (among_first s ts t among) [
  | inl same ↦ ap (λ b. b || list_any is_object_or_any ts) (ap is_object_or_any same ∙ passes)
  | inr behind ↦ second_true (is_object_or_any s) (list_any is_object_or_any ts) (one_passes t passes ts behind)
]

has_one : (t : Tree) → HasAnyOrObject t → list_any is_object_or_any (members t) ≡ true
has_one t wide = elim wide [
  | inl any ↦ one_passes Any refl (members t) any
  | inr object ↦
      one_passes Object refl (members t) object
]

pub list_tests_are_dynamic : ListTestsAreDynamicPlaces
list_tests_are_dynamic ctx declared env want p callee first second labels x t test now wide law =
    inl (record {
      code = A7;
      among = subst (λ label. Contains label.codes A7) (sym (law.here ∙ by_meaning)) listed;
      is =
          refl;
    })
  where
    arguments : Exprs
    arguments = more_exprs (name first) (more_exprs (name second) no_exprs)

    given : GivenArguments
    given = arguments_given arguments no_keywords

    by_meaning : whole_call_label ctx env (name_callee ctx env given (ctx.resolve callee.text)).rule
        (name_callee ctx env given (ctx.resolve callee.text)).offers arguments (item_types arguments labels.arguments)
        ≡ test_label ctx env arguments
    by_meaning = ap (λ r. whole_call_label ctx env (name_callee ctx env given r).rule
        (name_callee ctx env given r).offers arguments (item_types arguments labels.arguments)) test.instance

    listed : Contains (test_codes env (as_local (ctx.resolve first.text)) (test_named (ctx.resolve second.text))) A7
    listed =
        subst (λ r. Contains (test_codes env (as_local r) (test_named (ctx.resolve second.text))) A7) (sym test.local)
        (subst (λ r. Contains (test_codes env (Some x) (test_named r)) A7) (sym test.for_list)
        (subst (λ o. Contains (any_list_codes o) A7) (sym now)
        (subst (λ b. Contains (if b then A7 ∷ [] else []) A7) (sym (has_one t wide)) (0, omega arith, refl))))
