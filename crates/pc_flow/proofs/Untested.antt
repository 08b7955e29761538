-- A condition leaves the locals that it does not test as they are, and keeps the number of locals.
use Rattle.std.proofs.Common.{◌≡◌, ◌<◌, ◌||◌, ℕ, not, Bool as Test, true, false, List, [], ◌∷◌, ◌++◌, Option, Some}
use Rattle.std.proofs.Common.{None, length, nat_eq, refl, sym, ◌∙◌, ⊎_elim, arith}
use Rattle.std.specs.Prelude.{option_to_list}
use Rattle.std.proofs.lemmas.List.{get_or-set_other, length-set}
use Rattle.std.proofs.Math.ListN.{get_or-eq_default}
use Rattle.std.proofs.lemmas.Bool.{cases_lt}
use Rattle.std.proofs.lemmas.Bool.Decides.{nat_tests}
use Rattle.std.proofs.lemmas.List.Folds.{list_any-append}
use Rattle.pc_tree.specs.Tree.{Expr, negation, is_none, is_not_none, conjunction, disjunction, call}
use Rattle.pc_scope.specs.declared.resolution.NameMeaning.{NameMeaning}
use Rattle.pc_scope.specs.Expressions.{is_instance_test}
use Rattle.pc_types.specs.Tree.{Tree}
use Rattle.pc_types.specs.Below.{Bases, AreSmaller}
use Rattle.pc_flow.specs.Agreement.{is_among, AgreeBelow, ConditionsKeepUntested, ConditionsKeepLocals}
use Rattle.pc_flow.specs.Environment.{Env, current}
use Rattle.pc_flow.specs.Narrowing.{Tested, for_none, tested_as, narrow_current, narrow_local, local_named}
use Rattle.pc_flow.specs.Narrowing.{first_argument, second_argument, local_of_argument, test_of_argument}
use Rattle.pc_flow.specs.Narrowing.{tested_by_call, tested_locals, narrow_instance, narrow}
use Rattle.pc_flow.specs.WellFormed.{IsWellFormedEnv, AreWellFormed}
use Rattle.pc_flow.proofs.Conditions.{conditions_well_formed}
use Rattle.pc_flow.proofs.Lengths.{kept}
use Rattle.pc_flow.proofs.Meeting.{current_agreed}

-- a local that is among neither of two lists
pub among_neither : (l m : List ℕ) (x : ℕ) → is_among (l ++ m) x ≡ false → (is_among l x ≡ false)
    × (is_among m x ≡ false)
among_neither l m x e = let f = list_any-append (nat_eq x) l m in neither (is_among l x) (is_among m x) (sym f ∙ e)
  where
    neither : (a b : Test) → (a || b) ≡ false → (a ≡ false) × (b ≡ false)
    neither true b e = cc
    neither false b e = (refl, e)

module _ (bases : Bases) where
  current_stays : (holds : Test) (test : Tested) (y : ℕ) (env : Env) (t : Option Tree) (x : ℕ) → (x ≡ y → ⊥)
      → current (narrow_current bases holds test y env t) x ≡ current env x
  current_stays holds test y env None x n = refl
  current_stays holds test y env (Some t) x n = get_or-set_other env y x (Some (tested_as bases holds test t)) None n

  other_of : (x y : ℕ) → is_among (y ∷ []) x ≡ false → x ≡ y → ⊥
  other_of x y e f = grind (arith, nat_tests)

  local_stays : (holds : Test) (test : Tested) (y : Option ℕ) (env : Env) (x : ℕ) → is_among (option_to_list y) x
      ≡ false → current (narrow_local bases holds test y env) x ≡ current env x
  local_stays holds test None env x n = refl
  local_stays holds test (Some y) env x n = current_stays holds test y env (current env y) x (other_of x y n)

  module _ (ds : List Tree) (resolve : List ℕ → NameMeaning) where
    instance_stays : (holds is_test : Test) (y : Option ℕ) (test : Option Tested) (env : Env) (x : ℕ)
        → is_among (tested_by_call is_test y) x ≡ false → current
        (narrow_instance bases ds resolve holds is_test y test env) x ≡ current env x
    instance_stays holds false y test env x n = refl
    instance_stays holds true y None env x n = refl
    instance_stays holds true y (Some test) env x n = local_stays holds test y env x n

    module _ (o : AreSmaller bases) (g : AreWellFormed bases ds) where
      untested_stays : (holds : Test) (e : Expr) (env : Env) (x : ℕ) → IsWellFormedEnv bases env → x < length ds
          → is_among (tested_locals resolve e) x ≡ false → current (narrow bases ds resolve holds e env) x ≡ current env
          x
      untested_stays holds (is_none p e) env x k l n = local_stays holds for_none (local_named resolve e) env x n
      untested_stays holds (is_not_none p e) env x k l n = local_stays (not holds) for_none (local_named resolve e) env
          x n
      untested_stays holds (negation p e) env x k l n = untested_stays (not holds) e env x k l n
      untested_stays true (conjunction p a b) env x k l n =
          let m = among_neither (tested_locals resolve a) (tested_locals resolve b) x n in
          untested_stays true b (narrow bases ds resolve true a env) x
          (conditions_well_formed bases ds resolve true a env o g k) l m.1 ∙ untested_stays true a env x k l m.0
      untested_stays false (conjunction p a b) env x k l n =
          let m = among_neither (tested_locals resolve a) (tested_locals resolve b) x n in
          let out = untested_stays false a env x k l m.0 in
          let late = untested_stays false b (narrow bases ds resolve true a env) x
          (conditions_well_formed bases ds resolve true a env o g k) l m.1 ∙ untested_stays true a env x k l m.0 in
          current_agreed bases ds (narrow bases ds resolve false a env)
          (narrow bases ds resolve false b (narrow bases ds resolve true a env)) x
          (conditions_well_formed bases ds resolve false a env o g k) l (out ∙ sym late) ∙ out
      untested_stays true (disjunction p a b) env x k l n =
          let m = among_neither (tested_locals resolve a) (tested_locals resolve b) x n in
          let out = untested_stays true a env x k l m.0 in
          let late = untested_stays true b (narrow bases ds resolve false a env) x
          (conditions_well_formed bases ds resolve false a env o g k) l m.1
          ∙ untested_stays false a env x k l m.0 in
          current_agreed bases ds (narrow bases ds resolve true a env)
          (narrow bases ds resolve true b (narrow bases ds resolve false a env)) x
          (conditions_well_formed bases ds resolve true a env o g k) l (out ∙ sym late) ∙ out
      untested_stays false (disjunction p a b) env x k l n =
          let m = among_neither (tested_locals resolve a) (tested_locals resolve b) x n in
          untested_stays false b (narrow bases ds resolve false a env) x
          (conditions_well_formed bases ds resolve false a env o g k) l m.1 ∙ untested_stays false a env x k l m.0
      untested_stays holds (call p callee arguments keywords) env x k l n =
          instance_stays holds (is_instance_test callee arguments keywords)
          (local_of_argument resolve (first_argument arguments))
          (test_of_argument resolve (second_argument arguments)) env x n
      untested_stays holds _ env x k l n = refl

      -- the two ways that meet in a condition of two parts agree at the locals that it does not test
      module _ (a b : Expr) (env : Env) (k : IsWellFormedEnv bases env) where
        pub both_agree : AgreeBelow (length ds) (tested_locals resolve a ++ tested_locals resolve b)
            (narrow bases ds resolve false a env) (narrow bases ds resolve false b (narrow bases ds resolve true a env))
        both_agree x l n =
            let m = among_neither (tested_locals resolve a) (tested_locals resolve b) x n in
            untested_stays false a env x k l m.0
            ∙ sym (untested_stays false b (narrow bases ds resolve true a env) x
            (conditions_well_formed bases ds resolve true a env o g k) l m.1 ∙ untested_stays true a env x k l m.0)

        pub either_agrees : AgreeBelow (length ds) (tested_locals resolve a ++ tested_locals resolve b)
            (narrow bases ds resolve true a env) (narrow bases ds resolve true b (narrow bases ds resolve false a env))
        either_agrees x l n =
            let m = among_neither (tested_locals resolve a) (tested_locals resolve b) x n in
            untested_stays true a env x k l m.0
            ∙ sym (untested_stays true b (narrow bases ds resolve false a env) x
            (conditions_well_formed bases ds resolve false a env o g k) l m.1
            ∙ untested_stays false a env x k l m.0)

-- the number of locals
module _ (bases : Bases) where
  length_at : (holds : Test) (test : Tested) (y : ℕ) (env : Env) (t : Option Tree)
      → length (narrow_current bases holds test y env t) ≡ length env
  length_at holds test y env None = refl
  length_at holds test y env (Some t) = length-set env y (Some (tested_as bases holds test t))

  length_local : (holds : Test) (test : Tested) (y : Option ℕ) (env : Env)
      → length (narrow_local bases holds test y env) ≡ length env
  length_local holds test None env = refl
  length_local holds test (Some y) env = length_at holds test y env (current env y)

  module _ (ds : List Tree) (resolve : List ℕ → NameMeaning) where
    length_instance : (holds is_test : Test) (y : Option ℕ) (test : Option Tested) (env : Env)
        → length (narrow_instance bases ds resolve holds is_test y test env) ≡ length env
    length_instance holds false y test env = refl
    length_instance holds true y None env = refl
    length_instance holds true y (Some test) env = length_local holds test y env

    length_kept : (holds : Test) (e : Expr) (env : Env) → length env ≡ length ds
        → length (narrow bases ds resolve holds e env) ≡ length ds
    length_kept holds (is_none p e) env l = length_local holds for_none (local_named resolve e) env ∙ l
    length_kept holds (is_not_none p e) env l = length_local (not holds) for_none (local_named resolve e) env ∙ l
    length_kept holds (negation p e) env l = length_kept (not holds) e env l
    length_kept true (conjunction p a b) env l = length_kept true b (narrow bases ds resolve true a env)
        (length_kept true a env l)
    length_kept false (conjunction p a b) env l =
        kept bases ds (narrow bases ds resolve false a env) (narrow bases ds resolve false b
        (narrow bases ds resolve true a env)) (length_kept false a env l)
        (length_kept false b (narrow bases ds resolve true a env) (length_kept true a env l))
    length_kept true (disjunction p a b) env l =
        kept bases ds (narrow bases ds resolve true a env) (narrow bases ds resolve true b
        (narrow bases ds resolve false a env)) (length_kept true a env l)
        (length_kept true b (narrow bases ds resolve false a env) (length_kept false a env l))
    length_kept false (disjunction p a b) env l = length_kept false b (narrow bases ds resolve false a env)
        (length_kept false a env l)
    length_kept holds (call p callee arguments keywords) env l =
        length_instance holds (is_instance_test callee arguments keywords)
        (local_of_argument resolve (first_argument arguments)) (test_of_argument resolve
        (second_argument arguments)) env ∙ l
    length_kept holds _ env l = l

pub conditions_keep_locals : ConditionsKeepLocals
conditions_keep_locals bases ds resolve holds e env l = length_kept bases ds resolve holds e env l

pub conditions_keep_untested : ConditionsKeepUntested
conditions_keep_untested bases ds resolve holds e env o g k l x n =
    let m = conditions_keep_locals bases ds resolve holds e env l in
    ⊎_elim (λ h. untested_stays bases ds resolve o g holds e env x k h n)
    (λ h. get_or-eq_default (narrow bases ds resolve holds e env) None (omega arith)
    ∙ sym (get_or-eq_default env None (omega arith)))
    (cases_lt x (length ds))
