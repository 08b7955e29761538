-- Environments that agree with the one before at locals of some kind: joins, assignments, conditions and heads of loops
-- keep this.
use Rattle.std.proofs.Common.{◌≡◌, ◌∙◌, ℕ, zero, suc, not, List, [], ◌∷◌, ◌++◌, length, refl, sym, ap, subst, arith}
use Rattle.std.specs.Prelude.{Bool as Test, true, false, Option, Some, None, option_to_list}
use Rattle.std.proofs.lemmas.List.{length-set}
use Rattle.pc_tree.specs.Tree.{Expr, name, number, text, truth, nothing, tuple, list, dict, negative, negation, binary}
use Rattle.pc_tree.specs.Tree.{compare, is_none, is_not_none, conjunction, disjunction, attribute, index, call}
use Rattle.pc_scope.specs.declared.resolution.NameMeaning.{NameMeaning}
use Rattle.pc_scope.specs.Expressions.{is_instance_test}
use Rattle.pc_types.specs.Tree.{Tree}
use Rattle.pc_types.specs.Below.{Bases}
use Rattle.pc_flow.specs.Environment.{Env, current, declared_type, assign, join_local, join_env, loop_head}
use Rattle.pc_flow.specs.Narrowing.{Tested, for_none, tested_as, tested_by_call, tested_locals, narrow_current}
use Rattle.pc_flow.specs.Narrowing.{narrow_local, narrow_instance, narrow, local_named, local_of_argument}
use Rattle.pc_flow.specs.Narrowing.{test_of_argument, first_argument, second_argument}
use Rattle.pc_flow.specs.WellFormed.{IsWellFormedIfAny}
use Rattle.pc_flow.proofs.Heads.{others_at_head}
use Rattle.pc_flow.proofs.Lengths.{kept as joined_long}
use Rattle.pc_flow.proofs.Meeting.{local_agreed}

-- ---- one local

pub joined_at : (bases : Bases) (ds : List Tree) (a b : Env) (x : ℕ) → length a ≡ length ds → length b ≡ length ds
    → current (join_env bases ds a b) x ≡ join_local bases (declared_type ds x) (current a x) (current b x)
joined_at bases [] [] [] x ea eb = refl
joined_at bases (d ∷ ds) (s ∷ a) (t ∷ b) zero ea eb = refl
joined_at bases (d ∷ ds) (s ∷ a) (t ∷ b) (suc x) ea eb = joined_at bases ds a b x (grind (arith, ea))
    (grind (arith, eb))
joined_at bases [] (s ∷ a) b x ea eb = absurd (grind (arith, ea))
joined_at bases [] [] (t ∷ b) x ea eb = absurd (grind (arith, eb))
joined_at bases (d ∷ ds) [] b x ea eb = absurd (grind (arith, ea))
joined_at bases (d ∷ ds) (s ∷ a) [] x ea eb = absurd (grind (arith, eb))

assigned_other : (env : Env) (x y : ℕ) (t : Tree) → (y ≡ x → ⊥) → current (assign env x t) y ≡ current env y
assigned_other [] x y t n = refl
assigned_other (s ∷ env) zero zero t n = absurd (n refl)
assigned_other (s ∷ env) zero (suc y) t n = refl
assigned_other (s ∷ env) (suc x) zero t n = refl
assigned_other (s ∷ env) (suc x) (suc y) t n = assigned_other env x y t (λ e. n (ap suc e))

head_long : (bound : ℕ → Test) (ds : List Tree) (env : Env) → length env ≡ length ds → length (loop_head bound ds env)
    ≡ length env
head_long bound [] [] e = refl
head_long bound [] (s ∷ env) e = absurd (grind (arith, e))
head_long bound (d ∷ ds) [] e = refl
head_long bound (d ∷ ds) (s ∷ env) e = ap suc (head_long (λ y. bound (suc y)) ds env (grind (arith, e)))

-- ---- environments kept

module _ (Kind : ℕ → Type 0) (base : Env) where
  -- an environment with as many locals as the one before, and with each local of the kind as it was
  pub record IsKept (env : Env) : Type 0 where
    pub long : length env ≡ length base
    pub same : (x : ℕ) → Kind x → current env x ≡ current base x

  abbrev pub IsKeptIfAny : Option Env → Type 0
  IsKeptIfAny None = Unit {0}
  IsKeptIfAny (Some env) = IsKept env

  -- none of these locals is of the kind
  abbrev pub AreApart : List ℕ → Type 0
  AreApart [] = Unit {0}
  AreApart (x ∷ xs) = (Kind x → ⊥) × AreApart xs

  pub apart_both : (xs ys : List ℕ) → AreApart (xs ++ ys) → AreApart xs × AreApart ys
  apart_both [] ys h = (tt, h)
  apart_both (x ∷ xs) ys h = let r = apart_both xs ys h.1 in ((h.0, r.0), r.1)

  pub assigned_kept : (env : Env) (x : ℕ) (t : Tree) → (Kind x → ⊥) → IsKept env → IsKept (assign env x t)
  assigned_kept env x t a h = record {
    long = length-set env x (Some t) ∙ h.long;
    same = λ y k. assigned_other env x y t (λ e. a (subst Kind e k)) ∙ h.same y k;
  }

  pub head_kept : (bound : ℕ → Test) (ds : List Tree) (env : Env) → length ds ≡ length base
      → ((x : ℕ) → Kind x → bound x ≡ false) → IsKept env → IsKept (loop_head bound ds env)
  head_kept bound ds env l free h =
      let e : length env ≡ length ds = h.long ∙ sym l in
      record {
        long = head_long bound ds env e ∙ h.long;
        same = λ x k. others_at_head bound ds env x e (free x k) ∙ h.same x k;
      }

  module _ (bases : Bases) (ds : List Tree) (l : length ds ≡ length base) (fine : (x : ℕ) → Kind x
      → IsWellFormedIfAny bases (current base x)) where
    pub joined_kept : (a b : Env) → IsKept a → IsKept b → IsKept (join_env bases ds a b)
    joined_kept a b h g =
        let la : length a ≡ length ds = h.long ∙ sym l in
        let lb : length b ≡ length ds = g.long ∙ sym l in
        record {
          long = joined_long bases ds a b la lb ∙ l;
          same = λ x k. joined_at bases ds a b x la lb ∙ (λ i. join_local bases (declared_type ds x) (h.same x k i)
              (g.same x k i)) ∙ local_agreed bases (declared_type ds x) (current base x) (current base x) (fine x k)
              refl;
        }

    -- ---- conditions

    current_kept : (holds : Test) (test : Tested) (x : ℕ) (env : Env) (o : Option Tree) → (Kind x → ⊥) → IsKept env
        → IsKept (narrow_current bases holds test x env o)
    current_kept holds test x env None a h = h
    current_kept holds test x env (Some t) a h = assigned_kept env x (tested_as bases holds test t) a h

    local_kept : (holds : Test) (test : Tested) (x : Option ℕ) (env : Env) → AreApart (option_to_list x) → IsKept env
        → IsKept (narrow_local bases holds test x env)
    local_kept holds test None env a h = h
    local_kept holds test (Some x) env a h = current_kept holds test x env (current env x) a.0 h

    module _ (resolve : List ℕ → NameMeaning) where
      instance_kept : (holds is_test : Test) (x : Option ℕ) (test : Option Tested) (env : Env)
          → AreApart (tested_by_call is_test x) → IsKept env → IsKept
          (narrow_instance bases ds resolve holds is_test x test env)
      instance_kept holds false x test env a h = h
      instance_kept holds true x None env a h = h
      instance_kept holds true x (Some test) env a h = local_kept holds test x env a h

      pub narrow_kept : (holds : Test) (e : Expr) (env : Env) → AreApart (tested_locals resolve e) → IsKept env
          → IsKept (narrow bases ds resolve holds e env)
      narrow_kept holds (is_none p e) env a h = local_kept holds for_none (local_named resolve e) env a h
      narrow_kept holds (is_not_none p e) env a h = local_kept (not holds) for_none (local_named resolve e) env a h
      narrow_kept holds (negation p e) env a h = narrow_kept (not holds) e env a h
      narrow_kept true (conjunction p a b) env n h =
          let r = apart_both (tested_locals resolve a) (tested_locals resolve b) n in
          narrow_kept true b (narrow bases ds resolve true a env) r.1 (narrow_kept true a env r.0 h)
      narrow_kept false (conjunction p a b) env n h =
          let r = apart_both (tested_locals resolve a) (tested_locals resolve b) n in
          joined_kept (narrow bases ds resolve false a env) (narrow bases ds resolve false b
          (narrow bases ds resolve true a env)) (narrow_kept false a env r.0 h)
          (narrow_kept false b (narrow bases ds resolve true a env) r.1 (narrow_kept true a env r.0 h))
      narrow_kept true (disjunction p a b) env n h =
          let r = apart_both (tested_locals resolve a) (tested_locals resolve b) n in
          joined_kept (narrow bases ds resolve true a env) (narrow bases ds resolve true b
          (narrow bases ds resolve false a env)) (narrow_kept true a env r.0 h)
          (narrow_kept true b (narrow bases ds resolve false a env) r.1 (narrow_kept false a env r.0 h))
      narrow_kept false (disjunction p a b) env n h =
          let r = apart_both (tested_locals resolve a) (tested_locals resolve b) n in
          narrow_kept false b (narrow bases ds resolve false a env) r.1 (narrow_kept false a env r.0 h)
      narrow_kept holds (call p callee args kws) env a h = instance_kept holds (is_instance_test callee args kws)
          (local_of_argument resolve (first_argument args)) (test_of_argument resolve (second_argument args)) env a h
      narrow_kept holds (name n) env a h = h
      narrow_kept holds (number p d) env a h = h
      narrow_kept holds (text p d) env a h = h
      narrow_kept holds (truth p d) env a h = h
      narrow_kept holds (nothing p) env a h = h
      narrow_kept holds (tuple p es) env a h = h
      narrow_kept holds (list p es) env a h = h
      narrow_kept holds (dict p es) env a h = h
      narrow_kept holds (negative p e) env a h = h
      narrow_kept holds (binary p o s t) env a h = h
      narrow_kept holds (compare p o s t) env a h = h
      narrow_kept holds (attribute p e f) env a h = h
      narrow_kept holds (index p s t) env a h = h
