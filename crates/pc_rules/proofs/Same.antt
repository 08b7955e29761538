-- Environments depend only on the declared types of assigned locals.
use Rattle.std.proofs.Common.{◌≡◌, ℕ, zero, suc, List, [], ◌∷◌, refl, ap, ◌∙◌, arith}
use Rattle.std.specs.Prelude.{Bool as Test, true, false, not, if◌then◌else◌, Option, Some, None, unwrap_or}
use Rattle.pc_tree.specs.Tree.{Expr, name, number, text, truth, nothing, tuple, list, dict, negative, negation, binary}
use Rattle.pc_tree.specs.Tree.{compare, is_none, is_not_none, conjunction, disjunction, attribute, index, call}
use Rattle.pc_scope.specs.declared.resolution.NameMeaning.{NameMeaning}
use Rattle.pc_scope.specs.Expressions.{is_instance_test}
use Rattle.pc_types.specs.Tree.{Tree}
use Rattle.pc_types.specs.Below.{Bases}
use Rattle.pc_types.specs.Join.{join}
use Rattle.pc_flow.specs.Environment.{Env, current, assign, join_local, join_env, join_envs_onto, head_local, loop_head}
pub use Rattle.pc_flow.specs.Agreement.{SameAt, SameWhere}
use Rattle.pc_flow.specs.Narrowing.{Tested, for_none, tested_as, narrow_current, narrow_local, narrow_instance, narrow}
use Rattle.pc_flow.specs.Narrowing.{local_named, local_of_argument, test_of_argument, first_argument, second_argument}

-- an environment made with the ones and with the others: the same, and of locals that go alike
pub record Alike (ds ds' : List Tree) (env env' : Env) : Type 0 where
  pub same : env ≡ env'
  pub kept : SameWhere ds ds' env

module _ (bases : Bases) where
  local_alike : (d d' : Tree) (s t : Option Tree) → SameAt d d' s → SameAt d d' t
      → join_local bases d s t ≡ join_local bases d' s t
  local_alike d d' None t h k = refl
  local_alike d d' (Some s) None h k = refl
  local_alike d d' (Some s) (Some t) h k = ap (λ u. Some (unwrap_or (join bases s t) u)) h

  local_kept : (d d' : Tree) (s t : Option Tree) → SameAt d d' s → SameAt d d' (join_local bases d s t)
  local_kept d d' None t h = tt
  local_kept d d' (Some s) None h = tt
  local_kept d d' (Some s) (Some t) h = h

  pub joins_alike : (ds ds' : List Tree) (a b : Env) → SameWhere ds ds' a → SameWhere ds ds' b
      → Alike ds ds' (join_env bases ds a b) (join_env bases ds' a b)
  joins_alike [] [] [] [] h k = record { same = refl; kept = tt }
  joins_alike (d ∷ ds) (d' ∷ ds') (s ∷ a) (t ∷ b) h k =
      let rest = joins_alike ds ds' a b h.1 k.1 in
      record { same = λ i. local_alike d d' s t h.0 k.0 i ∷ rest.same i; kept = (local_kept d d' s t h.0, rest.kept) }
  joins_alike [] [] [] (t ∷ b) h k = absurd k
  joins_alike [] [] (s ∷ a) b h k = absurd h
  joins_alike [] (d' ∷ ds') a b h k = absurd h
  joins_alike (d ∷ ds) [] a b h k = absurd h
  joins_alike (d ∷ ds) (d' ∷ ds') [] b h k = absurd h
  joins_alike (d ∷ ds) (d' ∷ ds') (s ∷ a) [] h k = absurd k

  -- several joined from the left
  abbrev pub SameWhereAll : List Tree → List Tree → List Env → Type 0
  SameWhereAll ds ds' [] = Unit {0}
  SameWhereAll ds ds' (e ∷ es) = SameWhere ds ds' e × SameWhereAll ds ds' es

  pub all_joins_alike : (ds ds' : List Tree) (env : Env) (es : List Env) → SameWhere ds ds' env → SameWhereAll ds ds' es
      → Alike ds ds' (join_envs_onto bases ds env es) (join_envs_onto bases ds' env es)
  all_joins_alike ds ds' env [] h k = record { same = refl; kept = h }
  all_joins_alike ds ds' env (e ∷ es) h k =
      let first = joins_alike ds ds' env e h k.0 in
      let rest = all_joins_alike ds ds' (join_env bases ds env e) es first.kept k.1 in
      record { same = rest.same ∙ ap (λ x. join_envs_onto bases ds' x es) first.same; kept = rest.kept }

  -- heads of loops
  head_alike : (b : Test) (d d' : Tree) (s : Option Tree) → SameAt d d' s → head_local b d s ≡ head_local b d' s
  head_alike b d d' None h = refl
  head_alike b d d' (Some t) h = ap (λ u. Some (if b then u else t)) h

  head_kept : (b : Test) (d d' : Tree) (s : Option Tree) → SameAt d d' s → SameAt d d' (head_local b d s)
  head_kept b d d' None h = tt
  head_kept b d d' (Some t) h = h

  pub heads_alike : (bound : ℕ → Test) (ds ds' : List Tree) (env : Env) → SameWhere ds ds' env
      → Alike ds ds' (loop_head bound ds env) (loop_head bound ds' env)
  heads_alike bound [] [] [] h = record { same = refl; kept = tt }
  heads_alike bound (d ∷ ds) (d' ∷ ds') (s ∷ env) h =
      let rest = heads_alike (λ x. bound (suc x)) ds ds' env h.1 in
      record {
        same = λ i. head_alike (bound zero) d d' s h.0 i ∷ rest.same i;
        kept =
            (head_kept (bound zero) d d' s h.0, rest.kept);
      }
  heads_alike bound [] [] (s ∷ env) h = absurd h
  heads_alike bound [] (d' ∷ ds') env h = absurd h
  heads_alike bound (d ∷ ds) [] env h = absurd h
  heads_alike bound (d ∷ ds) (d' ∷ ds') [] h = absurd h

  -- a local that is assigned already
  pub assigned_kept : (ds ds' : List Tree) (env : Env) (x : ℕ) (t u : Tree) → SameWhere ds ds' env
      → current env x ≡ Some t → SameWhere ds ds' (assign env x u)
  assigned_kept [] [] [] x t u h e = h
  assigned_kept (d ∷ ds) (d' ∷ ds') (None ∷ env) zero t u h e = absurd (grind (arith, e))
  assigned_kept (d ∷ ds) (d' ∷ ds') (Some s ∷ env) zero t u h e = (h.0, h.1)
  assigned_kept (d ∷ ds) (d' ∷ ds') (s ∷ env) (suc x) t u h e = (h.0, assigned_kept ds ds' env x t u h.1 e)
  assigned_kept [] [] (s ∷ env) x t u h e = absurd h
  assigned_kept [] (d' ∷ ds') env x t u h e = absurd h
  assigned_kept (d ∷ ds) [] env x t u h e = absurd h
  assigned_kept (d ∷ ds) (d' ∷ ds') [] x t u h e = absurd h

  -- ---- narrowing

  module _ (ds ds' : List Tree) (resolve : List ℕ → NameMeaning) where
    current_kept : (holds : Test) (test : Tested) (x : ℕ) (env : Env) (o : Option Tree) → current env x ≡ o
        → SameWhere ds ds' env → SameWhere ds ds' (narrow_current bases holds test x env o)
    current_kept holds test x env None e h = h
    current_kept holds test x env (Some t) e h = assigned_kept ds ds' env x t (tested_as bases holds test t) h e

    local_narrowed : (holds : Test) (test : Tested) (x : Option ℕ) (env : Env) → SameWhere ds ds' env
        → SameWhere ds ds' (narrow_local bases holds test x env)
    local_narrowed holds test None env h = h
    local_narrowed holds test (Some x) env h = current_kept holds test x env (current env x) refl h

    instance_narrowed : (holds is_test : Test) (x : Option ℕ) (test : Option Tested) (env : Env) → SameWhere ds ds' env
        → SameWhere ds ds' (narrow_instance bases ds resolve holds is_test x test env)
    instance_narrowed holds false x test env h = h
    instance_narrowed holds true x None env h = h
    instance_narrowed holds true x (Some test) env h = local_narrowed holds test x env h

    instance_same : (holds is_test : Test) (x : Option ℕ) (test : Option Tested) (env : Env)
        → narrow_instance bases ds resolve holds is_test x test env ≡ narrow_instance bases ds' resolve holds is_test x
        test env
    instance_same holds false x test env = refl
    instance_same holds true x None env = refl
    instance_same holds true x (Some test) env = refl

    abbrev Goes : Test → Expr → Env → Type 0
    Goes holds e env = Alike ds ds' (narrow bases ds resolve holds e env) (narrow bases ds' resolve holds e env)

    still : (env : Env) → SameWhere ds ds' env → Alike ds ds' env env
    still env h = record { same = refl; kept = h }

    -- one after the other
    both_alike : (a b : Expr) (s t : Test) (env : Env) → ((s : Test) (env : Env) → SameWhere ds ds' env → Goes s a env)
        → ((t : Test) (env : Env) → SameWhere ds ds' env → Goes t b env) → SameWhere ds ds' env
        → Alike ds ds' (narrow bases ds resolve t b (narrow bases ds resolve s a env))
        (narrow bases ds' resolve t b (narrow bases ds' resolve s a env))
    both_alike a b s t env ga gb h =
        let first = ga s env h in
        let next = gb t (narrow bases ds resolve s a env) first.kept in
        record { same = next.same ∙ ap (λ x. narrow bases ds' resolve t b x) first.same; kept = next.kept }

    either_alike : (a b : Expr) (s t : Test) (env : Env) → ((s : Test) (env : Env) → SameWhere ds ds' env
        → Goes s a env) → ((t : Test) (env : Env) → SameWhere ds ds' env → Goes t b env) → SameWhere ds ds' env
        → Alike ds ds' (join_env bases ds (narrow bases ds resolve t a env)
        (narrow bases ds resolve t b (narrow bases ds resolve s a env)))
        (join_env bases ds' (narrow bases ds' resolve t a env) (narrow bases ds' resolve t b
        (narrow bases ds' resolve s a env)))
    either_alike a b s t env ga gb h =
        let one = ga t env h in
        let other = both_alike a b s t env ga gb h in
        let joined = joins_alike ds ds' (narrow bases ds resolve t a env)
        (narrow bases ds resolve t b (narrow bases ds resolve s a env)) one.kept other.kept in
        record { same = joined.same ∙ (λ i. join_env bases ds' (one.same i) (other.same i)); kept = joined.kept }

    pub narrow_alike : (e : Expr) (holds : Test) (env : Env) → SameWhere ds ds' env → Goes holds e env
    narrow_alike (is_none p e) holds env h = record {
      same = refl;
      kept = local_narrowed holds for_none
          (local_named resolve e) env h;
    }
    narrow_alike (is_not_none p e) holds env h = record {
      same = refl;
      kept = local_narrowed (not holds) for_none
          (local_named resolve e) env h;
    }
    narrow_alike (negation p e) holds env h = narrow_alike e (not holds) env h
    narrow_alike (conjunction p a b) true env h = both_alike a b true true env (narrow_alike a) (narrow_alike b) h
    narrow_alike (conjunction p a b) false env h = either_alike a b true false env (narrow_alike a) (narrow_alike b) h
    narrow_alike (disjunction p a b) true env h = either_alike a b false true env (narrow_alike a) (narrow_alike b) h
    narrow_alike (disjunction p a b) false env h = both_alike a b false false env (narrow_alike a) (narrow_alike b) h
    narrow_alike (call p c args kws) holds env h = record {
      same = instance_same holds (is_instance_test c args kws) (local_of_argument resolve (first_argument args))
          (test_of_argument resolve (second_argument args)) env;
      kept = instance_narrowed holds (is_instance_test c args kws) (local_of_argument resolve (first_argument args))
          (test_of_argument resolve (second_argument args)) env h;
    }
    narrow_alike (name n) holds env h = still env h
    narrow_alike (number p d) holds env h = still env h
    narrow_alike (text p d) holds env h = still env h
    narrow_alike (truth p d) holds env h = still env h
    narrow_alike (nothing p) holds env h = still env h
    narrow_alike (tuple p es) holds env h = still env h
    narrow_alike (list p es) holds env h = still env h
    narrow_alike (dict p es) holds env h = still env h
    narrow_alike (negative p e) holds env h = still env h
    narrow_alike (binary p o a b) holds env h = still env h
    narrow_alike (compare p o a b) holds env h = still env h
    narrow_alike (attribute p e f) holds env h = still env h
    narrow_alike (index p a b) holds env h = still env h
