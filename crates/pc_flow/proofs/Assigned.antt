-- Locals of types of a store: one that is assigned, and the current type of one.
use Rattle.std.proofs.Common.{◌≡◌, ◌∙◌, ℕ, zero, suc, Bool as Test, true, false, List, [], ◌∷◌, Option, Some, None}
use Rattle.std.proofs.Common.{refl, sym, ap, subst}
use Rattle.std.specs.Prelude.{slice_set, slice_index_or, is_some, if◌then◌else◌}
use Rattle.std.specs.Option.{option_map}
use Rattle.std.proofs.lemmas.List.{map-set}
use Rattle.std.proofs.lemmas.List.Elements.{All-head, All-tail, All-cons, All-set}
use Rattle.pc_types.specs.Tree.{Tree}
use Rattle.pc_types.specs.Below.{Bases}
use Rattle.pc_types.specs.WellFormed.{IsWellFormed}
use Rattle.pc_flow.specs.Environment.{Env, current, declared_type, assign, head_local}
use Rattle.pc_flow.specs.Narrowing.{Tested, type_where_true, type_where_false, tested_as, narrow_current, narrow_local}
use Rattle.pc_flow.specs.WellFormed.{IsWellFormedIfAny, IsWellFormedEnv}
use Rattle.pc_flow.specs.Stored.{HasOne, HasEach, env_of, declared_one, declared_of, GivesOne, GivesEnv}
use Rattle.pc_flow.specs.Ways.{GivesBoth}
use Rattle.pc_flow.specs.declared.narrowing.BothWays.{BothWays}
use Rattle.pc_flow.proofs.Conditions.{assign_well_formed, current_well_formed}

-- one more local of a type of the store
pub set_given : {Ty : Type 0} (has : Ty → Type 0) (types : List (Option Ty)) (x : ℕ) (ty : Ty) → has ty
    → HasEach has types → HasEach has (slice_set types x (Some ty))
set_given has [] x ty h k = k
set_given has (o ∷ os) zero ty h k = All-cons (HasOne has) (Some ty) os h (All-tail (HasOne has) o os k)
set_given has (o ∷ os) (suc x) ty h k = All-cons (HasOne has) o (slice_set os x (Some ty))
    (All-head (HasOne has) o os k) (set_given has os x ty h (All-tail (HasOne has) o os k))

set_env : {Ty : Type 0} (tree : Ty → Tree) (types : List (Option Ty)) (x : ℕ) (ty : Ty)
    → env_of tree (slice_set types x (Some ty)) ≡ assign (env_of tree types) x (tree ty)
set_env tree [] x ty = refl
set_env tree (o ∷ os) zero ty = refl
set_env tree (o ∷ os) (suc x) ty = ap (λ l. option_map tree o ∷ l) (set_env tree os x ty)

pub assigned_gives : {Store Ty : Type 0} (has : Store → Ty → Type 0) (tree : Ty → Tree) (store : Store)
    (types : List (Option Ty)) (x : ℕ) (ty : Ty) (env : Env) → has store ty → GivesEnv has tree store types env
    → GivesEnv has tree store (slice_set types x (Some ty)) (assign env x (tree ty))
assigned_gives has tree store types x ty env h g = record {
  given = set_given (has store) types x ty h g.given;
  is =
      set_env tree types x ty ∙ ap (λ e. assign e x (tree ty)) g.is;
}

pub set_well_formed : {Ty : Type 0} (tree : Ty → Tree) (bases : Bases) (types : List (Option Ty)) (x : ℕ) (ty : Ty)
    → IsWellFormed bases (tree ty) → IsWellFormedEnv bases (env_of tree types)
    → IsWellFormedEnv bases (env_of tree (slice_set types x (Some ty)))
set_well_formed tree bases types x ty h k = subst (IsWellFormedEnv bases) (sym (set_env tree types x ty))
    (assign_well_formed bases (env_of tree types) x (tree ty) h k)

-- the type of a local is of the store where all are
pub at_local : {Ty : Type 0} (has : Ty → Type 0) (types : List (Option Ty)) (x : ℕ) → HasEach has types
    → HasOne has (slice_index_or types x None)
at_local has [] x h = tt
at_local has (o ∷ os) zero h = All-head (HasOne has) o os h
at_local has (o ∷ os) (suc x) h = at_local has os x (All-tail (HasOne has) o os h)

pub local_given : {Ty : Type 0} (has : Ty → Type 0) (types : List (Option Ty)) (x : ℕ) (ty : Ty) → HasEach has types
    → slice_index_or types x None ≡ Some ty → has ty
local_given has types x ty h e = subst (HasOne has) e (at_local has types x h)

-- one local that has another type of the store, or none
pub set_gives : {Store Ty : Type 0} (has : Store → Ty → Type 0) (tree : Ty → Tree) (store : Store)
    (types : List (Option Ty)) (x : ℕ) (ty : Option Ty) (t : Option Tree) → GivesOne has tree store ty t
    → HasEach (has store) types → GivesEnv has tree store (slice_set types x ty) (slice_set (env_of tree types) x t)
set_gives has tree store types x ty t g h = record {
  given = All-set (HasOne (has store)) types x ty g.given h;
  is =
      map-set (option_map tree) types x ty ∙ ap (slice_set (env_of tree types) x) g.is;
}

-- the declared type of a local
pub declared_at : {Ty : Type 0} (tree : Ty → Tree) (types : List (Option Ty)) (x : ℕ)
    → declared_type (declared_of tree types) x ≡ declared_one tree (slice_index_or types x None)
declared_at tree [] x = refl
declared_at tree (d ∷ ds) zero = refl
declared_at tree (d ∷ ds) (suc x) = declared_at tree ds x

-- the meaning of the current type of a local
pub current_env : {Ty : Type 0} (tree : Ty → Tree) (types : List (Option Ty)) (x : ℕ) → current (env_of tree types) x
    ≡ option_map tree (slice_index_or types x None)
current_env tree [] x = refl
current_env tree (o ∷ os) zero = refl
current_env tree (o ∷ os) (suc x) = current_env tree os x

pub local_current : {Ty : Type 0} (tree : Ty → Tree) (types : List (Option Ty)) (x : ℕ) (ty : Option Ty)
    → slice_index_or types x None ≡ ty → current (env_of tree types) x ≡ option_map tree ty
local_current tree types x ty e = current_env tree types x ∙ ap (option_map tree) e

pub local_well_formed : {Ty : Type 0} (tree : Ty → Tree) (bases : Bases) (types : List (Option Ty)) (x : ℕ) (ty : Ty)
    → IsWellFormedEnv bases (env_of tree types) → slice_index_or types x None ≡ Some ty → IsWellFormed bases (tree ty)
local_well_formed tree bases types x ty k e = subst (IsWellFormedIfAny bases) (local_current tree types x (Some ty) e)
    (current_well_formed bases (env_of tree types) x k)

-- an assigned local that has its declared type from now on
mapped_some : {A B : Type 0} (f : A → B) (o : Option A) → is_some (option_map f o) ≡ is_some o
mapped_some f None = refl
mapped_some f (Some a) = refl

head_some : (d : Tree) (t : Option Tree) → is_some t ≡ true → head_local true d t ≡ Some d
head_some d None e = cc
head_some d (Some t) e = refl

pub head_gives : {Store Ty : Type 0} (has : Store → Ty → Type 0) (tree : Ty → Tree) (store : Store)
    (ds types : List (Option Ty)) (x : ℕ) (ty : Ty) → has store ty
    → tree ty ≡ declared_one tree (slice_index_or ds x None) → is_some (slice_index_or types x None) ≡ true
    → GivesOne has tree store (Some ty) (head_local true (declared_type (declared_of tree ds) x)
    (current (env_of tree types) x))
head_gives has tree store ds types x ty h e s = record {
  given = h;
  is = ap Some (e ∙ sym (declared_at tree ds x)) ∙ sym (head_some (declared_type (declared_of tree ds) x)
      (current (env_of tree types) x) (ap is_some (current_env tree types x)
      ∙ mapped_some tree (slice_index_or types x None) ∙ s));
}

-- a test of a local that isn't assigned changes nothing
pub unassigned_stays : (bases : Bases) (test : Tested) (x : ℕ) (env : Env) → current env x ≡ None → (holds : Test)
    → narrow_local bases holds test (Some x) env ≡ env
unassigned_stays bases test x env e holds = ap (narrow_current bases holds test x env) e

-- and one of an assigned local changes its type
pub assigned_narrows : (bases : Bases) (test : Tested) (x : ℕ) (env : Env) (t : Tree) → current env x ≡ Some t
    → (holds : Test) → narrow_local bases holds test (Some x) env ≡ assign env x (tested_as bases holds test t)
assigned_narrows bases test x env t e holds = ap (narrow_current bases holds test x env) e

-- from what the test leaves of that type
pub split_narrows : (bases : Bases) (test : Tested) (x : ℕ) (env : Env) (t p f : Tree) → current env x ≡ Some t
    → p ≡ type_where_true bases test t → f ≡ type_where_false bases test t → (holds : Test)
    → assign env x (if holds then p else f) ≡ narrow_local bases holds test (Some x) env
split_narrows bases test x env t p f e h k true = ap (assign env x) h ∙ sym (assigned_narrows bases test x env t e true)
split_narrows bases test x env t p f e h k false = ap (assign env x) k
    ∙ sym (assigned_narrows bases test x env t e false)

module _ {Store Ty : Type 0} (has : Store → Ty → Type 0) (tree : Ty → Tree) (store : Store) where
  -- equal environments are given alike
  pub both_as : (n : BothWays Ty) (f h : Test → Env) → ((holds : Test) → f holds ≡ h holds)
      → GivesBoth has tree store n f → GivesBoth has tree store n h
  both_as n f h e g = record {
    where_true = record { given = g.where_true.given; is = g.where_true.is ∙ e true };
    where_false = record { given = g.where_false.given; is = g.where_false.is ∙ e false };
  }
