-- The note of a bound name, after the binding.
use Rattle.std.proofs.Common.{◌≡◌, ◌∙◌, ◌++◌, [], ◌∷◌, ℕ, List, Option, Some, None, refl, sym, ap, subst, append-nil}
use Rattle.std.proofs.Common.{true}
use Rattle.std.proofs.Common.{false}
use Rattle.std.specs.Prelude.{Bool as Test, if◌then◌else◌, slice_index_or, IfSome}
use Rattle.std.specs.Option.{option_map}
use Rattle.pc_source.specs.declared.place.Place.{Place}
use Rattle.pc_scope.specs.declared.resolution.NameMeaning.{NameMeaning}
use Rattle.pc_scope.specs.declared.resolution.NameMeaning.TheVariants as meaning
use Rattle.pc_types.specs.Tree.{Tree}
use Rattle.pc_types.specs.declared.store.TypeStore.{Ghosts as StoreOf}
use Rattle.pc_flow.specs.Environment.{Env, current}
use Rattle.pc_flow.specs.Stored.{env_of, HasOne, HasEach}
use Rattle.pc_flow.proofs.Assigned.{at_local, local_current}
use Rattle.pc_notes.specs.Notes.{Note, notes_of, named}
use Rattle.pc_module_rules.specs.Computed.Statements.{BodyContext, DeclaredTypes, BindingResult, bound_type, local_note}
use Rattle.pc_module_rules.specs.Computed.Statements.{name_note}
use Rattle.pc_module_rules.specs.Computed.Statements.{notes_after, noted_binding}
use Rattle.pc_walk.specs.declared.context.BodyContext.{BodyContext as RustBodyContext}
use Rattle.pc_walk.specs.StatementsHeld.{bound_with}
use Rattle.pc_walk.specs.declared.walk.Walk.{Walk}
use Rattle.pc_walk.specs.Walks.{WalkKept, BindsName, body_context_in}
use Rattle.pc_walk.proofs.Walks.{stands_on}

-- the note after a binding is that of the binding with its note
noted_after : (keeps valued : Test) (table : DeclaredTypes) (env : Env) (r : NameMeaning) (p : Place) (found : List Note)
    → record { table = table; env = env; found = notes_after keeps valued table env r p found }
    ≡ noted_binding keeps valued r p (record { table = table; env = env; found = found })
noted_after false valued table env r p found = refl
noted_after true valued table env r p found = refl

module _ {Store Ty : Type 0} (S : StoreOf Store Ty) (old mid new : Walk Store Ty) where
  -- the result of a binding and of the note of its name
  pub bound_noted : (env behind : List (Option Ty)) (binds : BodyContext → DeclaredTypes → Env → List Note → BindingResult)
      (valued : Test) (r : NameMeaning) (p : Place) → WalkKept S old mid → WalkKept S mid new
      → BindsName S old env mid behind binds
      → notes_of new.found.now ≡ notes_after mid.context.globals.now.keeps valued (env_of S.tree mid.declared.now)
      (env_of S.tree behind) r p (notes_of mid.found.now)
      → new.declared.now ≡ mid.declared.now
      → BindsName S old env new behind (λ f t k ns. noted_binding f.keeps valued r p (binds f t k ns))
  bound_noted env behind binds valued r p g h b noted declared =
      let E = env_of S.tree behind in
      let T = env_of S.tree mid.declared.now in
      let there = bound_with S.tree mid.declared.now behind (notes_of mid.found.now) in
      record {
        is = (λ i. record { table = env_of S.tree (declared i); env = E; found = noted i })
            ∙ noted_after mid.context.globals.now.keeps valued T E r p (notes_of mid.found.now)
            ∙ ap (λ (f : RustBodyContext Ty). noted_binding f.globals.now.keeps valued r p there) g.context
            ∙ ap (noted_binding (body_context_in S old).keeps valued r p) b.is;
        stands = stands_on S mid new behind b.stands h declared;
      }

-- ---- the note by itself

-- where types are not kept
pub unkept : (keeps : Test) → keeps ≡ false → (valued : Test) (table : DeclaredTypes) (env : Env) (r : NameMeaning) (p : Place)
    (found : List Note) → found ≡ notes_after keeps valued table env r p found
unkept false e valued table env r p found = refl
unkept true e valued table env r p found = absurd (cc e)

kept : (keeps : Test) → keeps ≡ true → (valued : Test) (table : DeclaredTypes) (env : Env) (r : NameMeaning) (p : Place)
    (found : List Note) → found ++ name_note valued table env r p ≡ notes_after keeps valued table env r p found
kept true e valued table env r p found = refl
kept false e valued table env r p found = absurd (cc e)

no_local : (valued : Test) (table : DeclaredTypes) (env : Env) (r : NameMeaning) (p : Place) → ((x : ℕ) → r ≡ meaning.Local x → ⊥)
    → name_note valued table env r p ≡ []
no_local valued table env (meaning.Local x) p h = absurd (h x refl)
no_local valued table env (meaning.Const i) p h = refl
no_local valued table env (meaning.Func i) p h = refl
no_local valued table env (meaning.Class i) p h = refl
no_local valued table env (meaning.Builtin b) p h = refl
no_local valued table env meaning.None p h = refl

-- of a name that means no local
pub no_note : (keeps : Test) → keeps ≡ true → (valued : Test) (table : DeclaredTypes) (env : Env) (r : NameMeaning) (p : Place)
    (found : List Note) → ((x : ℕ) → r ≡ meaning.Local x → ⊥) → found ≡ notes_after keeps valued table env r p found
no_note keeps e valued table env r p found h =
    sym (append-nil found) ∙ ap (λ (l : List Note). found ++ l) (sym (no_local valued table env r p h))
    ∙ kept keeps e valued table env r p found

-- of a local
pub local_noted : (keeps : Test) → keeps ≡ true → (valued : Test) (table : DeclaredTypes) (env : Env) (r : NameMeaning) (x : ℕ)
    (p : Place) (found : List Note) → r ≡ meaning.Local x
    → found ++ local_note (bound_type table x) (if valued then current env x else None) p
    ≡ notes_after keeps valued table env r p found
local_noted keeps e valued table env r x p found is =
    ap (λ (m : NameMeaning). found ++ name_note valued table env m p) (sym is) ∙ kept keeps e valued table env r p found

-- ---- the types of a local

module _ {Ty : Type 0} (has : Ty → Type 0) (tree : Ty → Tree) where
  if_one : (o : Option Ty) → HasOne has o → IfSome o has
  if_one None h = tt
  if_one (Some ty) h = h

  -- the current type of a local that is asked for is of the store
  pub asked_given : (types : List (Option Ty)) (x : ℕ) (valued : Test) (o : Option Ty) → HasEach has types
      → o ≡ (if valued then slice_index_or types x None else None) → IfSome o has
  asked_given types x true o h e = subst (λ (t : Option Ty). IfSome t has) (sym e)
      (if_one (slice_index_or types x None) (at_local has types x h))
  asked_given types x false o h e = subst (λ (t : Option Ty). IfSome t has) (sym e) tt

  -- and it is the one in the environment
  pub asked_current : (types : List (Option Ty)) (x : ℕ) (valued : Test) (o : Option Ty)
      → o ≡ (if valued then slice_index_or types x None else None)
      → option_map tree o ≡ (if valued then current (env_of tree types) x else None)
  asked_current types x true o e = ap (option_map tree) e
      ∙ sym (local_current tree types x (slice_index_or types x None) refl)
  asked_current types x false o e = ap (option_map tree) e

  -- the note of a local that has a declared type
  pub noted_types : (types env : List (Option Ty)) (x : ℕ) (valued : Test) (p : Place) (declared : Ty) (o : Option Ty)
      → slice_index_or types x None ≡ Some declared → o ≡ (if valued then slice_index_or env x None else None)
      → named p (tree declared) (option_map tree o) ∷ [] ≡ local_note (bound_type (env_of tree types) x)
      (if valued then current (env_of tree env) x else None) p
  noted_types types env x valued p declared o d e =
      ap (λ (t : Option Tree). named p (tree declared) t ∷ []) (asked_current env x valued o e)
      ∙ ap (λ (t : Option Tree). local_note t (if valued then current (env_of tree env) x else None) p)
      (sym (local_current tree types x (Some declared) d))

  -- and of one that has none
  pub noted_none : (types env : List (Option Ty)) (x : ℕ) (valued : Test) (p : Place) (found : List Note)
      → slice_index_or types x None ≡ None → found ≡ found ++ local_note (bound_type (env_of tree types) x)
      (if valued then current (env_of tree env) x else None) p
  noted_none types env x valued p found d = sym (append-nil found)
      ∙ ap (λ (t : Option Tree). found ++ local_note t (if valued then current (env_of tree env) x else None) p)
      (sym (local_current tree types x None d))
