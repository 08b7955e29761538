-- The entry of a function: its receiver and its parameters, declared and assigned; and the findings in its body from
-- there.
use Rattle.std.proofs.Common.{◌≡◌, ◌∙◌, ◌++◌, ℕ, zero, suc, List, [], ◌∷◌, Option, Some, None, length, refl, sym, ap}
use Rattle.std.proofs.Common.{subst, arith}
use Rattle.std.specs.Prelude.{All, Bool as Test, true, false, is_some, replicate, slice_set, slice_index_or}
use Rattle.std.specs.Borrow.{Bor}
use Rattle.std.specs.Option.{option_map, option_copied}
use Rattle.std.proofs.lemmas.List.Elements.{All-nil, All-head, All-tail, All-cons, All-replicate}
use Rattle.pc_tree.specs.Tree.{FuncDef, Module}
use Rattle.pc_scope.specs.declared.resolution.Owner.{Owner}
use Rattle.pc_scope.specs.declared.resolution.NameMeaning.{NameMeaning}
use Rattle.pc_scope.specs.declared.resolution.NameMeaning.TheVariants as meaning
use Rattle.pc_scope.specs.Resolution.{locals}
use Rattle.pc_types.specs.Tree.{Tree}
use Rattle.pc_types.specs.Below.{Bases}
use Rattle.pc_types.specs.Store.{Means}
use Rattle.pc_types.specs.WellFormed.{IsWellFormed}
use Rattle.pc_class.specs.declared.table.Parameter.{Parameter as RustParameter}
use Rattle.pc_class.specs.Facts.{TypedParameter, parameters_of}
use Rattle.pc_class.specs.Tables.{HasParameter, parameters_with}
use Rattle.pc_class.specs.WellFormed.{ParametersWellFormed}
use Rattle.pc_flow.specs.Environment.{Env, none_assigned}
use Rattle.pc_flow.specs.WellFormed.{IsWellFormedEnv}
use Rattle.pc_flow.specs.Stored.{HasOne, env_of}
use Rattle.pc_flow.proofs.Assigned.{local_current}
use Rattle.pc_notes.specs.Notes.{Note}
use Rattle.pc_module_rules.specs.Computed.Statements.{BodyContext, DeclaredTypes, Walk, enter_parameters, enter_local}
use Rattle.pc_module_rules.specs.Computed.Statements.{enter_name}
use Rattle.pc_module_rules.specs.Computed.Statements.{end_finds, body_context_of, function_finds, walk_suite}
use Rattle.pc_module_rules.specs.Modules.{entry_parameters, receiver_parameter}
use Rattle.pc_walk.specs.StatementsHeld.{HoldsType, HoldsTypes}
use Rattle.pc_walk.proofs.Bound.{set_gives, bound_is}

-- the copy of a borrow that is not there is not there
pub none_copied : {Ty : Type 0} (o : Option (Bor Ty)) → is_some o ≡ false → option_copied o ≡ None
none_copied None e = refl
none_copied (Some ty) e = absurd (grind (arith, e))

module _ {Ty : Type 0} (has : Ty → Type 0) (tree : Ty → Tree) (bases : Bases) where
  none_well_formed : (n : ℕ) → IsWellFormedEnv bases (env_of tree (replicate n None))
  none_well_formed zero = tt
  none_well_formed (suc n) = (tt, none_well_formed n)

  -- locals of which none has a type
  pub none_holds : (n : ℕ) → HoldsTypes has tree bases (replicate n None)
  none_holds n = record { given = All-replicate (HasOne has) n None tt; well_formed = none_well_formed n }

  -- the type of a parameter is of the store and well-formed
  abbrev HoldsParameter : RustParameter Ty → Type 0
  HoldsParameter p = HoldsType has tree bases p.ty

  -- parameters of the store whose types are well-formed
  pub parameters_hold : (ps : List (RustParameter Ty)) → All (HasParameter has) ps
      → ParametersWellFormed bases (parameters_with tree ps) → All (λ p. HoldsType has tree bases p.ty) ps
  parameters_hold [] h k = All-nil HoldsParameter
  parameters_hold (p ∷ ps) h k = All-cons HoldsParameter p ps
      (record { given = All-head (HasParameter has) p ps h; well_formed = k.0 })
      (parameters_hold ps (All-tail (HasParameter has) p ps h) k.1)

-- and they mean that none is assigned
pub none_is : {Ty : Type 0} (tree : Ty → Tree) (n : ℕ) → env_of tree (replicate n None) ≡ none_assigned n
none_is tree zero = refl
none_is tree (suc n) = ap (λ l. None ∷ l) (none_is tree n)

-- entering a name that means no local, or a local that is already bound, changes nothing
pub name_elsewhere : (table : DeclaredTypes) (env : Env) (r : NameMeaning) (t : Tree) → ((x : ℕ) → r ≡ meaning.Local x → ⊥)
    → enter_name table env r t ≡ (table, env)
name_elsewhere table env (meaning.Local x) t h = absurd (h x refl)
name_elsewhere table env (meaning.Const i) t h = refl
name_elsewhere table env (meaning.Func i) t h = refl
name_elsewhere table env (meaning.Class i) t h = refl
name_elsewhere table env (meaning.Builtin b) t h = refl
name_elsewhere table env meaning.None t h = refl

name_settled : (table : DeclaredTypes) (env : Env) (x : ℕ) (t : Tree) (o : Option Tree) → is_some o ≡ true
    → enter_local o table env x t ≡ (table, env)
name_settled table env x t (Some d) e = refl
name_settled table env x t None e = absurd (grind (arith, e))

some_copied : {Ty : Type 0} (tree : Ty → Tree) (o : Option (Bor Ty)) → is_some o ≡ true
    → is_some (option_map tree (option_copied o)) ≡ true
some_copied tree None e = absurd (grind (arith, e))
some_copied tree (Some ty) e = refl

pub name_bound : {Ty : Type 0} (tree : Ty → Tree) (declared : List (Option Ty)) (env : Env) (x : ℕ) (t : Tree)
    (o : Option (Bor Ty)) → option_copied o ≡ slice_index_or declared x None → is_some o ≡ true
    → enter_name (env_of tree declared) env (meaning.Local x) t ≡ (env_of tree declared, env)
name_bound tree declared env x t o copied e =
    ap (λ b. enter_local b (env_of tree declared) env x t)
    (local_current tree declared x (slice_index_or declared x None) refl ∙ sym (ap (option_map tree) copied))
    ∙ name_settled (env_of tree declared) env x t (option_map tree (option_copied o)) (some_copied tree o e)

module _ {Store Ty : Type 0} (has : Store → Ty → Type 0) (tree : Ty → Tree) (bases : Bases) (store : Store) where
  -- declared types and an environment of the store that mean these
  pub record GivesEntry (declared env : List (Option Ty)) (e : DeclaredTypes × Env) : Type 0 where
    pub declared_holds : HoldsTypes (has store) tree bases declared
    pub env_holds : HoldsTypes (has store) tree bases env
    pub is : (env_of tree declared, env_of tree env) ≡ e

  -- a local that has no declared type so far, declared and assigned
  pub local_entered : (declared env : List (Option Ty)) (x : ℕ) (ty first current : Ty) →
      HoldsTypes (has store) tree bases declared →
      HoldsTypes (has store) tree bases env →
      HoldsType (has store) tree bases ty →
      Means has tree store first (tree ty) →
      Means has tree store current (tree ty) →
      slice_index_or declared x None ≡ None →
      GivesEntry (slice_set declared x (Some first)) (slice_set env x (Some current))
      (enter_name (env_of tree declared) (env_of tree env) (meaning.Local x) (tree ty))
  local_entered declared env x ty first current hd he ht mf mc e =
      let d = set_gives has tree bases store declared x first
      (record { given = mf.0; well_formed = subst (IsWellFormed bases) (sym mf.1) ht.well_formed }) hd in
      let c = set_gives has tree bases store env x current
      (record { given = mc.0; well_formed = subst (IsWellFormed bases) (sym mc.1) ht.well_formed }) he in
      let table = d.is ∙ ap (λ t. slice_set (env_of tree declared) x (Some t)) mf.1 in
      let assigned = c.is ∙ ap (λ t. slice_set (env_of tree env) x (Some t)) mc.1 in
      let both : (env_of tree (slice_set declared x (Some first)), env_of tree (slice_set env x (Some current)))
      ≡ enter_local None (env_of tree declared) (env_of tree env) x (tree ty) = λ i. (table i, assigned i) in
      record {
        declared_holds = d.holds;
        env_holds = c.holds;
        is = both ∙ sym (ap (λ o. enter_local o (env_of tree declared) (env_of tree env) x (tree ty))
            (bound_is has tree bases store declared x ∙ ap (option_map tree) e));
      }

-- parameters one after another
enter_both : (resolve : List ℕ → NameMeaning) (table : DeclaredTypes) (env : Env) (ps qs : List TypedParameter)
    → enter_parameters resolve table env (ps ++ qs) ≡ enter_parameters resolve
    (enter_parameters resolve table env ps).0 (enter_parameters resolve table env ps).1 qs
enter_both resolve table env [] qs = refl
enter_both resolve table env (p ∷ ps) qs = let r = enter_name table env
    (resolve p.name) p.type in enter_both resolve r.0 r.1 ps qs

-- a walk from this entry
abbrev walk_from : BodyContext → FuncDef → List Note → DeclaredTypes × Env → Walk
walk_from context f found start = walk_suite context (record
    { table = start.0; env = Some start.1; exit_env = None; found = found }) f.body

-- the findings in a function with so many locals that is entered with these parameters
abbrev found_from : BodyContext → FuncDef → List Note → ℕ → List TypedParameter → List Note
found_from context f found n ps =
    let body = walk_from context f found (enter_parameters context.context.resolve (none_assigned n) (none_assigned n)
    ps)
    in
    body.found ++ end_finds context.context.bases context.returned f.name.place body.env

-- the findings in a function, by what its receiver, its parameters and its body come to
pub function_found : (keeps : Test) (m : Module) (constants : List Tree) (owner : Owner) (f : FuncDef)
    (context : BodyContext)
    (found : List Note) (n : ℕ) (middle start : DeclaredTypes × Env) (body : Walk) →
    context ≡ body_context_of keeps m constants owner f →
    n ≡ length (locals owner f) →
    middle ≡ enter_parameters context.context.resolve (none_assigned n) (none_assigned n) (receiver_parameter owner) →
    start ≡ enter_parameters context.context.resolve middle.0 middle.1 (parameters_of m f.params) →
    body ≡ walk_from context f found start →
    body.found ++ end_finds context.context.bases context.returned f.name.place body.env
    ≡ function_finds keeps m constants owner f found
function_found keeps m constants owner f context found n middle start body ef en em es eb =
    let resolve = context.context.resolve in
    let entered = es ∙ ap (λ (r : DeclaredTypes × Env). enter_parameters resolve r.0 r.1 (parameters_of m f.params)) em
    ∙ sym (enter_both resolve (none_assigned n) (none_assigned n) (receiver_parameter owner)
    (parameters_of m f.params)) in
    ap (λ (w : Walk). w.found ++ end_finds context.context.bases context.returned f.name.place w.env)
    (eb ∙ ap (walk_from context f found) entered)
    ∙ ap (λ k. found_from context f found k (entry_parameters m owner f)) en
    ∙ ap (λ k. found_from k f found (length (locals owner f)) (entry_parameters m owner f)) ef
