-- A walk over a function is entered with a table and an environment that fit its lawful labels.
use Rattle.std.proofs.Common.{◌≡◌, ℕ, zero, suc, List, [], ◌∷◌, length, refl, sym, ap, ◌∙◌, subst, arith}
use Rattle.std.specs.Prelude.{Bool as Test, true, false, not, unwrap_or, Some, None, slice_set}
use Rattle.pc_scope.specs.declared.resolution.NameMeaning.{NameMeaning}
use Rattle.pc_scope.specs.declared.resolution.NameMeaning.TheVariants as meaning
use Rattle.pc_scope.specs.Resolution.{is_one_of}
use Rattle.pc_types.specs.Tree.{Tree, Any}
use Rattle.pc_types.specs.WellFormed.{IsWellFormed}
use Rattle.pc_class.specs.Facts.{TypedParameter}
use Rattle.pc_class.specs.WellFormed.{ParametersWellFormed}
use Rattle.pc_flow.specs.Environment.{Env, declared_type, assign, none_assigned}
use Rattle.pc_flow.proofs.Conditions.{assign_well_formed}
use Rattle.pc_module_rules.specs.Statements.{NamesBound}
use Rattle.pc_module_rules.specs.Modules.{DeclaredEntry, LawfulEntry, assigned_at_entry, entry_env, names_entered}
use Rattle.pc_module_rules.specs.Laws.Labellings.{Surroundings}
use Rattle.pc_module_rules.specs.Computed.Statements.{DeclaredTypes, type_table, bound_type, with_declared, enter_local}
use Rattle.pc_module_rules.specs.Computed.Statements.{enter_name, enter_parameters}
use Rattle.pc_module_rules.specs.Laws.Walks.{TableFits, EnvFits}
use Rattle.pc_module_rules.proofs.BoundNames.{here_among}
use Rattle.pc_module_rules.proofs.LabelledFunctions.{none_well_formed}
use Rattle.pc_module_rules.proofs.Labelled.{none_bound, type_of_bound}
use Rattle.pc_module_rules.proofs.OneModule.{none_kept}
use Rattle.pc_module_rules.proofs.OneStatement.{assign_kept}
use Rattle.pc_module_rules.proofs.WalkedTables.{NameFits, name_fits, other_fits}

module _ (around : Surroundings) (declared : List Tree) where
  open around use {context as ctx}

  -- a walk has entered with a table and an environment that fit
  pub record EntryFits (after : NamesBound) (start : DeclaredTypes × Env) (env : Env) : Type 0 where
    pub fits : TableFits around declared after start.0
    pub env_is : start.1 ≡ env
    pub env_fits : EnvFits around declared start.0 env

  -- a parameter
  module _ (seen : NamesBound) (table : DeclaredTypes) (env : Env) (t : TableFits around declared seen table)
      (f : EnvFits around declared table env) (word : List ℕ) (type : Tree) (k : IsWellFormed ctx.bases type) where
    local_entered : (x : ℕ) → ctx.resolve word ≡ meaning.Local x → DeclaredEntry declared (not (is_one_of word seen))
        (meaning.Local x) type → EntryFits (word ∷ seen) (enter_local (bound_type table x) table env x type)
        (assigned_at_entry (not (is_one_of word seen)) (meaning.Local x) type env)
    local_entered x i d = go (is_one_of word seen) refl d
      where
        is_type : (b : Test) → b ≡ false → DeclaredEntry declared (not b) (meaning.Local x) type → declared_type declared x
            ≡ type
        is_type true e d = absurd (grind (arith, e))
        is_type false e d = d

        nf : NameFits around declared seen word table (with_declared (bound_type table x) table x type)
        nf = name_fits around declared seen word x i table t type (λ e. is_type (is_one_of word seen) e d) k

        go : (b : Test) → is_one_of word seen ≡ b → DeclaredEntry declared (not b) (meaning.Local x) type
            → EntryFits (word ∷ seen) (enter_local (bound_type table x) table env x type)
            (assigned_at_entry (not b) (meaning.Local x) type env)
        go true e d =
            let here : bound_type table x ≡ Some (declared_type declared x) = t.bound word x e i in
            subst (λ o. EntryFits (word ∷ seen) (enter_local o table env x type) env) (sym here)
            (record {
              fits = (subst (λ o. NameFits around declared seen word table (with_declared o table x type)) here
                  nf).fits;
              env_is = refl;
              env_fits = f;
            })
        go false e d =
            let here : bound_type table x ≡ None = t.unbound word x e i in
            let more = slice_set table x (Some type) in
            let new : NameFits around declared seen word table more =
            subst (λ o. NameFits around declared seen word table (with_declared o table x type)) here nf in
            let same : declared_type declared x ≡ declared_type (type_table more) x =
            sym (type_of_bound more x ∙ ap (λ o. unwrap_or o Any)
            (new.fits.bound word x (here_among word seen) i)) in
            subst (λ o. EntryFits (word ∷ seen) (enter_local o table env x type) (assign env x type)) (sym here)
            (record {
              fits = new.fits;
              env_is = refl;
              env_fits = record {
                same = assign_kept declared (type_table more) env x type (new.grows env f).same same;
                well_formed = assign_well_formed ctx.bases env x type k f.well_formed;
              };
            })

    other_entered : ((x : ℕ) → ctx.resolve word ≡ meaning.Local x → ⊥) → EntryFits (word ∷ seen) (table, env) env
    other_entered other = record {
      fits = (other_fits around declared seen word table other t).fits;
      env_is = refl;
      env_fits = f;
    }

    none_entered : (b : Test) (r : NameMeaning) → ((x : ℕ) → r ≡ meaning.Local x → ⊥) → assigned_at_entry b r type env ≡ env
    none_entered b (meaning.Local x) other = absurd (other x refl)
    none_entered true (meaning.Const c) other = refl
    none_entered true (meaning.Func c) other = refl
    none_entered true (meaning.Class c) other = refl
    none_entered true (meaning.Builtin c) other = refl
    none_entered true meaning.None other = refl
    none_entered false (meaning.Const c) other = refl
    none_entered false (meaning.Func c) other = refl
    none_entered false (meaning.Class c) other = refl
    none_entered false (meaning.Builtin c) other = refl
    none_entered false meaning.None other = refl

    plain_entered : (r : NameMeaning) → ctx.resolve word ≡ r → ((x : ℕ) → r ≡ meaning.Local x → ⊥)
        → EntryFits (word ∷ seen) (table, env) (assigned_at_entry (not (is_one_of word seen)) r type env)
    plain_entered r i other = subst (EntryFits (word ∷ seen) (table, env))
        (sym (none_entered (not (is_one_of word seen)) r other)) (other_entered (λ x j. other x (sym i ∙ j)))

    name_entered : (r : NameMeaning) → ctx.resolve word ≡ r → DeclaredEntry declared (not (is_one_of word seen)) r type
        → EntryFits (word ∷ seen) (enter_name table env r type) (assigned_at_entry (not (is_one_of word seen)) r type
        env)
    name_entered (meaning.Local x) i d = local_entered x i d
    name_entered (meaning.Const c) i d = plain_entered (meaning.Const c) i (λ x j. absurd (grind (arith, j)))
    name_entered (meaning.Func c) i d = plain_entered (meaning.Func c) i (λ x j. absurd (grind (arith, j)))
    name_entered (meaning.Class c) i d = plain_entered (meaning.Class c) i (λ x j. absurd (grind (arith, j)))
    name_entered (meaning.Builtin c) i d = plain_entered (meaning.Builtin c) i (λ x j. absurd (grind (arith, j)))
    name_entered meaning.None i d = plain_entered meaning.None i (λ x j. absurd (grind (arith, j)))

  -- all parameters
  pub all_entered : (seen : NamesBound) (table : DeclaredTypes) (env : Env) → TableFits around declared seen table
      → EnvFits around declared table env → (ps : List TypedParameter) → ParametersWellFormed ctx.bases ps
      → LawfulEntry ctx.resolve declared seen ps
      → EntryFits (names_entered seen ps) (enter_parameters ctx.resolve table env ps)
      (entry_env ctx.resolve seen ps env)
  all_entered seen table env t f [] k l = record { fits = t; env_is = refl; env_fits = f }
  all_entered seen table env t f (p ∷ ps) k l =
      let one = name_entered seen table env t f p.name p.type k.0 (ctx.resolve p.name) refl l.0 in
      let r = enter_name table env (ctx.resolve p.name) p.type in
      let next = assigned_at_entry (not (is_one_of p.name seen)) (ctx.resolve p.name) p.type env in
      subst (λ e. EntryFits (names_entered (p.name ∷ seen) ps) (enter_parameters ctx.resolve r.0 e ps)
      (entry_env ctx.resolve (p.name ∷ seen) ps next)) (sym one.env_is)
      (all_entered (p.name ∷ seen) r.0 next one.fits one.env_fits ps k.1 l.1)

  -- before the first one
  long_none : (n : ℕ) → length (none_assigned n) ≡ n
  long_none zero = refl
  long_none (suc n) = ap suc (long_none n)

  pub long_types : (table : DeclaredTypes) → length (type_table table) ≡ length table
  long_types [] = refl
  long_types (o ∷ os) = ap suc (long_types os)

  pub none_fits : TableFits around declared [] (none_assigned around.count)
  none_fits = record {
    long = long_none around.count;
    well_formed = none_well_formed ctx.bases around.count;
    bound = λ w x a r. absurd (grind (arith, a));
    unbound = λ w x a r. none_bound around.count x;
  }

  pub none_assigned_fits : length declared ≡ around.count → EnvFits around declared (none_assigned around.count)
      (none_assigned around.count)
  none_assigned_fits l = record {
    same = none_kept declared (type_table (none_assigned around.count)) around.count l
        (long_types (none_assigned around.count) ∙ long_none around.count);
    well_formed = none_well_formed ctx.bases around.count;
  }
