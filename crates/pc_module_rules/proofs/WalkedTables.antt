-- A walk's table fits declared types after each bound name, and everything that fits the table fits it when it has
-- grown.
use Rattle.std.proofs.Common.{◌≡◌, ◌<◌, ℕ, zero, suc, List, [], ◌∷◌, ◌++◌, refl, sym, ap, ◌∙◌, subst, inl, inr, arith}
use Rattle.std.specs.Prelude.{Bool as Test, true, false, ◌||◌, not, Option, Some, None, bytes_eq, slice_set}
use Rattle.std.proofs.lemmas.Bool.{or_cases, or_right}
use Rattle.std.proofs.lemmas.List.{get_or-set_same, get_or-set_other, length-set}
use Rattle.std.proofs.lemmas.Slice.Eq.{bytes_eq-Decides}
use Rattle.pc_tree.specs.Tree.{Name, Stmts, no_stmts, more_stmts}
use Rattle.pc_tree.specs.Stopping.{bound_by, bound_by_stmt}
use Rattle.pc_scope.specs.declared.resolution.NameMeaning.{NameMeaning}
use Rattle.pc_scope.specs.declared.resolution.NameMeaning.TheVariants as meaning
use Rattle.pc_scope.specs.Bindings.{texts}
use Rattle.pc_scope.specs.Resolution.{is_one_of}
use Rattle.pc_types.specs.Tree.{Tree, Any}
use Rattle.pc_types.specs.Below.{Bases}
use Rattle.pc_types.specs.WellFormed.{IsWellFormed}
use Rattle.pc_flow.specs.Agreement.{SameWhere}
use Rattle.pc_flow.specs.Environment.{Env, declared_type}
use Rattle.pc_flow.specs.WellFormed.{AreWellFormed, IsWellFormedEnv}
use Rattle.pc_flow.proofs.Conditions.{assign_well_formed}
use Rattle.pc_module_rules.specs.Statements.{NamesBound, is_first, UndeclaredName, AreUndeclared}
use Rattle.pc_module_rules.specs.Laws.Labellings.{Surroundings}
use Rattle.pc_module_rules.specs.Computed.Statements.{DeclaredTypes, type_table, bound_type, with_declared, BodyContext, Walk}
use Rattle.pc_module_rules.specs.Computed.Statements.{unreached_name, unreached_names, walk_suite}
use Rattle.pc_module_rules.specs.Laws.Walks.{TableFits, EnvFits, OutFits, body_context_in}
use Rattle.pc_module_rules.proofs.BoundNames.{Within, within_both}
use Rattle.pc_module_rules.proofs.OneStatement.{among_both}

-- ---- types in a table

pub types_well_formed : (bases : Bases) (table : DeclaredTypes) → IsWellFormedEnv bases table
    → AreWellFormed bases (type_table table)
types_well_formed bases [] k = tt
types_well_formed bases (None ∷ table) k = ((tt, tt, omega arith), types_well_formed bases table k.1)
types_well_formed bases (Some t ∷ table) k = (k.0, types_well_formed bases table k.1)

-- a local set to its declared type
set_same : (declared : List Tree) (table : DeclaredTypes) (env : Env) (x : ℕ) (t : Tree) → declared_type declared x ≡ t
    → SameWhere declared (type_table table) env → SameWhere declared (type_table (slice_set table x (Some t))) env
set_same [] [] [] x t e h = tt
set_same (d ∷ ds) (o ∷ os) (None ∷ env) zero t e h = (tt, h.1)
set_same (d ∷ ds) (o ∷ os) (Some s ∷ env) zero t e h = (e, h.1)
set_same (d ∷ ds) (o ∷ os) (s ∷ env) (suc x) t e h = (h.0, set_same ds os env x t e h.1)
set_same [] [] (s ∷ env) x t e h = absurd h
set_same [] (o ∷ os) env x t e h = absurd h
set_same (d ∷ ds) [] env x t e h = absurd h
set_same (d ∷ ds) (o ∷ os) [] x t e h = absurd h

true_false : {b : Test} → b ≡ true → b ≡ false → ⊥
true_false e e' = absurd (grind (arith, e, e'))

local_one : {x y : ℕ} → meaning.Local x ≡ meaning.Local y → x ≡ y
local_one e = grind arith

or_none : (a b : Test) → (a || b) ≡ false → (a ≡ false) × (b ≡ false)
or_none true b e = absurd (grind (arith, e))
or_none false b e = (refl, e)

module _ (around : Surroundings) (declared : List Tree) where
  open around use {context as ctx, count, locals as names}

  abbrev TableHere : NamesBound → DeclaredTypes → Type 0
  TableHere seen table = TableFits around declared seen table

  -- each environment that fits one table fits the other
  abbrev pub KeepsFits : DeclaredTypes → DeclaredTypes → Type 0
  KeepsFits table after = (env : Env) → EnvFits around declared table env → EnvFits around declared after env

  pub out_grows : (table after : DeclaredTypes) (out : Option Env) → KeepsFits table after → OutFits around declared table out
      → OutFits around declared after out
  out_grows table after None g h = tt
  out_grows table after (Some env) g h = g env h

  -- the same names bound so far
  pub fits_on : (seen after : NamesBound) (table : DeclaredTypes) → Within after seen → Within seen after → TableHere seen table
      → TableHere after table
  fits_on seen after table less more h = record {
    long = h.long;
    well_formed = h.well_formed;
    bound = λ w x a r. h.bound w x (less w a) r;
    unbound = λ w x n r. h.unbound w x (missing w n (is_one_of w seen) refl) r;
  }
    where
      missing : (w : List ℕ) → is_one_of w after ≡ false → (b : Test) → is_one_of w seen ≡ b → b ≡ false
      missing w n true e = absurd (true_false (more w e) n)
      missing w n false e = refl

  -- names of two lists, one after the other
  pub fits_both : (a b : List Name) (seen : NamesBound) (table : DeclaredTypes) → TableHere (texts b ++ (texts a ++ seen)) table
      → TableHere (texts (a ++ b) ++ seen) table
  fits_both a b seen table h = fits_on (texts b ++ (texts a ++ seen)) (texts (a ++ b) ++ seen) table
      (λ w i. among_both w a b seen i) (λ w i. within_both a b seen w i) h

  -- ---- a name bound

  -- a table with one name more
  pub record NameFits (seen : NamesBound) (word : List ℕ) (table after : DeclaredTypes) : Type 0 where
    pub fits : TableFits around declared (word ∷ seen) after
    pub grows : (env : Env) → EnvFits around declared table env → EnvFits around declared after env

  -- a name bound again
  again_fits : (seen : NamesBound) (word : List ℕ) (table : DeclaredTypes) → is_one_of word seen ≡ true → TableHere seen table
      → TableHere (word ∷ seen) table
  again_fits seen word table a h = fits_on seen (word ∷ seen) table less
      (λ w i. or_right (bytes_eq w word) (is_one_of w seen) i) h
    where
      less : Within (word ∷ seen) seen
      less w i = elim (or_cases (bytes_eq w word) (is_one_of w seen) i)
          [ inl e ↦ subst (λ v. is_one_of v seen ≡ true) (sym ((bytes_eq-Decides w word).0 e)) a | inr k ↦ k ]

  -- a name that means no local
  pub other_fits : (seen : NamesBound) (word : List ℕ) (table : DeclaredTypes) → ((x : ℕ) → ctx.resolve word ≡ meaning.Local x → ⊥)
      → TableHere seen table → NameFits seen word table table
  other_fits seen word table other h = record {
    fits = record {
      long = h.long;
      well_formed = h.well_formed;
      bound = λ w x a r. elim (or_cases (bytes_eq w word) (is_one_of w seen) a) [
        | inl e ↦ absurd (other x (ap ctx.resolve (sym ((bytes_eq-Decides w word).0 e)) ∙ r))
        | inr k ↦
            h.bound w x k r
      ];
      unbound = λ w x n r. h.unbound w x (or_none (bytes_eq w word) (is_one_of w seen) n).1 r;
    };
    grows = λ env k. k;
  }

  module _ (seen : NamesBound) (word : List ℕ) (x : ℕ) (i : ctx.resolve word ≡ meaning.Local x) (table : DeclaredTypes)
      (h : TableFits around declared seen table) where
    -- another name means another local
    apart : (w : List ℕ) (y : ℕ) → ctx.resolve w ≡ meaning.Local y → bytes_eq w word ≡ false → y ≡ x → ⊥
    apart w y r e q =
        let same : w ≡ word = names.apart w word x (r ∙ ap meaning.Local q) i in
        true_false ((bytes_eq-Decides w word).1 same) e

    -- a name bound first
    first_fits : (t : Tree) → is_one_of word seen ≡ false → declared_type declared x ≡ t → IsWellFormed ctx.bases t
        → NameFits seen word table (slice_set table x (Some t))
    first_fits t n d k = record {
      fits = record {
        long = length-set table x (Some t) ∙ h.long;
        well_formed = assign_well_formed ctx.bases table x t k h.well_formed;
        bound = λ w y a r. is_bound w y (bytes_eq w word) refl a r;
        unbound = λ w y n r.
            let o = or_none (bytes_eq w word) (is_one_of w seen) n in
            get_or-set_other table x y (Some t) None (apart w y r o.0) ∙ h.unbound w y o.1 r;
      };
      grows = λ env f. record { same = set_same declared table env x t d f.same; well_formed = f.well_formed };
    }
      where
        here : bound_type (slice_set table x (Some t)) x ≡ Some (declared_type declared x)
        here = get_or-set_same table x (Some t) None (subst (λ c. x < c) (sym h.long) (names.below word x i))
            ∙ ap Some (sym d)

        is_bound : (w : List ℕ) (y : ℕ) (b : Test) → bytes_eq w word ≡ b → (bytes_eq w word || is_one_of w seen) ≡ true
            → ctx.resolve w ≡ meaning.Local y → bound_type (slice_set table x (Some t)) y ≡ Some (declared_type declared y)
        is_bound w y true e a r =
            let q : x ≡ y = local_one (sym i ∙ ap ctx.resolve (sym ((bytes_eq-Decides w word).0 e)) ∙ r) in
            subst (λ z. bound_type (slice_set table x (Some t)) z ≡ Some (declared_type declared z)) q here
        is_bound w y false e a r = get_or-set_other table x y (Some t) None (apart w y r e)
            ∙ h.bound w y (ap (λ b. b || is_one_of w seen) (sym e) ∙ a) r

    -- a name bound, first or again
    pub name_fits : (t : Tree) → (is_one_of word seen ≡ false → declared_type declared x ≡ t) → IsWellFormed ctx.bases t
        → NameFits seen word table (with_declared (bound_type table x) table x t)
    name_fits t d k = go (is_one_of word seen) refl
      where
        go : (b : Test) → is_one_of word seen ≡ b → NameFits seen word table
            (with_declared (bound_type table x) table x t)
        go true e = subst (λ o. NameFits seen word table (with_declared o table x t)) (sym (h.bound word x e i))
            (record { fits = again_fits seen word table e h; grows = λ env k. k })
        go false e = subst (λ o. NameFits seen word table (with_declared o table x t)) (sym (h.unbound word x e i))
            (first_fits t e (d e) k)

  -- ---- names that no run binds

  module _ (returned : Tree) where
    abbrev context : BodyContext
    context = body_context_in around returned

    unreached_fits : (seen : NamesBound) (table : DeclaredTypes) → TableHere seen table → (n : Name) (r : NameMeaning)
        → ctx.resolve n.text ≡ r → UndeclaredName around.whole ctx declared (is_first seen n) r
        → NameFits seen n.text table (unreached_name context table r)
    unreached_fits seen table h n (meaning.Local x) i u = name_fits seen n.text x i table h Any
        (λ e. is_any (is_first seen n) (ap not e) u) (tt, tt, omega arith)
      where
        is_any : (b : Test) → b ≡ true → UndeclaredName around.whole ctx declared b (meaning.Local x)
            → declared_type declared x ≡ Any
        is_any true e u = u
        is_any false e u = absurd (grind (arith, e))
    unreached_fits seen table h n (meaning.Const c) i u = other_fits seen n.text table (λ x j. absurd (grind (arith, i, j)))
        h
    unreached_fits seen table h n (meaning.Func c) i u = other_fits seen n.text table (λ x j. absurd (grind (arith, i, j)))
        h
    unreached_fits seen table h n (meaning.Class c) i u = other_fits seen n.text table (λ x j. absurd (grind (arith, i, j)))
        h
    unreached_fits seen table h n (meaning.Builtin c) i u = other_fits seen n.text table
        (λ x j. absurd (grind (arith, i, j))) h
    unreached_fits seen table h n meaning.None i u = other_fits seen n.text table (λ x j. absurd (grind (arith, i, j))) h

    -- a table with several names more
    pub record NamesFit (after : NamesBound) (table more : DeclaredTypes) : Type 0 where
      pub fits : TableFits around declared after more
      pub grows : (env : Env) → EnvFits around declared table env → EnvFits around declared more env

    pub all_unreached_fit : (seen : NamesBound) (table : DeclaredTypes) → TableHere seen table → (ns : List Name)
        → AreUndeclared around.whole ctx declared seen ns → NamesFit (texts ns ++ seen) table
        (unreached_names context table ns)
    all_unreached_fit seen table h [] u = record { fits = h; grows = λ env k. k }
    all_unreached_fit seen table h (n ∷ ns) u =
        let first = unreached_fits seen table h n (ctx.resolve n.text) refl u.0 in
        let rest = all_unreached_fit (n.text ∷ seen) (unreached_name context table (ctx.resolve n.text)) first.fits ns
        u.1 in
        record { fits = fits_both (n ∷ []) ns seen _ rest.fits; grows = λ env k. rest.grows env (first.grows env k) }

    -- a walk over a suite that no run comes to
    unreached_more : (table : DeclaredTypes) (a b : List Name) → unreached_names context (unreached_names context table a) b
        ≡ unreached_names context table (a ++ b)
    unreached_more table [] b = refl
    unreached_more table (n ∷ a) b = unreached_more (unreached_name context table (ctx.resolve n.text)) a b

    abbrev stopped : Walk → List Name → Walk
    stopped w ns = record { table = unreached_names context w.table ns; env = None; exit_env = w.exit_env; found = w.found }

    pub unreached_suite : (w : Walk) → w.env ≡ None → (b : Stmts) → walk_suite context w b ≡ stopped w (bound_by b)
    unreached_suite w e no_stmts = λ i. record { table = w.table; env = e i; exit_env = w.exit_env; found = w.found }
    unreached_suite w e (more_stmts s rest) =
        let none : Walk = record { table = w.table; env = None; exit_env = w.exit_env; found = w.found } in
        let here : walk_suite context w (more_stmts s rest) ≡ walk_suite context none (more_stmts s rest) =
        ap (λ o. walk_suite context (record { table = w.table; env = o; exit_env = w.exit_env; found = w.found })
        (more_stmts s rest)) e in
        here ∙ unreached_suite (stopped w (bound_by_stmt s)) refl rest
        ∙ ap (λ t. record { table = t; env = None; exit_env = w.exit_env; found = w.found })
        (unreached_more w.table (bound_by_stmt s) (bound_by rest))
