-- The entry of a function: its parameters are declared and assigned.
use Rattle.std.proofs.Common.{List, [], refl, ℕ, ◌∷◌, ◌≡◌}
use Rattle.std.specs.Prelude.{Bool as Test, bytes_eq, false, not, true}
use Rattle.pc_scope.specs.declared.resolution.NameMeaning.{NameMeaning}
use Rattle.pc_scope.specs.declared.resolution.NameMeaning.TheVariants as meaning
use Rattle.pc_scope.specs.Resolution.{is_one_of}
use Rattle.pc_types.specs.Tree.{Tree}
use Rattle.pc_types.specs.WellFormed.{IsWellFormed}
use Rattle.pc_flow.specs.Environment.{Env, declared_type}
use Rattle.pc_class.specs.WellFormed.{ParametersWellFormed}
use Rattle.pc_class.specs.Facts.{TypedParameter}
use Rattle.pc_module_rules.specs.Modules.{DeclaredEntry, LawfulEntry, assigned_at_entry, entry_env, names_entered}
use Rattle.pc_module_rules.specs.Statements.{NamesBound}
use Rattle.pc_module_rules.proofs.OneStatement.{IsAmong}
use Rattle.std.proofs.lemmas.Bool.{or_right}
use Rattle.pc_module_rules.specs.Laws.Labellings.{Agree, IsDeclaredTable, Surroundings, GoesByNames}
use Rattle.pc_module_rules.proofs.BoundNames.{here_among, within_one}
use Rattle.pc_module_rules.proofs.Tables.{assign_by_names, same_on, same_self, by_names_on}
use Rattle.pc_module_rules.proofs.LabelledBindings.{name_set}

module _ (around : Surroundings) where
  open around use {whole as m, context as ctx, context_well_formed as ck, count, locals as names}

  -- ---- the entry of a function

  among_entered : (word : List ℕ) (seen : NamesBound) (ps : List TypedParameter) → IsAmong word seen
      → IsAmong word (names_entered seen ps)
  among_entered word seen [] h = h
  among_entered word seen (p ∷ ps) h = among_entered word (p.name ∷ seen) ps
      (or_right (bytes_eq word p.name) (is_one_of word seen) h)

  -- the parameters of a function have declared types, and an environment after them
  pub record EntryLabelled (ds : List Tree) (seen : NamesBound) (env : Env) (ps : List TypedParameter) : Type 0 where
    pub table : List Tree
    pub is_table : IsDeclaredTable around table
    pub same : Agree ctx ds table seen
    pub by_names : GoesByNames around table (names_entered seen ps) (entry_env ctx.resolve seen ps env)
    pub lawful : (F : List Tree) → Agree ctx table F (names_entered seen ps) → LawfulEntry ctx.resolve F seen ps

  entry_declared : (F : List Tree) (b : Test) (r : NameMeaning) (t : Tree)
      → ((x : ℕ) → r ≡ meaning.Local x → b ≡ true → declared_type F x ≡ t) → DeclaredEntry F b r t
  entry_declared F false r t h = tt
  entry_declared F true (meaning.Local x) t h = h x refl refl
  entry_declared F true (meaning.Const c) t h = tt
  entry_declared F true (meaning.Func c) t h = tt
  entry_declared F true (meaning.Class c) t h = tt
  entry_declared F true (meaning.Builtin c) t h = tt
  entry_declared F true meaning.None t h = tt

  entered_by_names : (ds : List Tree) (seen : NamesBound) (env : Env) (b : Test) (word : List ℕ) (r : NameMeaning) (t : Tree)
      → IsAmong word seen → ctx.resolve word ≡ r → IsWellFormed ctx.bases t → GoesByNames around ds seen env
      → GoesByNames around ds seen (assigned_at_entry b r t env)
  entered_by_names ds seen env true word (meaning.Local x) t a i k h = assign_by_names around ds seen env word x t a i k h
  entered_by_names ds seen env false word r t a i k h = h
  entered_by_names ds seen env true word (meaning.Const c) t a i k h = h
  entered_by_names ds seen env true word (meaning.Func c) t a i k h = h
  entered_by_names ds seen env true word (meaning.Class c) t a i k h = h
  entered_by_names ds seen env true word (meaning.Builtin c) t a i k h = h
  entered_by_names ds seen env true word meaning.None t a i k h = h

  pub entry_labelled : (ds : List Tree) (seen : NamesBound) (env : Env) → IsDeclaredTable around ds
      → GoesByNames around ds seen env → (ps : List TypedParameter) → ParametersWellFormed ctx.bases ps
      → EntryLabelled ds seen env ps
  entry_labelled ds seen env g h [] k = record {
    table = ds;
    is_table = g;
    same = same_self around ds seen;
    by_names =
        h;
    lawful = λ F s. tt;
  }
  entry_labelled ds seen env g h (p ∷ ps) k =
      let st = name_set around ds seen g p.name (ctx.resolve p.name) refl p.type k.0 in
      let next = assigned_at_entry (not (is_one_of p.name seen)) (ctx.resolve p.name) p.type env in
      let hn = entered_by_names st.table (p.name ∷ seen) env (not (is_one_of p.name seen)) p.name (ctx.resolve p.name)
      p.type (here_among p.name seen) refl k.0 (by_names_on around ds st.table seen (p.name ∷ seen) env
      (within_one p.name seen) st.is_table st.same h) in
      let rest = entry_labelled st.table (p.name ∷ seen) next st.is_table hn ps k.1 in
      record {
        table = rest.table;
        is_table = rest.is_table;
        same = same_on around ds st.table rest.table seen (p.name ∷ seen) (within_one p.name seen) st.same rest.same;
        by_names = rest.by_names;
        lawful = λ F s. (
          entry_declared F (not (is_one_of p.name seen)) (ctx.resolve p.name) p.type
              (st.is F (same_on around st.table rest.table F (p.name ∷ seen) (names_entered (p.name ∷ seen) ps)
              (λ w a. among_entered w (p.name ∷ seen) ps a) rest.same s)),
          rest.lawful F s,
        );
      }
