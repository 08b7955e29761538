-- The labels of the body of a lawful function have types whose dicts have int or str as key and whose classes are as
-- asked.
use Rattle.std.proofs.Common.{◌≡◌, ℕ, List, [], ◌∷◌, length, refl, sym, ◌∙◌, subst, arith}
use Rattle.std.specs.Prelude.{Bool as Test, true, false, not, ◌||◌, Some, slice_get, bytes_eq}
use Rattle.std.specs.List.{list_any}
use Rattle.std.proofs.lemmas.Slice.Eq.{bytes_eq-Decides}
use Rattle.pc_tree.specs.Tree.{FuncDef, Module}
use Rattle.pc_scope.specs.declared.resolution.Owner.{Owner}
use Rattle.pc_scope.specs.declared.resolution.Owner.TheVariants as owners
use Rattle.pc_scope.specs.declared.resolution.NameMeaning.{NameMeaning}
use Rattle.pc_scope.specs.declared.resolution.NameMeaning.TheVariants as meaning
use Rattle.pc_scope.specs.Resolution.{is_one_of, locals, resolve_in_module}
use Rattle.pc_types.specs.Tree.{Tree}
use Rattle.pc_class.specs.Facts.{TypedParameter, return_type}
use Rattle.pc_class.specs.Bases.{bases_of}
use Rattle.pc_flow.specs.Environment.{Env, declared_type, none_assigned}
use Rattle.pc_rules.specs.Signatures.{body_context}
use Rattle.pc_module_rules.specs.Statements.{NamesBound, SuiteFinds}
use Rattle.pc_module_rules.specs.Modules.{entry_parameters, names_entered, DeclaredEntry, LawfulEntry}
use Rattle.pc_module_rules.specs.Modules.{assigned_at_entry, entry_env, FunctionLabels, LawfulFunction}
use Rattle.pc_sound.specs.Silent.{bare_returns_in}
use Rattle.pc_sound.proofs.Regular.RegularParts.{Asked, ClassAsked, TestsAsked, IsRegular, NamesAsked}
use Rattle.pc_sound.proofs.Regular.RegularStatements.{SuiteRegular}
use Rattle.pc_sound.proofs.Regular.RegularTypes.{EnvRegular, assign_regular}
use Rattle.pc_sound.proofs.Regular.RegularCalls.{ParametersRegular}
use Rattle.pc_sound.proofs.Regular.RegularModules.{body_regular, option_ann_regular, parameters_regular}
use Rattle.pc_sound.proofs.Regular.RegularBindings.{local_same}
use Rattle.pc_sound.proofs.Regular.QuietReturns.{AskedRight, suite_quiet}
use Rattle.pc_sound.proofs.Regular.RegularSuites.{suite_regular}
use Rattle.pc_sound.proofs.Modules.TimelyBodies.{NamesTimely, all_timely}
use Rattle.pc_sound.proofs.Steps.Frames.{none_current}

module _ (asked : Asked) where
  module _ (resolve : List ℕ → NameMeaning) (declared : List Tree) where
    abbrev WordRegular : List ℕ → Type 0
    WordRegular word = (x : ℕ) → resolve word ≡ meaning.Local x → IsRegular asked (declared_type declared x)

    abbrev WordsRegular : NamesBound → Type 0
    WordsRegular seen = (word : List ℕ) → is_one_of word seen ≡ true → WordRegular word

    words_more : (w : List ℕ) (seen : NamesBound) → WordRegular w → WordsRegular seen → WordsRegular (w ∷ seen)
    words_more w seen h k word among = go (bytes_eq word w) refl among
      where
        go : (b : Test) → bytes_eq word w ≡ b → (b || list_any (bytes_eq word) seen) ≡ true → WordRegular word
        go true e a = subst WordRegular (sym ((bytes_eq-Decides word w).0 e)) h
        go false e a = k word a

    record EntryRegular (w : List ℕ) (env : Env) : Type 0 where
      word : WordRegular w
      env_regular : EnvRegular asked declared env

    -- a parameter is declared with its type, or was bound before
    one_regular : (seen : NamesBound) (w : List ℕ) (t : Tree) (env : Env) → WordsRegular seen
        → EnvRegular asked declared env → IsRegular asked t → (b : Test) → is_one_of w seen ≡ b → (r : NameMeaning)
        → resolve w ≡ r → DeclaredEntry declared (not b) r t → EntryRegular w (assigned_at_entry (not b) r t env)
    one_regular seen w t env sk ek tk true a r is law = record { word = sk w a; env_regular = ek }
    one_regular seen w t env sk ek tk false a (meaning.Local x) is law = record {
      word = λ y i. subst (λ z. IsRegular asked (declared_type declared z)) (local_same is i)
          (subst (IsRegular asked) (sym law) tk);
      env_regular = assign_regular asked declared env x t ek tk (subst (IsRegular asked) (sym law) tk);
    }
    one_regular seen w t env sk ek tk false a (meaning.Const i) is law =
        record { word = λ y j. absurd (grind (arith, sym is ∙ j)); env_regular = ek }
    one_regular seen w t env sk ek tk false a (meaning.Func i) is law =
        record { word = λ y j. absurd (grind (arith, sym is ∙ j)); env_regular = ek }
    one_regular seen w t env sk ek tk false a (meaning.Class i) is law =
        record { word = λ y j. absurd (grind (arith, sym is ∙ j)); env_regular = ek }
    one_regular seen w t env sk ek tk false a (meaning.Builtin b) is law =
        record { word = λ y j. absurd (grind (arith, sym is ∙ j)); env_regular = ek }
    one_regular seen w t env sk ek tk false a meaning.None is law =
        record { word = λ y j. absurd (grind (arith, sym is ∙ j)); env_regular = ek }

    record AllEntered (seen : NamesBound) (env : Env) : Type 0 where
      words : WordsRegular seen
      env_regular : EnvRegular asked declared env

    entry_regular : (seen : NamesBound) (ps : List TypedParameter) (env : Env) → WordsRegular seen
        → EnvRegular asked declared env → ParametersRegular asked ps → LawfulEntry resolve declared seen ps
        → AllEntered (names_entered seen ps) (entry_env resolve seen ps env)
    entry_regular seen [] env sk ek pk law = record { words = sk; env_regular = ek }
    entry_regular seen (p ∷ ps) env sk ek pk law =
        let o = one_regular seen p.name p.type env sk ek pk.0 (is_one_of p.name seen) refl (resolve p.name) refl
        law.0 in
        entry_regular (p.name ∷ seen) ps (assigned_at_entry (not (is_one_of p.name seen)) (resolve p.name) p.type env)
        (words_more p.name seen o.word sk) o.env_regular pk.1 law.1

  -- the demand on the class of a method
  abbrev pub OwnerAsked : Owner → Type 0
  OwnerAsked owners.Module = Unit {0}
  OwnerAsked (owners.Func i) = Unit {0}
  OwnerAsked (owners.Method c i) = ClassAsked asked c

  module _ (m : Module) (meant : NamesAsked asked (resolve_in_module m)) where
    entries_regular : (owner : Owner) → OwnerAsked owner → (f : FuncDef)
        → ParametersRegular asked (entry_parameters m owner f)
    entries_regular owners.Module there f = parameters_regular asked m meant f.params
    entries_regular (owners.Func i) there f = parameters_regular asked m meant f.params
    entries_regular (owners.Method c i) there f = (there, parameters_regular asked m meant f.params)

    -- the labels of a body
    pub function_regular : (constants : List Tree) → ((i : ℕ) (t : Tree) → slice_get constants i ≡ Some t
        → IsRegular asked t) → (owner : Owner) → OwnerAsked owner → (f : FuncDef)
        → TestsAsked asked (NamesTimely (body_context m constants (locals owner f))) → (labels : FunctionLabels f)
        → AskedRight asked (SuiteFinds m (body_context m constants (locals owner f))
        (names_entered [] (entry_parameters m owner f)) f.body labels.body) (bare_returns_in f.body)
        → LawfulFunction m constants owner f labels → SuiteRegular asked f.body labels.body
    function_regular constants ck owner there f in_time labels none_wrong law =
        let ctx = body_context m constants (locals owner f) in
        let e = entry_regular ctx.resolve labels.declared [] (entry_parameters m owner f)
        (none_assigned (length (locals owner f))) (λ word a. absurd (grind (arith, a)))
        (λ x t i. absurd (none_current (length (locals owner f)) x t i)) (entries_regular owner there f)
        law.entry in
        (suite_regular asked m meant ctx labels.declared (body_regular asked m meant constants (locals owner f) ck)
        (all_timely ctx labels.declared asked in_time) (return_type m f)
        (option_ann_regular asked m meant (bases_of m) f.returns) (names_entered [] (entry_parameters m owner f))
        (entry_env ctx.resolve [] (entry_parameters m owner f) (none_assigned (length (locals owner f)))) f.body
        labels.body labels.out e.words e.env_regular (suite_quiet asked m ctx
        (names_entered [] (entry_parameters m owner f)) f.body labels.body none_wrong) law.body).regular_labels
