-- The knowledge, while `main` runs, of the names that the module has bound and of the classes that it has made.
use Rattle.std.proofs.Common.{inl, inr, ◌≡◌, ℕ, List, [], ◌∷◌, ◌++◌, Contains}
use Rattle.std.specs.Prelude.{Bool as Test, true, false, Option, Some, None}
use Rattle.pc_source.specs.declared.place.Place.{Place}
use Rattle.pc_tree.specs.declared.code.Code.{Code}
use Rattle.pc_tree.specs.declared.code.Code.TheVariants.{E21}
use Rattle.pc_tree.specs.declared.code.Finding.{Finding}
use Rattle.pc_sound.specs.Silent.{IsSilentCode}
use Rattle.pc_tree.specs.Tree.{FuncDef, Module}
use Rattle.pc_tree.specs.Stopping.{bound_by, loose_in}
use Rattle.pc_scope.specs.declared.resolution.Owner.{Owner}
use Rattle.pc_scope.specs.declared.resolution.Owner.TheVariants as owners
use Rattle.pc_scope.specs.Reserved.{is_builtin_name}
use Rattle.pc_scope.specs.Bindings.{texts}
use Rattle.pc_scope.specs.Resolution.{is_one_of, entry_texts, locals}
use Rattle.pc_types.specs.Tree.{Tree, Any, Object, Int, Bool, Str, NoneType, Class, ListOf, DictOf, TupleOf, Union}
use Rattle.pc_class.specs.Bases.{bases_of}
use Rattle.pc_class.specs.Facts.{TypedParameter, Method, parameters_of, classes_of, class_facts_at}
use Rattle.pc_rules.specs.Context.{Context}
use Rattle.pc_rules.specs.Signatures.{body_context}
use Rattle.pc_module_rules.specs.Modules.{FunctionLabels, LawfulFunction, FunctionFinds}
use Rattle.pc_value.specs.Value.{Value, whole, boolean, string, none, tuple_of, location}
use Rattle.pc_machine.specs.State as state
use Rattle.pc_machine.specs.State.{Function, Class as MadeClass, Globals}
use Rattle.pc_sound.specs.Values.{HeapTyping, HasType, Extends}
use Rattle.pc_sound.specs.Loaded.{IsOutsideHeap, DefaultHas, DefaultsHave, MadeOf, MethodsAre, ClassIs, IsLoaded}
use Rattle.pc_sound.proofs.Steps.Judgment.{Around}
use Rattle.pc_sound.proofs.Values.ValuesFlow.{later}
use Rattle.pc_sound.proofs.Regular.KeyedLabels.{SuiteKeyed}

module _ (m : Module) where
  -- ---- under other heap typings

  module _ (k k' : HeapTyping) where
    -- a plain value is of its types under each heap typing
    plain_again : (t : Tree) (v : Value) → IsOutsideHeap v → HasType (bases_of m) k t v → HasType (bases_of m) k' t v
    plain_again Any v p h = tt
    plain_again Object v p h = tt
    plain_again Int (whole n) p h = tt
    plain_again Int (boolean b) p h = tt
    plain_again Bool (boolean b) p h = tt
    plain_again Str (string cs) p h = tt
    plain_again NoneType none p h = tt
    plain_again (Union a b) v p (inl h) = inl (plain_again a v p h)
    plain_again (Union a b) v p (inr h) = inr (plain_again b v p h)
    plain_again (Class c) (location l) p h = absurd p
    plain_again (ListOf t) (location l) p h = absurd p
    plain_again (DictOf s t) (location l) p h = absurd p
    plain_again (TupleOf ts) (tuple_of vs) p h = absurd p
    plain_again _ _ p h = absurd h

    default_again : (t : Tree) (b : Test) (v : Option Value) → DefaultHas (bases_of m) k t b v
        → DefaultHas (bases_of m) k' t b v
    default_again t true (Some v) h = (h.0, plain_again t v h.0 h.1)
    default_again t true None h = absurd h
    default_again t false (Some v) h = absurd h
    default_again t false None h = tt

    defaults_again : (ps : List state.FormalParameter) (qs : List TypedParameter) → DefaultsHave (bases_of m) k ps qs
        → DefaultsHave (bases_of m) k' ps qs
    defaults_again [] [] h = tt
    defaults_again [] (q ∷ qs) h = absurd h
    defaults_again (p ∷ ps) [] h = absurd h
    defaults_again (p ∷ ps) (q ∷ qs) h =
        (h.0, (default_again q.type q.has_default p.default h.1.0, defaults_again ps qs h.1.1))

    pub made_again : (f : Function) (d : FuncDef) → MadeOf m k f d → MadeOf m k' f d
    made_again f d h = record {
      name = h.name;
      body = h.body;
      parameters = defaults_again f.parameters
          (parameters_of m d.params) h.parameters;
    }

    methods_again : (fs : List Function) (qs : List Method) → MethodsAre m k fs qs → MethodsAre m k' fs qs
    methods_again [] [] h = tt
    methods_again [] (q ∷ qs) h = absurd h
    methods_again (f ∷ fs) [] h = absurd h
    methods_again (f ∷ fs) (q ∷ qs) h = (
      record {
        def = h.0.def;
        at = h.0.at;
        made = made_again f h.0.def h.0.made;
        name = h.0.name;
        place = h.0.place;
        parameters = h.0.parameters;
        returns = h.0.returns;
      },
      methods_again fs qs h.1,
    )

    pub class_again : (made : List MadeClass) (c : ℕ) → ClassIs m k made c → ClassIs m k' made c
    class_again made c h = record {
      class = h.class;
      is = h.is;
      fields = defaults_again h.class.fields
          (class_facts_at (classes_of m) c).fields h.fields;
      methods = methods_again h.class.methods
          (class_facts_at (classes_of m) c).methods h.methods;
      ancestors = h.ancestors;
    }

  module _ {k k' : HeapTyping} (grows : Extends k k') where
    pub defaults_later : (ps : List state.FormalParameter) (qs : List TypedParameter) → DefaultsHave (bases_of m) k ps qs
        → DefaultsHave (bases_of m) k' ps qs
    defaults_later ps qs h = defaults_again k k' ps qs h

    pub made_later : (f : Function) (d : FuncDef) → MadeOf m k f d → MadeOf m k' f d
    made_later f d h = made_again k k' f d h

    pub class_later : (made : List MadeClass) (c : ℕ) → ClassIs m k made c → ClassIs m k' made c
    class_later made c h = class_again k k' made c h

  pub world_later : (constants : List Tree) (k k' : HeapTyping) (made : List MadeClass) (globals : Globals)
      → Extends k k'
      → IsLoaded m constants k made globals → IsLoaded m constants k' made globals
  world_later constants k k' made globals grows w = record {
    constant = λ word i t r e. let c = w.constant word i t r e in
        record { value = c.value; is = c.is; has = later (bases_of m) grows t c.value c.has };
    function = λ word i d r e. let f = w.function word i d r e in
        record { function = f.function; is = f.is; made = made_later grows f.function d f.made };
    class = w.class;
    classes = λ c t e. class_later grows made c (w.classes c t e);
    reserved = w.reserved;
    no_more = w.no_more;
  }

  module _ (constants : List Tree) (listed : Place → Type 0) where
    -- a function or method of the module with its lawful labels, in which each finding is a listed place
    pub record Labelled (owner : Owner) (d : FuncDef) : Type 0 where
      pub labels : FunctionLabels d
      pub lawful : LawfulFunction m constants owner d labels
      pub covered : (f : Finding) → FunctionFinds m constants owner d labels f → listed f.place
          × (¬ (IsSilentCode f.code))
      pub keyed : SuiteKeyed d.body labels.body
      pub returned : (i : ℕ) → owner ≡ owners.Func i → (c : Code) → labels.completing ≡ Some c → c ≡ E21 → ⊥
      pub in_loops : (p : Place) → Contains (loose_in d.body) p → ⊥
      pub free : (word : List ℕ) → is_one_of word (entry_texts owner d ++ texts (bound_by d.body)) ≡ true
          → is_builtin_name word ≡ false

    -- the surroundings of the body
    abbrev pub around_of : (owner : Owner) (d : FuncDef) → Labelled owner d → Around
    around_of owner d lab = record {
      bases = bases_of m;
      classes = classes_of m;
      names = locals owner d;
      declared = lab.labels.declared;
      listed = listed;
      outside = IsLoaded m constants;
      stays = λ k k' made globals grows w. world_later constants k k' made globals grows w;
    }

    abbrev pub context_of : (owner : Owner) (d : FuncDef) → Context
    context_of owner d = body_context m constants (locals owner d)
