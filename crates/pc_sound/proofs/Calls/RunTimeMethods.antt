-- Methods at run time: the method of an object's own class is entered, in place of the one that its type names.
use Rattle.std.proofs.Common.{◌≡◌, ℕ, List, [], ◌∷◌, map, refl, sym, ap, ◌∙◌, subst, inl, inr, arith}
use Rattle.std.specs.Prelude.{◌⊎◌, Bool as Test, true, false, if◌then◌else◌, Option, Some, None, All, IsTrue, slice_get}
use Rattle.std.specs.Prelude.{bytes_eq}
use Rattle.std.proofs.lemmas.List.Elements.{All-head, All-tail}
use Rattle.std.proofs.lemmas.Option.{none-some, same_Some}
use Rattle.pc_source.specs.declared.place.Place.{Place}
use Rattle.pc_tree.specs.Tree.{FuncDef, ClassDef, Module}
use Rattle.pc_scope.specs.declared.resolution.Owner.TheVariants as owners
use Rattle.pc_scope.specs.Bindings.{classes_in}
use Rattle.pc_types.specs.Tree.{Tree}
use Rattle.pc_types.specs.Tree as tree
use Rattle.pc_types.specs.Below.{Below, Static}
use Rattle.pc_class.specs.Bases.{bases_of}
use Rattle.pc_class.specs.Facts.{TypedParameter, Method, parameters_of, return_type, classes_of, class_facts_at}
use Rattle.pc_class.specs.Facts.{class_in, method_by_name}
use Rattle.pc_class.specs.Overrides.{has_shape_of, TypeFlow, parameter_flows, IsStatic}
use Rattle.pc_class.proofs.ClassesBuilt.{no_class_past}
use Rattle.pc_flow.specs.Environment.{Env}
use Rattle.pc_value.specs.Value.{Value, location, seen, class_seen}
use Rattle.pc_value.specs.Texts.{same_text}
use Rattle.pc_machine.specs.State.{State, Function, Class, Globals}
use Rattle.pc_machine.specs.Calls.{calls_method, method_among, method_of_class, callee_of_method, named_method}
use Rattle.pc_machine.specs.Calls.{builtin_method_of, NamedValue, bound_arguments}
use Rattle.pc_machine.specs.Calls as run
use Rattle.pc_machine.specs.Steps.{Parts}
use Rattle.pc_machine.specs.Free.{Step, free}
use Rattle.pc_machine.specs.Evaluation.{call_method}
use Rattle.pc_sound.specs.Values.{HeapTyping, HasType, Extends, IsWell}
use Rattle.pc_sound.specs.Loaded.{DefaultsHave, MethodIs, MethodsAre, IsLoaded}
use Rattle.pc_sound.specs.Arguments.{Suits}
use Rattle.pc_sound.proofs.Steps.Judgment.{IsSafe}
use Rattle.pc_sound.proofs.Lists.{same_text_back}
use Rattle.pc_sound.proofs.Values.ValuesFlow.{of_static}
use Rattle.pc_sound.proofs.Steps.SafeSteps.{Stays, weaken}
use Rattle.pc_sound.proofs.Heap.SeenValues.{sees_instance}
use Rattle.pc_sound.proofs.Heap.Fields.{Inherits}
use Rattle.pc_sound.proofs.Calls.OverridesFit.{IsIn, found_in, Dispatched}
use Rattle.pc_sound.proofs.Statements.WaysOut.{GoodExec}
use Rattle.pc_sound.proofs.Modules.MainWorld.{Labelled, around_of}
use Rattle.pc_sound.proofs.Modules.MainWorld.{context_of}
use Rattle.pc_sound.proofs.Calls.FilledParameters.{Filled}
use Rattle.pc_sound.proofs.Calls.LabelledArguments.{StaticInto, untyped, suits_into, suits_untyped}
use Rattle.pc_sound.proofs.Calls.LabelledArguments.{shape_untyped, static_untyped, defaults_untyped, suited_bound}
use Rattle.pc_sound.proofs.Calls.SuitedCalls.{Caller, method_call_safe, listed_call_safe}

shape_is : {b : Test} → IsTrue b → b ≡ true
shape_is h = h

module _ (m : Module) where
  -- ---- the look-up

  record Among (k : HeapTyping) (word : List ℕ) (fs : List Function) (q : Method) : Type 0 where
    function : Function
    found : method_among word fs ≡ Some function
    is : MethodIs m k function q

  -- a method that the facts have under a name was made of the def that they say
  method_made : (k : HeapTyping) (word : List ℕ) (fs : List Function) (qs : List Method) (q : Method)
      → MethodsAre m k fs qs → method_by_name qs word ≡ Some q → Among k word fs q
  method_made k word [] [] q are e = absurd (grind (arith, e))
  method_made k word [] (p ∷ qs) q are e = absurd are
  method_made k word (f ∷ fs) [] q are e = absurd are
  method_made k word (f ∷ fs) (p ∷ qs) q are e = go (bytes_eq word p.name) refl e (method_made k word fs qs q are.1)
    where
      same_name : f.name.text ≡ p.name
      same_name = ap (λ n. n.text) are.0.made.name ∙ sym are.0.name

      test : (b : Test) → bytes_eq word p.name ≡ b → same_text f.name.text word ≡ b
      test b t = ap (λ n. bytes_eq n word) same_name ∙ same_text_back p.name word ∙ t

      go : (b : Test) → bytes_eq word p.name ≡ b → (if b then Some p else method_by_name qs word) ≡ Some q
          → (method_by_name qs word ≡ Some q → Among k word fs q) → Among k word (f ∷ fs) q
      go true t e others = record {
        function = f;
        found = ap (λ b. if b then Some f else method_among word fs)
            (test true t);
        is = subst (λ x. MethodIs m k f x) (same_Some _ _ e) are.0;
      }
      go false t e others = let o = others e in record {
        function = o.function;
        found =
            ap (λ b. if b then Some f else method_among word fs) (test false t) ∙ o.found;
        is = o.is;
      }

  -- the method that an object's class has, where its type names one
  pub record FoundMethod (listed : Place → Type 0) (k : HeapTyping) (s : State) (v : Value) (word : List ℕ)
      (old : Method) : Type 0 where
    pub new : Method
    pub function : Function
    pub named : named_method s v word ≡ Some (calls_method v function)
    pub is : MethodIs m k function new
    pub fits : IsStatic (bases_of m) new old ⊎ (IsTrue (has_shape_of old.parameters new.parameters) × listed new.place)
    pub receiver : HasType (bases_of m) k (tree.Class new.owner) v

  module _ (constants : List Tree) (listed : Place → Type 0) (dispatched : (d c : ℕ)
      → Below (bases_of m) (tree.Class d) (tree.Class c) → (word : List ℕ) (old : Method)
      → method_by_name (class_facts_at (classes_of m) c).methods word ≡ Some old → Dispatched m listed d word old)
      (owner_above : (c : ℕ) (q : Method) → IsIn (class_facts_at (classes_of m) c).methods q
      → Below (bases_of m) (tree.Class c) (tree.Class q.owner)) where
    class_known : (d : ℕ) (word : List ℕ) (q : Method) → method_by_name (class_facts_at (classes_of m) d).methods word
        ≡ Some q → (o : Option ClassDef) → slice_get (classes_in m.items) d ≡ o → (t : ClassDef)
        × (slice_get (classes_in m.items) d ≡ Some t)
    class_known d word q e (Some t) is = (t, is)
    class_known d word q e None is =
        absurd (none-some _ (sym (ap (λ c. method_by_name (class_in c).methods word) (no_class_past m d is)) ∙ e))

    -- an object whose type names a method has one by that name
    pub method_found : (k : HeapTyping) (s : State) (c : ℕ) (v : Value) (word : List ℕ) (old : Method)
        → IsWell (bases_of m) (classes_of m) k s.heap → IsLoaded m constants k s.classes s.globals
        → HasType (bases_of m) k (tree.Class c) v → method_by_name (class_facts_at (classes_of m) c).methods word
        ≡ Some old → FoundMethod listed k s v word old
    method_found k s c (location l) word old well world h e =
        let i = sees_instance (bases_of m) (classes_of m) k s.heap well l c h in
        let d = dispatched i.class c i.below word old e in
        let t = class_known i.class word d.new d.is (slice_get (classes_in m.items) i.class) refl in
        let made = world.classes i.class t.0 t.1 in
        let f = method_made k word made.class.methods (class_facts_at (classes_of m) i.class).methods d.new made.methods
        d.is in
        let own : run.method_of s (location l) word ≡ Some f.function =
        ap (λ x. method_of_class word (run.class_at s.classes (class_seen x))) i.seen_as
        ∙ ap (method_of_class word) made.is ∙ f.found in
        record {
          new = d.new;
          function = f.function;
          named = ap (λ o. callee_of_method (location l) o (builtin_method_of (seen s.heap (location l)) word)) own;
          is = f.is;
          fits = d.fits;
          receiver = record {
            class = i.class;
            is = i.recorded;
            below =
                owner_above i.class d.new (found_in (class_facts_at (classes_of m) i.class).methods word d.new d.is).0;
          };
        }
    method_found k s c _ word old well world h e = absurd h

  -- ---- the call

  static_into : (ps qs : List TypedParameter) → All (λ (f : TypeFlow). Static (bases_of m) f.from f.into)
      (parameter_flows ps qs) → (k : HeapTyping) → StaticInto (bases_of m) k ps qs
  static_into [] qs h k = tt
  static_into (p ∷ ps) [] h k = tt
  static_into (p ∷ ps) (q ∷ qs) h k = (
    All-head (λ (f : TypeFlow). Static (bases_of m) f.from f.into)
        (record { from = p.type; into = q.type }) (parameter_flows ps qs) h,
    static_into ps qs (All-tail (λ (f : TypeFlow). Static (bases_of m) f.from f.into)
        (record { from = p.type; into = q.type }) (parameter_flows ps qs) h) k,
  )

  module _ (inherits : Inherits (bases_of m) (classes_of m)) (listed : Place → Type 0) (names : List (List ℕ))
      (declared : List Tree) (outside : HeapTyping → List Class → Globals → Type 0)
      (outside_stays : (k k' : HeapTyping) (made : List Class) (globals : Globals) → Extends k k'
      → outside k made globals → outside k' made globals) (parts : Parts Step) (env : Env) (known : HeapTyping → Type 0)
      (stays : Stays known) (constants : List Tree) (world : (k : HeapTyping) (made : List Class) (globals : Globals)
      → outside k made globals → IsLoaded m constants k made globals) where
    -- a method that is entered in place of another one, with arguments that suit that one
    pub override_call_safe : (v : Value) (f : Function) (new old : Method) (d : FuncDef)
        (lab : Labelled m constants listed (owners.Method new.owner new.number) d)
        → GoodExec (around_of m constants listed (owners.Method new.owner new.number) d lab)
        (context_of m constants listed (owners.Method new.owner new.number) d) m (return_type m d) parts.exec
        → f.name ≡ d.name → f.body ≡ d.body → new.place ≡ d.name.place → new.parameters ≡ parameters_of m d.params
        → new.returns ≡ return_type m d
        → IsStatic (bases_of m) new old ⊎ (IsTrue (has_shape_of old.parameters new.parameters) × listed new.place)
        → (values : List Value) (more : List NamedValue)
        → ((k : HeapTyping) → known k → HasType (bases_of m) k (tree.Class new.owner) v
        × (DefaultsHave (bases_of m) k f.parameters new.parameters × Suits (bases_of m) k old.parameters values
        more))
        → IsSafe (Caller m inherits listed names declared outside outside_stays) env known
        (call_method Step free parts v f values more) (λ k w. HasType (bases_of m) k old.returns w)
    override_call_safe v f new old d lab good same_name body place params returns (inl fits) values more h =
        weaken (Caller m inherits listed names declared outside outside_stays) env known known _
        (λ k w. HasType (bases_of m) k (return_type m d) w) _ (λ k x. x)
        (λ k w x. of_static (bases_of m) k new.returns old.returns
        (All-head (λ (f : TypeFlow). Static (bases_of m) f.from f.into)
        (record { from = new.returns; into = old.returns }) (parameter_flows old.parameters new.parameters)
        fits.flows) w (subst (λ t. HasType (bases_of m) k t w) (sym returns) x))
        (method_call_safe m inherits listed names declared outside outside_stays parts env known stays constants world
        new.owner new.number d lab good v f values more same_name body
        λ k x. (
          (h k x).0,
          subst (λ ps. Filled (bases_of m) k ps (bound_arguments f.parameters values more)) params
              (suited_bound (bases_of m) k f.parameters new.parameters values more (h k x).1.0
              (suits_into (bases_of m) k old.parameters new.parameters values more (shape_is fits.shape)
              (static_into old.parameters new.parameters (All-tail
              (λ (f : TypeFlow). Static (bases_of m) f.from f.into)
              (record { from = new.returns; into = old.returns }) (parameter_flows old.parameters new.parameters)
              fits.flows) k) (h k x).1.1)),
        ))
    override_call_safe v f new old d lab good same_name body place params returns (inr fits) values more h =
        listed_call_safe m inherits listed names declared outside outside_stays parts env known stays v f values more
        (map (untyped (bases_of m) []) new.parameters) _ (subst listed (place ∙ ap (λ n. n.place) (sym same_name))
        fits.1)
        λ k x. suited_bound (bases_of m) k f.parameters (map (untyped (bases_of m) []) new.parameters) values more
        (defaults_untyped (bases_of m) k f.parameters new.parameters (h k x).1.0)
        (suits_into (bases_of m) k (map (untyped (bases_of m) []) old.parameters)
        (map (untyped (bases_of m) []) new.parameters) values more
        (shape_untyped (bases_of m) k old.parameters new.parameters (shape_is fits.0))
        (static_untyped (bases_of m) k old.parameters new.parameters)
        (suits_untyped (bases_of m) k old.parameters values more (h k x).1.1))
