-- Calls from outside of a module without silent errors: of its functions, its classes and the methods of its objects.
use Rattle.std.proofs.Common.{◌≡◌, ℕ, List, [], refl, sym, ap, ◌∙◌, subst, inl, inr, arith, Contains}
use Rattle.std.specs.Prelude.{◌⊎◌, Some, None, slice_get}
use Rattle.std.proofs.lemmas.Option.{none-some, same_Some}
use Rattle.pc_source.specs.declared.place.Place.{Place}
use Rattle.pc_tree.specs.Tree.{FuncDef, Module}
use Rattle.pc_scope.specs.declared.resolution.Owner.TheVariants as owners
use Rattle.pc_scope.specs.declared.resolution.NameMeaning.TheVariants as meaning
use Rattle.pc_scope.specs.Bindings.{functions_in, classes_in}
use Rattle.pc_scope.specs.Resolution.{resolve_in_module}
use Rattle.pc_types.specs.Tree.{Tree}
use Rattle.pc_types.specs.Tree as tree
use Rattle.pc_class.specs.Bases.{bases_of}
use Rattle.pc_class.specs.Facts.{Method, parameters_of, return_type, classes_of, class_facts_at}
use Rattle.pc_module_rules.specs.Modules.{Labelling, IsLawful, constant_types}
use Rattle.pc_value.specs.Value.{Value, Out}
use Rattle.pc_machine.specs.State.{State, Function, GlobalBinding, a_function}
use Rattle.pc_machine.specs.Names.{local_by_name}
use Rattle.pc_machine.specs.Calls.{Callee, calls_function, calls_class, calls_method, NamedValue}
use Rattle.pc_machine.specs.Calls.{bound_arguments}
use Rattle.pc_machine.specs.Free.{Step, free}
use Rattle.pc_machine.specs.Evaluation.{steps, call_callee}
use Rattle.pc_sound.specs.Values.{HeapTyping, HasType}
use Rattle.pc_sound.specs.Loaded.{DefaultsHave, MadeOf, IsLoaded}
use Rattle.pc_sound.specs.Arguments.{Suits}
use Rattle.pc_sound.specs.OutsideCalls.{IsReadyForCalls, of_function, of_class, of_method, EndsAsPromised}
use Rattle.pc_sound.specs.OutsideCalls.{CallIsSound, CallsAreSound}
use Rattle.pc_sound.specs.Silent.{HasNoSilentError}
use Rattle.pc_sound.specs.Sound.{HasEvaluatedListed}
use Rattle.pc_sound.proofs.Steps.Judgment.{HasListed, Around, IsWellTyped, KeepsState}
use Rattle.pc_sound.proofs.Steps.NestedSteps.{all_good}
use Rattle.pc_sound.proofs.Values.ValuesFlow.{later}
use Rattle.pc_sound.proofs.Calls.FilledParameters.{Filled}
use Rattle.pc_sound.proofs.Calls.LabelledArguments.{suited_bound}
use Rattle.pc_sound.proofs.Calls.SuitedCalls.{Caller, parameters_later, suits_later, function_call_safe}
use Rattle.pc_sound.proofs.Calls.SuitedCalls.{class_call_safe}
use Rattle.pc_sound.proofs.Calls.RunTimeMethods.{FoundMethod, method_found, override_call_safe}
use Rattle.pc_sound.proofs.Calls.BodyCalls.{Facts}
use Rattle.pc_sound.proofs.Modules.MainWorld.{defaults_later, world_later}
use Rattle.pc_sound.proofs.Modules.ModuleNames.{class_named}
use Rattle.pc_sound.proofs.Modules.Inheritance.{inherits}
use Rattle.pc_sound.proofs.Modules.WholeModule.{IsListedPlace, bodies, of_function as body_of}
use Rattle.pc_sound.proofs.Modules.Premises.{facts, premises}
use Rattle.pc_sound.proofs.Modules.Soundness.{left_of}

-- the function that a name is bound to
abbrev function_or : Function → GlobalBinding → Function
function_or f (a_function g) = g
function_or f b = f

same_function : (f g : Function) → a_function f ≡ a_function g → f ≡ g
same_function f g e = ap (function_or f) e

module _ (m : Module) (labels : Labelling m) (lawful : IsLawful m labels) (clean : HasNoSilentError m) where
  abbrev Facts_of : Facts m (constant_types m m.items labels) (IsListedPlace m)
  Facts_of = facts m labels lawful clean (left_of m labels lawful clean)

  -- other code that calls has no locals of the module
  abbrev Outside : Around
  Outside = Caller m (inherits m) (IsListedPlace m) [] [] (IsLoaded m (constant_types m m.items labels))
      (λ k k' made globals grows w. world_later m (constant_types m m.items labels) k k' made globals grows w)

  module _ (k : HeapTyping) (s : State) (ready : IsReadyForCalls m labels k s) where
    stands : IsWellTyped Outside [] k s
    stands = record {
      well = ready.well;
      frame = record {
        held = λ word x is. absurd (none-some _ is);
        others = λ word is. subst (λ fr. local_by_name word fr ≡ None) (sym ready.no_frame) refl;
      };
      locals = record { each = λ word x u is c. absurd (none-some _ is) };
      outside = ready.loaded;
    }

    promised : (gives : Tree) (out : Out Value) (after : State)
        → KeepsState Outside (λ j v. HasType (bases_of m) j gives v) k s out after
        → EndsAsPromised m labels k s gives out after
    promised gives out after h = record {
      typing = h.typing;
      grows = h.grows;
      ready = record {
        well = h.well;
        loaded = subst (λ c. IsLoaded m (constant_types m m.items labels) h.typing c after.globals)
            (sym h.same_classes)
            (subst (λ g. IsLoaded m (constant_types m m.items labels) h.typing s.classes g) (sym h.same_globals)
            (world_later m (constant_types m m.items labels) k h.typing s.classes s.globals h.grows ready.loaded));
        no_frame = h.same_frame ∙ ready.no_frame;
      };
      same_globals = h.same_globals;
      same_classes = h.same_classes;
      ends = h.ends;
    }

    told : (gives : Tree) (events : List Place) (out : Out Value) (after : State)
        → HasListed (IsListedPlace m) events ⊎ KeepsState Outside (λ j v. HasType (bases_of m) j gives v) k s out after
        → HasEvaluatedListed m events ⊎ EndsAsPromised m labels k s gives out after
    told gives events out after (inl h) = inl (record {
      finding = h.is.finding;
      found = h.is.found;
      event = subst (λ p. Contains events p) (sym h.is.at) h.event;
    })
    told gives events out after (inr h) = inr (promised gives out after h)

    module _ (values : List Value) (named : List NamedValue) (n : ℕ) (events : List Place) (out : Out Value)
        (after : State) where
      -- a call of the callee with arguments of these types ends as promised, or a listed place was evaluated
      abbrev Ends : Callee → Tree → Type 0
      Ends callee gives = call_callee Step free (steps Step free n) callee values named s events out after
          → HasEvaluatedListed m events ⊎ EndsAsPromised m labels k s gives out after

      function_called : (i : ℕ) (d : FuncDef) → slice_get (functions_in m.items) i ≡ Some d → (f : Function)
          → MadeOf m k f d → Suits (bases_of m) k (parameters_of m d.params) values named
          → Ends (calls_function f) (return_type m d)
      function_called i d e f made suit r =
          let lab = Facts_of.labelled (owners.Func i) d e in
          told (return_type m d) events out after
          ((function_call_safe m (inherits m) (IsListedPlace m) [] [] (IsLoaded m (constant_types m m.items labels))
          (λ k k' made globals grows w. world_later m (constant_types m m.items labels) k k' made globals grows w)
          (steps Step free n) [] (λ j. Filled (bases_of m) j (parameters_of m d.params)
          (bound_arguments f.parameters values named)) (λ j j' x h. record {
            locals = h.locals;
            is = h.is;
            have = parameters_later (bases_of m) j j' (parameters_of m d.params) h.locals x h.have;
          }) (constant_types m m.items labels) (λ j made globals w. w) i d lab
          ((all_good m (bodies m labels) (premises m labels lawful clean (left_of m labels lawful clean)).forms
          n).exec (body_of (owners.Func i) d lab)) f values named made.body (λ j h. h)).run k s after events out
          (suited_bound (bases_of m) k f.parameters (parameters_of m d.params) values named made.parameters suit)
          stands r)

      class_called : (word : List ℕ) (c : ℕ) → resolve_in_module m word ≡ meaning.Class c
          → Suits (bases_of m) k (class_facts_at (classes_of m) c).fields values named
          → Ends (calls_class c) (tree.Class c)
      class_called word c means suit r =
          let h = class_named m word c means in
          let b = h.behind in
          let at : c ≡ h.at = omega arith in
          told (tree.Class c) events out after
          ((class_call_safe m (inherits m) (IsListedPlace m) [] [] (IsLoaded m (constant_types m m.items labels))
          (λ k k' made globals grows w. world_later m (constant_types m m.items labels) k k' made globals grows w)
          (steps Step free n) [] (λ j. Suits (bases_of m) j (class_facts_at (classes_of m) c).fields values named)
          (λ j j' x h. suits_later (bases_of m) j j' (class_facts_at (classes_of m) c).fields values named x h) c
          values named
          (λ j made globals w. w.classes c h.class (ap (slice_get (classes_in m.items)) at ∙ h.is))
          (λ j h. h)).run k s after events out suit stands r)

      method_called : (object : Value) (c : ℕ) (word : List ℕ) (old : Method)
          (f : FoundMethod m (IsListedPlace m) k s object word old)
          → Suits (bases_of m) k old.parameters values named → Ends (calls_method object f.function) old.returns
      method_called object c word old f suit r =
          let lab = Facts_of.labelled (owners.Method f.new.owner f.new.number) f.is.def f.is.at in
          told old.returns events out after
          ((override_call_safe m (inherits m) (IsListedPlace m) [] [] (IsLoaded m (constant_types m m.items labels))
          (λ k k' made globals grows w. world_later m (constant_types m m.items labels) k k' made globals grows w)
          (steps Step free n) []
          (λ j. HasType (bases_of m) j (tree.Class f.new.owner) object
          × (DefaultsHave (bases_of m) j f.function.parameters f.new.parameters
          × Suits (bases_of m) j old.parameters values named))
          (λ j j' x h. (
            later (bases_of m) x (tree.Class f.new.owner) object h.0,
            (
              defaults_later m x f.function.parameters f.new.parameters h.1.0,
              suits_later (bases_of m) j j' old.parameters values named x h.1.1,
            ),
          ))
          (constant_types m m.items labels) (λ j made globals w. w) object f.function f.new old f.is.def lab
          ((all_good m (bodies m labels) (premises m labels lawful clean (left_of m labels lawful clean)).forms
          n).exec (body_of (owners.Method f.new.owner f.new.number) f.is.def lab))
          f.is.made.name f.is.made.body f.is.place f.is.parameters f.is.returns f.fits values named
          (λ j h. h)).run k s after events out (
            f.receiver,
            (
              subst (λ ps. DefaultsHave (bases_of m) k f.function.parameters ps) (sym f.is.parameters)
                  f.is.made.parameters,
              suit,
            ),
          )
          stands r)

    -- a call of whatever can be called
    called : CallIsSound m labels k s
    called callee params gives (of_function word i d f means at bound is takes returns) values named suit n events out
        after r =
        let w = ready.loaded.function word i d means at in
        let same : f ≡ w.function = same_function f w.function (same_Some _ _ (sym bound ∙ w.is)) in
        subst (λ t. HasEvaluatedListed m events ⊎ EndsAsPromised m labels k s t out after) (sym returns)
        (function_called values named n events out after i d at f (subst (λ x. MadeOf m k x d) (sym same) w.made)
        (subst (λ ps. Suits (bases_of m) k ps values named) takes suit)
        (subst (λ c. call_callee Step free (steps Step free n) c values named s events out after) is r))
    called callee params gives (of_class word c means is takes returns) values named suit n events out after r =
        subst (λ t. HasEvaluatedListed m events ⊎ EndsAsPromised m labels k s t out after) (sym returns)
        (class_called values named n events out after word c means
        (subst (λ ps. Suits (bases_of m) k ps values named) takes suit)
        (subst (λ c. call_callee Step free (steps Step free n) c values named s events out after) is r))
    called callee params gives (of_method object c word q has at bound takes returns) values named suit n events out
        after r =
        let f = method_found m (constant_types m m.items labels) (IsListedPlace m) Facts_of.dispatched
        Facts_of.owner_above k s c object word q ready.well ready.loaded has at in
        let is : callee ≡ calls_method object f.function = same_Some _ _ (sym bound ∙ f.named) in
        subst (λ t. HasEvaluatedListed m events ⊎ EndsAsPromised m labels k s t out after) (sym returns)
        (method_called values named n events out after object c word q f
        (subst (λ ps. Suits (bases_of m) k ps values named) takes suit)
        (subst (λ c. call_callee Step free (steps Step free n) c values named s events out after) is r))

-- the law of calls from outside
pub calls_are_sound : CallsAreSound
calls_are_sound m clean labels lawful k s ready = called m labels lawful clean k s ready
