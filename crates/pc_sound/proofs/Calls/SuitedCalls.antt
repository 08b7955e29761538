-- Calls of functions, methods and classes with arguments that match them.
use Rattle.std.proofs.Common.{◌≡◌, ℕ, List, [], ◌∷◌, ◌++◌, map, refl, sym, ap, ◌∙◌, subst, inl, inr, arith, Contains}
use Rattle.std.specs.Prelude.{◌⊎◌, Option, Some, None}
use Rattle.std.proofs.lemmas.List.Elements.{Contains-append_left}
use Rattle.std.proofs.lemmas.Option.{same_Some, none-some}
use Rattle.pc_source.specs.declared.place.Place.{Place}
use Rattle.pc_tree.specs.declared.code.Code.{Code}
use Rattle.pc_tree.specs.Tree.{Param, FuncDef, Module}
use Rattle.pc_scope.specs.declared.resolution.Owner.TheVariants as owners
use Rattle.pc_scope.specs.Bindings.{texts, param_names}
use Rattle.pc_scope.specs.Resolution.{receiver}
use Rattle.pc_types.specs.Tree.{Tree}
use Rattle.pc_types.specs.Tree as tree
use Rattle.pc_types.specs.Below.{Bases}
use Rattle.pc_class.specs.Bases.{bases_of}
use Rattle.pc_class.specs.Facts.{TypedParameter, parameters_of, return_type, classes_of, class_facts_at}
use Rattle.pc_flow.specs.Environment.{Env}
use Rattle.pc_value.specs.Value.{Value, Out, Gives}
use Rattle.pc_value.specs.Actions as action
use Rattle.pc_machine.specs.State.{State, Frame, Local, Function, Class, Globals}
use Rattle.pc_machine.specs.Names.{frame_of}
use Rattle.pc_machine.specs.Calls.{NamedValue, value_named, bound_arguments, or_type_error, slot_before, slots_of}
use Rattle.pc_machine.specs.Calls.{class_at as made_at}
use Rattle.pc_machine.specs.Steps.{Parts, StatementEnd}
use Rattle.pc_machine.specs.Free.{Step, ◌>>=◌, Emits, enter, free}
use Rattle.pc_machine.specs.Evaluation.{call_function, call_method, call_class, value_of_flow, self_local, fields_of}
use Rattle.pc_sound.specs.Values.{HeapTyping, HasType, Extends, SlotsHave, IsWell}
use Rattle.pc_sound.specs.Ends.{EndsWell}
use Rattle.pc_sound.specs.Loaded.{DefaultsHave, ClassIs, IsLoaded}
use Rattle.pc_sound.specs.Arguments.{TakesNamed, Fills, Suits}
use Rattle.pc_sound.proofs.Steps.Judgment.{HasListed, Around, IsWellTyped, KeepsState, IsSafe, Leads}
use Rattle.pc_sound.proofs.Steps.Judgment.{FlowEnds}
use Rattle.pc_sound.proofs.Values.ValuesFlow.{later, extends_refl}
use Rattle.pc_sound.proofs.Steps.SafeSteps.{Stays, bind_safe, comes_safe, looks_safe, ended, goes_well}
use Rattle.pc_sound.proofs.Steps.LeadingSteps.{Known, leads_bind}
use Rattle.pc_sound.proofs.Heap.HeapActions.{acting_safe}
use Rattle.pc_sound.proofs.Heap.Fields.{Inherits, instance_keeps}
use Rattle.pc_sound.proofs.Statements.WaysOut.{GoodExec}
use Rattle.pc_sound.proofs.Calls.EntryFrames.{ParametersHave}
use Rattle.pc_sound.proofs.Modules.MainWorld.{defaults_later, Labelled, around_of}
use Rattle.pc_sound.proofs.Modules.MainWorld.{context_of}
use Rattle.pc_sound.proofs.Calls.FilledParameters.{Filled}
use Rattle.pc_sound.proofs.Calls.LabelledArguments.{suited_bound}
use Rattle.pc_sound.proofs.Calls.EnteredFunctions.{enter_safe, entry, body_ways, entry_stands, body_leads}
use Rattle.pc_sound.proofs.Calls.EnteredFunctions.{gives_returned, completing_listed}

-- ---- arguments that are bound

pub parameters_later : (bases : Bases) (k k' : HeapTyping) (ps : List TypedParameter) (ls : List Local) → Extends k k'
    → ParametersHave bases k ps ls → ParametersHave bases k' ps ls
parameters_later bases k k' [] [] x h = tt
parameters_later bases k k' [] (l ∷ ls) x h = absurd h
parameters_later bases k k' (p ∷ ps) [] x h = absurd h
parameters_later bases k k' (p ∷ ps) (l ∷ ls) x h = (
  record { value = h.0.value; is = h.0.is; same = h.0.same; has = later bases x p.type h.0.value h.0.has },
  parameters_later bases k k' ps ls x h.1,
)

takes_later : (bases : Bases) (k k' : HeapTyping) (p : TypedParameter) (o : Option Value) → Extends k k'
    → TakesNamed bases k p o → TakesNamed bases k' p o
takes_later bases k k' p (Some w) x h = later bases x p.type w h
takes_later bases k k' p None x h = h

fills_later : (bases : Bases) (k k' : HeapTyping) (ps : List TypedParameter) (vs : List Value)
    (named : List NamedValue) → Extends k k' → Fills bases k ps vs named → Fills bases k' ps vs named
fills_later bases k k' [] [] named x h = h
fills_later bases k k' [] (v ∷ vs) named x h = h
fills_later bases k k' (p ∷ ps) (v ∷ vs) named x h =
    (later bases x p.type v h.0, (h.1.0, fills_later bases k k' ps vs named x h.1.1))
fills_later bases k k' (p ∷ ps) [] named x h =
    (takes_later bases k k' p (value_named p.name named) x h.0, fills_later bases k k' ps [] named x h.1)

-- arguments that suit still do when the heap typing grows
pub suits_later : (bases : Bases) (k k' : HeapTyping) (ps : List TypedParameter) (vs : List Value)
    (named : List NamedValue) → Extends k k' → Suits bases k ps vs named → Suits bases k' ps vs named
suits_later bases k k' ps vs named x h = record {
  fills = fills_later bases k k' ps vs named x h.fills;
  all_for = h.all_for;
}

suited_ends : (bases : Bases) (k : HeapTyping) (ps : List TypedParameter) (o : Option (List Local))
    → Filled bases k ps o → EndsWell (λ ls. ParametersHave bases k ps ls) (or_type_error o)
suited_ends bases k ps o h = subst (λ x. EndsWell (λ ls. ParametersHave bases k ps ls) (or_type_error x)) (sym h.is)
    h.have

slots_have : (bases : Bases) (k : HeapTyping) (ps : List TypedParameter) (ls : List Local)
    → ParametersHave bases k ps ls → SlotsHave bases k ps (slots_of ls)
slots_have bases k [] [] h = tt
slots_have bases k [] (l ∷ ls) h = absurd h
slots_have bases k (p ∷ ps) [] h = absurd h
slots_have bases k (p ∷ ps) (l ∷ ls) h = go l.value h.0.is (slots_have bases k ps ls h.1)
  where
    go : (o : Option Value) → o ≡ Some h.0.value → SlotsHave bases k ps (slots_of ls)
        → SlotsHave bases k (p ∷ ps) (slot_before l.name o (slots_of ls))
    go None e others = absurd (grind (arith, e))
    go (Some v) e others = (h.0.same, subst (λ x. HasType bases k p.type x) (sym (same_Some _ _ e)) h.0.has, others)

parameter_texts : (m : Module) (ps : List Param) → map (λ (p : TypedParameter). p.name) (parameters_of m ps)
    ≡ texts (param_names ps)
parameter_texts m [] = refl
parameter_texts m (p ∷ ps) = ap (λ ts. p.name.text ∷ ts) (parameter_texts m ps)

-- a place is evaluated, and the state stays
pub leads_emits : (around : Around) (before : Known) (p : Place) → Leads around before (Emits p) (λ k u s. before k s)
leads_emits around before p = record {
  run = λ k s s' events out well b r. inr (record {
    typing = k;
    grows = extends_refl k;
    well = subst (λ x. IsWell around.bases around.classes k x.heap) (sym r.same) well;
    same_globals = ap (λ x. x.globals) r.same;
    same_classes = ap (λ x. x.classes) r.same;
    ends = goes_well (λ u. before k s') out r.goes_on (subst (λ x. before k x) (sym r.same) b);
  });
}

-- a body that begins with a listed place evaluates it
pub enter_listed : (around : Around) (env : Env) (known : HeapTyping → Type 0) (frame : Frame) (p : Place)
    (body : Step StatementEnd) (P : HeapTyping → StatementEnd → Type 0) → around.listed p
    → IsSafe around env known (enter frame (Emits p >>= λ u. body)) P
enter_listed around env known frame p body P here = record { run = go }
  where
    first : (s s' : State) (events : List Place) (out : Out StatementEnd) → (Emits p >>= λ u. body) s events out s'
        → Contains events p
    first s s' events out (inl w) = subst (λ l. Contains l p) (sym w.both)
        (Contains-append_left w.early w.late p (subst (λ l. Contains l p) (sym w.before.event) (0, omega arith, refl)))
    first s s' events out (inr w) = subst (λ l. Contains l p) (sym w.before.event) (0, omega arith, refl)

    go : (k : HeapTyping) (s s' : State) (events : List Place) (out : Out StatementEnd) → known k
        → IsWellTyped around env k s → enter frame (Emits p >>= λ u. body) s events out s'
        → HasListed around.listed events ⊎ KeepsState around P k s out s'
    go k s s' events out knows st (inl e) =
        inl (record { place = p; is = here; event = first (record s { frame = frame }) e.left events out e.runs })
    go k s s' events out knows st (inr e) = inr (ended around env P k s s' events out st e)

module _ (m : Module) (inherits : Inherits (bases_of m) (classes_of m)) (listed : Place → Type 0)
    (names : List (List ℕ)) (declared : List Tree) (outside : HeapTyping → List Class → Globals → Type 0)
    (outside_stays : (k k' : HeapTyping) (made : List Class) (globals : Globals) → Extends k k' → outside k made globals
    → outside k' made globals) where
  -- the surroundings of a caller
  abbrev pub Caller : Around
  Caller = record {
    bases = bases_of m;
    classes = classes_of m;
    names = names;
    declared = declared;
    listed = listed;
    outside = outside;
    stays = outside_stays;
  }

  module _ (parts : Parts Step) (env : Env) (known : HeapTyping → Type 0) (stays : Stays known) where
    -- ---- classes

    -- a class makes an instance, its fields from the arguments
    pub class_call_safe : (c : ℕ) (values : List Value) (named : List NamedValue)
        → ((k : HeapTyping) (made : List Class) (globals : Globals) → outside k made globals → ClassIs m k made c)
        → ((k : HeapTyping) → known k → Suits (bases_of m) k (class_facts_at (classes_of m) c).fields values named)
        → IsSafe Caller env known (call_class Step free c values named) (λ k v. HasType (bases_of m) k (tree.Class c) v)
    class_call_safe c values named made suit =
        bind_safe Caller env known _ _ (λ k fields. DefaultsHave (bases_of m) k fields
        (class_facts_at (classes_of m) c).fields) _ stays
        (looks_safe Caller env known (λ s. Gives (fields_of (made_at s.classes (Some c)))) _ λ k s h st. let i =
        made k s.classes s.globals st.outside in subst (λ o. DefaultsHave (bases_of m) k (fields_of o)
        (class_facts_at (classes_of m) c).fields) (sym i.is) i.fields)
        λ fields. bind_safe Caller env _ _ _ (λ k ls. ParametersHave (bases_of m) k
        (class_facts_at (classes_of m) c).fields ls) _ (λ k k' x h.
        (stays k k' x h.0, defaults_later m x fields (class_facts_at (classes_of m) c).fields h.1))
        (looks_safe Caller env _ (λ s. or_type_error (bound_arguments fields values named)) _ λ k s h st.
        suited_ends (bases_of m) k (class_facts_at (classes_of m) c).fields (bound_arguments fields values named)
        (suited_bound (bases_of m) k fields (class_facts_at (classes_of m) c).fields values named h.1 (suit k h.0)))
        λ ls. acting_safe Caller env _ (action.new_instance c (slots_of ls)) (tree.Class c) λ f k s h st. instance_keeps
        (bases_of m) (classes_of m) inherits k s.heap st.well c (slots_of ls)
        (slots_have (bases_of m) k (class_facts_at (classes_of m) c).fields ls h.1)

    -- a method whose name's place is listed
    pub listed_call_safe : (object : Value) (f : Function) (values : List Value) (named : List NamedValue)
        (ps : List TypedParameter) (P : HeapTyping → Value → Type 0) → listed f.name.place
        → ((k : HeapTyping) → known k → Filled (bases_of m) k ps (bound_arguments f.parameters values named))
        → IsSafe Caller env known (call_method Step free parts object f values named) P
    listed_call_safe object f values named ps P here fill =
        bind_safe Caller env known _ _ (λ k ls. ParametersHave (bases_of m) k ps ls) _ stays
        (looks_safe Caller env known (λ s. or_type_error (bound_arguments f.parameters values named)) _ λ k s h st.
        suited_ends (bases_of m) k ps (bound_arguments f.parameters values named) (fill k h))
        λ ls. bind_safe Caller env _ _ _ (λ k flow. ⊥) _ (λ k k' x h.
        (stays k k' x h.0, parameters_later (bases_of m) k k' ps ls x h.1))
        (enter_listed Caller env _ (frame_of f (self_local object ∷ ls)) f.name.place (parts.exec f.body) (λ k flow. ⊥)
        here)
        λ flow. comes_safe Caller env _ (Gives (value_of_flow flow)) _ λ k h. absurd h.1

    -- ---- functions

    module _ (constants : List Tree) (world : (k : HeapTyping) (made : List Class) (globals : Globals)
        → outside k made globals → IsLoaded m constants k made globals) where
      -- a function runs from a frame of its own
      pub function_call_safe : (i : ℕ) (d : FuncDef) (lab : Labelled m constants listed (owners.Func i) d)
          → GoodExec (around_of m constants listed (owners.Func i) d lab)
          (context_of m constants listed (owners.Func i) d) m (return_type m d) parts.exec
          → (f : Function) (values : List Value) (named : List NamedValue) → f.body ≡ d.body
          → ((k : HeapTyping) → known k → Filled (bases_of m) k (parameters_of m d.params)
          (bound_arguments f.parameters values named)) → IsSafe Caller env known
          (call_function Step free parts f values named) (λ k v. HasType (bases_of m) k (return_type m d) v)
      function_call_safe i d lab good f values named body fill =
          bind_safe Caller env known _ _ (λ k ls. ParametersHave (bases_of m) k (parameters_of m d.params) ls) _ stays
          (looks_safe Caller env known (λ s. or_type_error (bound_arguments f.parameters values named)) _ λ k s h st.
          suited_ends (bases_of m) k (parameters_of m d.params) (bound_arguments f.parameters values named)
          (fill k h))
          λ ls. bind_safe Caller env _ _ _ (λ k flow. HasType (bases_of m) k (return_type m d) (value_of_flow flow)) _
          (λ k k' x h. (stays k k' x h.0, parameters_later (bases_of m) k k' (parameters_of m d.params) ls x h.1))
          (enter_safe Caller (around_of m constants listed (owners.Func i) d lab) env
          (entry m constants listed (owners.Func i) d lab) _ (frame_of f ls) (parts.exec f.body)
          (body_ways m constants listed (owners.Func i) d lab) _ refl refl refl
          (λ k s h st. entry_stands m constants listed (owners.Func i) d lab k s f ls body h.1
          (parameter_texts m d.params) st.well (world k s.classes s.globals st.outside))
          (subst (λ b. Leads (around_of m constants listed (owners.Func i) d lab)
          (λ k s. IsWellTyped (around_of m constants listed (owners.Func i) d lab)
          (entry m constants listed (owners.Func i) d lab) k s) (parts.exec b)
          (λ k flow s. FlowEnds (around_of m constants listed (owners.Func i) d lab)
          (body_ways m constants listed (owners.Func i) d lab) k flow s)) (sym body)
          (body_leads m constants listed (owners.Func i) d lab parts.exec good))
          (gives_returned m constants listed (owners.Func i) d lab (lab.returned i refl)))
          λ flow. comes_safe Caller env _ (Gives (value_of_flow flow)) _ λ k h. h.1

      -- a call of a method is safe, with its object as `self`; its name's place is evaluated as it is entered
      pub method_call_safe : (c i : ℕ) (d : FuncDef) (lab : Labelled m constants listed (owners.Method c i) d)
          → GoodExec (around_of m constants listed (owners.Method c i) d lab)
          (context_of m constants listed (owners.Method c i) d) m (return_type m d) parts.exec
          → (object : Value) (f : Function) (values : List Value) (named : List NamedValue) → f.name ≡ d.name
          → f.body ≡ d.body → ((k : HeapTyping) → known k → HasType (bases_of m) k (tree.Class c) object
          × Filled (bases_of m) k (parameters_of m d.params) (bound_arguments f.parameters values named))
          → IsSafe Caller env known (call_method Step free parts object f values named)
          (λ k v. HasType (bases_of m) k (return_type m d) v)
      method_call_safe c i d lab good object f values named same_name body fill = by_code lab.labels.completing refl
        where
          by_code : (o : Option Code) → lab.labels.completing ≡ o → IsSafe Caller env known
              (call_method Step free parts object f values named) (λ k v. HasType (bases_of m) k (return_type m d) v)
          by_code (Some code) e = listed_call_safe object f values named (parameters_of m d.params) _
              (subst (λ n. listed n.place) (sym same_name)
              (completing_listed m constants listed (owners.Method c i) d lab code e)) λ k h. (fill k h).1
          by_code None e =
              bind_safe Caller env known _ _ (λ k ls. ParametersHave (bases_of m) k (parameters_of m d.params) ls) _
              stays
              (looks_safe Caller env known (λ s. or_type_error (bound_arguments f.parameters values named)) _
              λ k s h st. suited_ends (bases_of m) k (parameters_of m d.params) (bound_arguments f.parameters values named)
              (fill k h).1)
              λ ls. bind_safe Caller env _ _ _
              (λ k flow. HasType (bases_of m) k (return_type m d) (value_of_flow flow)) _
              (λ k k' x h. (stays k k' x h.0, parameters_later (bases_of m) k k' (parameters_of m d.params) ls x h.1))
              (enter_safe Caller (around_of m constants listed (owners.Method c i) d lab) env
              (entry m constants listed (owners.Method c i) d lab) _ (frame_of f (self_local object ∷ ls))
              (Emits f.name.place >>= λ u. parts.exec f.body) (body_ways m constants listed (owners.Method c i) d lab) _
              refl refl refl
              (λ k s h st. entry_stands m constants listed (owners.Method c i) d lab k s f (self_local object ∷ ls) body
              (record { value = object; is = refl; same = refl; has = (fill k h.0).0 }, h.1)
              (ap (λ ts. receiver (owners.Method c i) ++ ts) (parameter_texts m d.params)) st.well
              (world k s.classes s.globals st.outside))
              (leads_bind (around_of m constants listed (owners.Method c i) d lab) _ _ _
              (λ k u s. IsWellTyped (around_of m constants listed (owners.Method c i) d lab)
              (entry m constants listed (owners.Method c i) d lab) k s) _
              (leads_emits (around_of m constants listed (owners.Method c i) d lab) _ f.name.place)
              λ u. subst (λ b. Leads (around_of m constants listed (owners.Method c i) d lab)
              (λ k s. IsWellTyped (around_of m constants listed (owners.Method c i) d lab)
              (entry m constants listed (owners.Method c i) d lab) k s) (parts.exec b)
              (λ k flow s. FlowEnds (around_of m constants listed (owners.Method c i) d lab)
              (body_ways m constants listed (owners.Method c i) d lab) k flow s)) (sym body)
              (body_leads m constants listed (owners.Method c i) d lab parts.exec good))
              (gives_returned m constants listed (owners.Method c i) d lab
              (λ code x is. absurd (none-some _ (sym e ∙ x)))))
              λ flow. comes_safe Caller env _ (Gives (value_of_flow flow)) _ λ k h. h.1
