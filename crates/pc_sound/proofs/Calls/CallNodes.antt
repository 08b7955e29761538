-- Calls whose callee is the name of a function or of a class, as whole nodes.
use Rattle.std.proofs.Common.{◌≡◌, ℕ, List, [], ◌∷◌, ◌++◌, refl, sym, ap, ◌∙◌, subst, inl}
use Rattle.std.specs.Prelude.{Bool as Test, true, false, if◌then◌else◌}
use Rattle.pc_source.specs.declared.place.Place.{Place}
use Rattle.pc_tree.specs.declared.code.Code.{Code}
use Rattle.pc_tree.specs.declared.code.Code.TheVariants.{E14}
use Rattle.pc_tree.specs.Tree.{Name, Expr, name, Exprs, Keywords, FuncDef, Module}
use Rattle.pc_tree.specs.Depth.{place_of}
use Rattle.pc_scope.specs.declared.resolution.Owner.TheVariants as owners
use Rattle.pc_types.specs.Tree.{Tree}
use Rattle.pc_types.specs.Tree as tree
use Rattle.pc_types.specs.Below.{Bases}
use Rattle.pc_class.specs.Bases.{bases_of}
use Rattle.pc_class.specs.Facts.{parameters_of, return_type, classes_of, class_facts_at}
use Rattle.pc_flow.specs.Environment.{Env}
use Rattle.pc_rules.specs.Operations.{Label}
use Rattle.pc_rules.specs.Context.{Context, Signature}
use Rattle.pc_rules.specs.Signatures.{signature_of}
use Rattle.pc_rules.specs.Calls.{GivenArguments, arguments_given, is_suited, Seat, signature_offer, fails_at_call}
use Rattle.pc_rules.specs.Calls.{class_signature, all_codes, call_label, positional_seat, named_seat}
use Rattle.pc_rules.specs.Labels.{ItemsLabels, KeywordsLabels, ItemsFind, KeywordsFind, IsFoundAt}
use Rattle.pc_rules.specs.Lawful.{LawfulItems, LawfulKeywords}
use Rattle.pc_value.specs.Value.{Value}
use Rattle.pc_machine.specs.State.{State, Function, Class, Globals}
use Rattle.pc_machine.specs.Names.{means_class, means_function, meaning_in_run}
use Rattle.pc_machine.specs.Calls.{Callee, calls_value, calls_function, calls_class, calls_reserved, calls_method}
use Rattle.pc_machine.specs.Calls.{calls_builtin_method, callee_of_meaning, NamedValue}
use Rattle.pc_machine.specs.Steps.{Parts}
use Rattle.pc_machine.specs.Free.{Step, ◌>>=◌, Emits, free}
use Rattle.pc_machine.specs.Evaluation.{eval_callee, eval_all, eval_keywords, call_callee, call_class}
use Rattle.pc_sound.specs.Values.{HeapTyping, HasType, Extends}
use Rattle.pc_sound.specs.Ends.{EndsWell}
use Rattle.pc_sound.specs.Loaded.{MadeOf, ClassIs, IsLoaded}
use Rattle.pc_sound.specs.Arguments.{Suits}
use Rattle.pc_sound.proofs.Steps.Judgment.{Around, IsWellTyped, IsSafe, IsContextOf}
use Rattle.pc_sound.proofs.Lists.{not_empty}
use Rattle.pc_sound.proofs.Steps.SafeSteps.{Stays, bind_safe, looks_safe, emits_safe, may_stop_safe, weaken}
use Rattle.pc_sound.proofs.Regular.KeyedLabels.{ItemsKeyed, KeywordsKeyed}
use Rattle.pc_sound.proofs.Expressions.SimpleExpressions.{Covered, GoodEval}
use Rattle.pc_sound.proofs.Values.Flows.{Evaluates}
use Rattle.pc_sound.proofs.Heap.Fields.{Inherits}
use Rattle.pc_sound.proofs.Calls.Arguments.{arguments_later, keywords_later}
use Rattle.pc_sound.proofs.Calls.OrdinaryCalls.{equal_safe, impossible_safe, KnownCall, ordinary_safe}
use Rattle.pc_sound.proofs.Statements.WaysOut.{GoodExec}
use Rattle.pc_sound.proofs.Modules.MainWorld.{made_later, Labelled, around_of, context_of}
use Rattle.pc_sound.proofs.Calls.FilledParameters.{Distinct}
use Rattle.pc_sound.proofs.Calls.LabelledArguments.{suits, suited_bound}
use Rattle.pc_sound.proofs.Calls.CallOffers.{all_quiet, suited_where_quiet, offered_called, suited_called, suited_gives}
use Rattle.pc_sound.proofs.Calls.CallOffers.{gives_call_type, offer_quiet}
use Rattle.pc_sound.proofs.Calls.SuitedCalls.{Caller, class_call_safe, function_call_safe}

callee_quiet : (g : GivenArguments) (s : Signature) → (signature_offer g s).at_callee ≡ []
callee_quiet g s = go (is_suited g s) refl
  where
    go : (b : Test) → is_suited g s ≡ b → (signature_offer g s).at_callee ≡ []
    go true t = ap (λ b. (if b then record { at_callee = []; at_call = []; gives = s.returns; calls = s ∷ [] }
        else fails_at_call E14).at_callee) t
    go false t = ap (λ b. (if b then record { at_callee = []; at_call = []; gives = s.returns; calls = s ∷ [] }
        else fails_at_call E14).at_callee) t

-- one signature that is called: nothing is found at its callee, and at the call nothing where no code stands there
one_quiet : (g : GivenArguments) (s : Signature) (bases : Bases) (here : Label)
    → here ≡ call_label bases (signature_offer g s ∷ []) → here.codes ≡ [] → all_codes (signature_offer g s ∷ []) ≡ []
one_quiet g s bases here is none = all_quiet (signature_offer g s ∷ []) (λ i. callee_quiet g s i ++ [])
    (ap (λ x. x.codes) (sym is) ∙ none)

module _ (m : Module) (inherits : Inherits (bases_of m) (classes_of m)) (listed : Place → Type 0)
    (names : List (List ℕ)) (declared : List Tree) (outside : HeapTyping → List Class → Globals → Type 0)
    (outside_stays : (k k' : HeapTyping) (made : List Class) (globals : Globals) → Extends k k' → outside k made globals
    → outside k' made globals) where
  abbrev Here : Around
  Here = Caller m inherits listed names declared outside outside_stays

  module _ (ctx : Context) (fits : IsContextOf (Caller m inherits listed names declared outside outside_stays) ctx)
      (parts : Parts Step) (good : GoodEval (Caller m inherits listed names declared outside outside_stays) ctx
      parts.eval) (evaluates : (e : Expr) → Evaluates (place_of e) (parts.eval e)) (env : Env) where
    known_stays : (Q : HeapTyping → Callee → Type 0) → ((c : Callee) → Stays (λ k. Q k c))
        → (seat : ℕ → Seat) (named : List ℕ → Seat) (args : Exprs) (im : ItemsLabels args) (kws : Keywords)
        (km : KeywordsLabels kws) (here : Label) (c : Callee) (values : List Value) (more : List NamedValue)
        → Stays (KnownCall Here ctx fits parts good evaluates env Q seat named args im kws km here c values more)
    known_stays Q stays seat named args im kws km here c values more k k' x h = (
      (
        ((tt, stays c k k' x h.0.0.0.1), arguments_later (bases_of m) x seat args im values h.0.0.1),
        keywords_later (bases_of m) x named [] kws km more h.0.1,
      ),
      h.1,
    )

    -- a call of one signature: it is safe where what is called is, whose parameters the arguments suit
    one_called :
        (p : Place) (n : Name) (args : Exprs) (kws : Keywords) (im : ItemsLabels args) (km : KeywordsLabels kws)
        (here : Label) (s : Signature)
        → here ≡ call_label (bases_of m) (signature_offer (arguments_given args kws) s ∷ []) → Distinct [] s.parameters
        → (Q : HeapTyping → Callee → Type 0) → ((c : Callee) → Stays (λ k. Q k c))
        → ((k : HeapTyping) (st : State) → IsWellTyped Here env k st
        → EndsWell (λ c. Q k c) (callee_of_meaning n.text (meaning_in_run n.text st)))
        → LawfulItems ctx declared env (positional_seat (signature_offer (arguments_given args kws) s ∷ [])) args im
        → LawfulKeywords ctx declared env (named_seat (signature_offer (arguments_given args kws) s ∷ [])) [] kws km
        → Covered Here (ItemsFind args im) → Covered Here (KeywordsFind kws km) → Covered Here (IsFoundAt p here.codes)
        → ItemsKeyed args im → KeywordsKeyed kws km
        → ((known : HeapTyping → Type 0) → Stays known → (c : Callee) (values : List Value) (more : List NamedValue)
        → ((k : HeapTyping) → known k → Q k c × Suits (bases_of m) k s.parameters values more)
        → IsSafe Here env known (call_callee Step free parts c values more)
        (λ k v. HasType (bases_of m) k s.returns v))
        → IsSafe Here env (λ k. Unit {0}) (eval_callee Step free parts (name n) >>= λ c. eval_all Step free parts.eval
        args >>= λ values. eval_keywords Step free parts.eval kws >>= λ more. Emits p >>= λ u. call_callee Step free
        parts c values more) (λ k v. HasType (bases_of m) k here.type v)
    one_called p n args kws im km here s is distinct Q stays means law klaw covered kcovered hcovered keyed kkeyed run =
        ordinary_safe Here ctx fits parts good evaluates env p (eval_callee Step free parts (name n)) Q stays
        (bind_safe Here env _ _ _ (λ k u. Unit {0}) _ (λ k k' x h. tt) (may_stop_safe Here env _)
        λ u. bind_safe Here env _ _ _ (λ k u. [] ≡ []) _ (λ k k' x h. (tt, tt)) (emits_safe Here env _ n.place [] tt)
        λ u. looks_safe Here env _ (λ st. callee_of_meaning n.text (meaning_in_run n.text st)) _ λ k st h stands.
        means k st stands)
        (positional_seat (signature_offer (arguments_given args kws) s ∷ []))
        (named_seat (signature_offer (arguments_given args kws) s ∷ [])) args im kws km here law klaw covered
        kcovered hcovered keyed kkeyed _
        (λ c values more. go c values more here.codes refl)
      where
        go : (c : Callee) (values : List Value) (more : List NamedValue) (codes : List Code) → here.codes ≡ codes
            → IsSafe Here env (KnownCall Here ctx fits parts good evaluates env Q
            (positional_seat (signature_offer (arguments_given args kws) s ∷ []))
            (named_seat (signature_offer (arguments_given args kws) s ∷ [])) args im kws km here c values more)
            (call_callee Step free parts c values more) (λ k v. HasType (bases_of m) k here.type v)
        go c values more (x ∷ xs) e = impossible_safe Here env _ _ _ λ k h. not_empty (sym e ∙ h.1)
        go c values more [] e =
            let quiet = one_quiet (arguments_given args kws) s (bases_of m) here is e in
            let suited = suited_where_quiet (arguments_given args kws) s
            (offer_quiet (signature_offer (arguments_given args kws) s)
            (signature_offer (arguments_given args kws) s ∷ []) (inl refl) quiet).1 in
            let one = offered_called (signature_offer (arguments_given args kws) s) s
            (signature_offer (arguments_given args kws) s ∷ []) (inl refl) quiet
            (suited_called (arguments_given args kws) s suited) in
            weaken Here env _ _ _ (λ k v. HasType (bases_of m) k s.returns v) _ (λ k h. h)
            (λ k v h. subst (λ t. HasType (bases_of m) k t v) (ap (λ x. x.type) (sym is))
            (gives_call_type (bases_of m) fits.smaller k (signature_offer (arguments_given args kws) s)
            (signature_offer (arguments_given args kws) s ∷ []) (inl refl) quiet v
            (subst (λ t. HasType (bases_of m) k t v) (sym (suited_gives (arguments_given args kws) s suited)) h)))
            (run (KnownCall Here ctx fits parts good evaluates env Q
            (positional_seat (signature_offer (arguments_given args kws) s ∷ []))
            (named_seat (signature_offer (arguments_given args kws) s ∷ [])) args im kws km here c values more)
            (known_stays Q stays (positional_seat (signature_offer (arguments_given args kws) s ∷ []))
            (named_seat (signature_offer (arguments_given args kws) s ∷ [])) args im kws km here c values more) c
            values more
            λ k h. (
              h.0.0.0.1,
              suits (bases_of m) k (signature_offer (arguments_given args kws) s ∷ []) s args kws im km
                  values more suited distinct one h.0.0.1 h.0.1,
            ))

    -- ---- classes

    abbrev IsClass : ℕ → HeapTyping → Callee → Type 0
    IsClass c k (calls_class b) = b ≡ c
    IsClass c k _ = ⊥

    class_stays : (c : ℕ) (signature_offer : Callee) → Stays (λ k. IsClass c k signature_offer)
    class_stays c (calls_class b) k k' x h = h
    class_stays c (calls_value v) k k' x h = h
    class_stays c (calls_function f) k k' x h = h
    class_stays c (calls_reserved w) k k' x h = h
    class_stays c (calls_method v f) k k' x h = h
    class_stays c (calls_builtin_method v b) k k' x h = h

    -- a class called by its name
    pub class_node_safe :
        (p : Place) (n : Name) (args : Exprs) (kws : Keywords) (im : ItemsLabels args) (km : KeywordsLabels kws)
        (here : Label) (c : ℕ)
        → ((k : HeapTyping) (st : State) → IsWellTyped Here env k st → meaning_in_run n.text st ≡ means_class c)
        → ((k : HeapTyping) (made : List Class) (globals : Globals) → outside k made globals → ClassIs m k made c)
        → here ≡ call_label (bases_of m) (signature_offer (arguments_given args kws) (class_signature (classes_of m) c)
        ∷ []) → Distinct [] (class_facts_at (classes_of m) c).fields
        → LawfulItems ctx declared env (positional_seat (signature_offer (arguments_given args kws)
        (class_signature (classes_of m) c) ∷ [])) args im → LawfulKeywords ctx declared env
        (named_seat (signature_offer (arguments_given args kws) (class_signature (classes_of m) c) ∷ [])) [] kws km
        → Covered Here (ItemsFind args im) → Covered Here (KeywordsFind kws km) → Covered Here (IsFoundAt p here.codes)
        → ItemsKeyed args im → KeywordsKeyed kws km
        → IsSafe Here env (λ k. Unit {0}) (eval_callee Step free parts (name n) >>= λ c. eval_all Step free parts.eval
        args >>= λ values. eval_keywords Step free parts.eval kws >>= λ more. Emits p >>= λ u. call_callee Step free
        parts c values more) (λ k v. HasType (bases_of m) k here.type v)
    class_node_safe p n args kws im km here c means made is distinct law klaw covered kcovered hcovered keyed kkeyed =
        one_called p n args kws im km here (class_signature (classes_of m) c) is distinct (IsClass c) (class_stays c)
        (λ k st stands. subst (λ x. EndsWell (λ d. IsClass c k d) (callee_of_meaning n.text x))
        (sym (means k st stands)) refl) law klaw covered kcovered hcovered keyed kkeyed run
      where
        run : (known : HeapTyping → Type 0) → Stays known → (d : Callee) (values : List Value) (more : List NamedValue)
            → ((k : HeapTyping) → known k → IsClass c k d × Suits (bases_of m) k
            (class_facts_at (classes_of m) c).fields values more) → IsSafe Here env known
            (call_callee Step free parts d values more) (λ k v. HasType (bases_of m) k (tree.Class c) v)
        run known stays (calls_class b) values more h = equal_safe Here env known
            (λ x. call_class Step free x values more) b c _ (λ k x. (h k x).0)
            (class_call_safe m inherits listed names declared outside outside_stays parts env known stays c values more
            made (λ k x. (h k x).1))
        run known stays (calls_value v) values more h = impossible_safe Here env _ _ _ λ k x. (h k x).0
        run known stays (calls_function f) values more h = impossible_safe Here env _ _ _ λ k x. (h k x).0
        run known stays (calls_reserved w) values more h = impossible_safe Here env _ _ _ λ k x. (h k x).0
        run known stays (calls_method v f) values more h = impossible_safe Here env _ _ _ λ k x. (h k x).0
        run known stays (calls_builtin_method v b) values more h = impossible_safe Here env _ _ _ λ k x. (h k x).0

    -- ---- functions

    abbrev IsFunction : FuncDef → HeapTyping → Callee → Type 0
    IsFunction d k (calls_function f) = MadeOf m k f d
    IsFunction d k _ = ⊥

    function_stays : (d : FuncDef) (c : Callee) → Stays (λ k. IsFunction d k c)
    function_stays d (calls_function f) k k' x h = made_later m x f d h
    function_stays d (calls_class b) k k' x h = h
    function_stays d (calls_value v) k k' x h = h
    function_stays d (calls_reserved w) k k' x h = h
    function_stays d (calls_method v f) k k' x h = h
    function_stays d (calls_builtin_method v b) k k' x h = h

    module _ (constants : List Tree) (world : (k : HeapTyping) (made : List Class) (globals : Globals)
        → outside k made globals → IsLoaded m constants k made globals) where
      -- a function called by its name
      pub function_node_safe :
          (p : Place) (n : Name) (args : Exprs) (kws : Keywords) (im : ItemsLabels args) (km : KeywordsLabels kws)
          (here : Label) (i : ℕ) (d : FuncDef) (lab : Labelled m constants listed (owners.Func i) d)
          → GoodExec (around_of m constants listed (owners.Func i) d lab)
          (context_of m constants listed (owners.Func i) d) m (return_type m d) parts.exec
          → ((k : HeapTyping) (st : State) → IsWellTyped Here env k st → (f : Function)
          × (meaning_in_run n.text st ≡ means_function f) × MadeOf m k f d)
          → here ≡ call_label (bases_of m) (signature_offer (arguments_given args kws) (signature_of m d) ∷ [])
          → Distinct [] (parameters_of m d.params)
          → LawfulItems ctx declared env (positional_seat (signature_offer (arguments_given args kws) (signature_of m d)
          ∷ [])) args im → LawfulKeywords ctx declared env (named_seat
          (signature_offer (arguments_given args kws) (signature_of m d) ∷ [])) [] kws km
          → Covered Here (ItemsFind args im) → Covered Here (KeywordsFind kws km)
          → Covered Here (IsFoundAt p here.codes) → ItemsKeyed args im → KeywordsKeyed kws km
          → IsSafe Here env (λ k. Unit {0}) (eval_callee Step free parts (name n) >>= λ c. eval_all Step free parts.eval
          args >>= λ values. eval_keywords Step free parts.eval kws >>= λ more. Emits p >>= λ u. call_callee Step
          free parts c values more) (λ k v. HasType (bases_of m) k here.type v)
      function_node_safe p n args kws im km here i d lab exec means is distinct law klaw covered kcovered hcovered keyed
          kkeyed =
          one_called p n args kws im km here (signature_of m d) is distinct (IsFunction d) (function_stays d)
          (λ k st stands. let f = means k st stands in subst (λ x. EndsWell (λ c. IsFunction d k c)
          (callee_of_meaning n.text x)) (sym f.1) f.2) law klaw covered kcovered hcovered keyed kkeyed run
        where
          run : (known : HeapTyping → Type 0) → Stays known → (c : Callee) (values : List Value)
              (more : List NamedValue) → ((k : HeapTyping) → known k → IsFunction d k c
              × Suits (bases_of m) k (parameters_of m d.params) values more)
              → IsSafe Here env known (call_callee Step free parts c values more)
              (λ k v. HasType (bases_of m) k (return_type m d) v)
          run known stays (calls_function f) values more h = record {
            run = λ k s s' events out knows st r.
                (function_call_safe m inherits listed names declared outside outside_stays parts env known stays
                constants world i d lab exec f values more (h k knows).0.body
                (λ j x. suited_bound (bases_of m) j f.parameters (parameters_of m d.params) values more
                (h j x).0.parameters (h j x).1)).run k s s' events out knows st r;
          }
          run known stays (calls_class b) values more h = impossible_safe Here env _ _ _ λ k x. (h k x).0
          run known stays (calls_value v) values more h = impossible_safe Here env _ _ _ λ k x. (h k x).0
          run known stays (calls_reserved w) values more h = impossible_safe Here env _ _ _ λ k x. (h k x).0
          run known stays (calls_method v f) values more h = impossible_safe Here env _ _ _ λ k x. (h k x).0
          run known stays (calls_builtin_method v b) values more h = impossible_safe Here env _ _ _ λ k x. (h k x).0
