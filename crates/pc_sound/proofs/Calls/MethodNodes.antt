-- Calls of `e.m`: methods of classes, of lists and of dicts, and fields that are called, on each member of the object's
-- type.
use Rattle.std.proofs.Common.{◌≡◌, ℕ, List, [], ◌∷◌, ◌++◌, map, refl, sym, ap, ◌∙◌, subst, inl, inr, append_assoc}
use Rattle.std.specs.Prelude.{◌⊎◌, true, false, flat_map, Option, Some, None, IsTrue, slice_get}
use Rattle.pc_source.specs.declared.place.Place.{Place}
use Rattle.pc_tree.specs.declared.code.Code.{Code}
use Rattle.pc_tree.specs.Tree.{Name, Expr, attribute, Exprs, Keywords, FuncDef, Module}
use Rattle.pc_tree.specs.Depth.{place_of}
use Rattle.pc_scope.specs.declared.resolution.Owner.{Owner}
use Rattle.pc_scope.specs.declared.resolution.Owner.TheVariants as owners
use Rattle.pc_scope.specs.Resolution.{function_of}
use Rattle.pc_types.specs.Tree.{Tree, Any, Object, Never, Int, Bool, Str, NoneType, Class as ClassType, ListOf, DictOf}
use Rattle.pc_types.specs.Tree.{TupleOf, Union}
use Rattle.pc_types.specs.Tree as tree
use Rattle.pc_types.specs.Below.{Bases, Below}
use Rattle.pc_types.specs.Shape.{members}
use Rattle.pc_class.specs.Bases.{bases_of}
use Rattle.pc_class.specs.Facts.{TypedParameter, Method, return_type, classes_of, class_facts_at, method_by_name}
use Rattle.pc_class.specs.Facts.{field_by_name}
use Rattle.pc_class.specs.Overrides.{has_shape_of, IsStatic}
use Rattle.pc_flow.specs.Environment.{Env}
use Rattle.pc_rules.specs.Operations.{Label, attribute_found, attribute_member}
use Rattle.pc_rules.specs.Context.{Context, Signature}
use Rattle.pc_rules.specs.Calls.{GivenArguments, arguments_given, is_suited, CallOffer, signature_offer, value_offer}
use Rattle.pc_rules.specs.Calls.{value_offers, method_signature, class_offers, list_offers, dict_offers, method_offers}
use Rattle.pc_rules.specs.Calls.{all_codes, call_label, signatures, positional_seat, named_seat, parameter_type}
use Rattle.pc_rules.specs.Labels.{Labels, type_of, Finds, ItemsLabels, KeywordsLabels, ItemsFind, KeywordsFind}
use Rattle.pc_rules.specs.Labels.{IsFoundAt}
use Rattle.pc_rules.specs.Lawful.{Lawful, LawfulItems, LawfulKeywords}
use Rattle.pc_value.specs.Value.{Value, location, seen, Out, Gives}
use Rattle.pc_value.specs.Actions as action
use Rattle.pc_value.specs.Attributes.{attribute_outcome}
use Rattle.pc_machine.specs.State.{State, Function}
use Rattle.pc_machine.specs.Calls.{Callee, calls_value, calls_function, calls_class, calls_reserved, calls_method}
use Rattle.pc_machine.specs.Calls.{calls_builtin_method, named_method, NamedValue, BuiltinMethod}
use Rattle.pc_machine.specs.Steps.{Parts, value_out}
use Rattle.pc_machine.specs.Free.{Step, ◌>>=◌, Emits, free}
use Rattle.pc_machine.specs.Evaluation.{eval_callee, callee_of_attribute, eval_all, eval_keywords, call_callee}
use Rattle.pc_machine.specs.Evaluation.{call_method}
use Rattle.pc_sound.specs.Values.{HeapTyping, HasType, IsWell}
use Rattle.pc_sound.specs.Ends.{EndsWell}
use Rattle.pc_sound.specs.Loaded.{DefaultsHave, MadeOf, MethodIs, IsLoaded}
use Rattle.pc_sound.proofs.Steps.Judgment.{HasListed, Around, IsWellTyped, KeepsState, IsSafe, IsContextOf}
use Rattle.pc_sound.proofs.Lists.{front_empty, not_empty, rest_empty}
use Rattle.pc_sound.proofs.Values.ValuesFlow.{later}
use Rattle.pc_sound.proofs.Steps.SafeSteps.{Stays, bind_safe, comes_safe, looks_safe, emits_safe, may_stop_safe}
use Rattle.pc_sound.proofs.Steps.SafeSteps.{act_safe, weaken}
use Rattle.pc_sound.proofs.Regular.KeyedLabels.{Keyed, IsKeyed, keyed_type, ItemsKeyed, KeywordsKeyed}
use Rattle.pc_sound.proofs.Expressions.SimpleExpressions.{Covered, GoodEval, allowed, part}
use Rattle.pc_sound.proofs.Values.Flows.{Evaluates}
use Rattle.pc_sound.proofs.Values.Narrowing.{HasSome, to_members}
use Rattle.pc_sound.proofs.Values.UnionMembers.{ends_more}
use Rattle.pc_sound.proofs.Heap.SeenValues.{sees_instance}
use Rattle.pc_sound.proofs.Heap.Fields.{Inherits, fields_below, has_field, attribute_ends}
use Rattle.pc_sound.proofs.Calls.Arguments.{ArgumentsHave, KeywordsHave, arguments_later, keywords_later}
use Rattle.pc_sound.proofs.Calls.OrdinaryCalls.{ordinary_safe}
use Rattle.pc_sound.proofs.Calls.BuiltInMethods.{BuiltinCall, builtin_later, NamedBuiltin, CalleeCodes, list_named}
use Rattle.pc_sound.proofs.Calls.BuiltInMethods.{dict_named, suited_performs, performs_safe}
use Rattle.pc_sound.proofs.Calls.OverridesFit.{IsIn, Dispatched}
use Rattle.pc_sound.proofs.Statements.WaysOut.{GoodExec}
use Rattle.pc_sound.proofs.Modules.MainWorld.{made_later, world_later, Labelled}
use Rattle.pc_sound.proofs.Modules.MainWorld.{around_of, context_of}
use Rattle.pc_sound.proofs.Calls.FilledParameters.{Distinct}
use Rattle.pc_sound.proofs.Calls.LabelledArguments.{suits, each_of_one, IsOneOf}
use Rattle.pc_sound.proofs.Calls.CallOffers.{IsOffer, offer_left, offer_right, all_quiet, offer_quiet}
use Rattle.pc_sound.proofs.Calls.CallOffers.{suited_where_quiet, offered_called, suited_called, suited_gives}
use Rattle.pc_sound.proofs.Calls.CallOffers.{gives_call_type}
use Rattle.pc_sound.proofs.Calls.SuitedCalls.{Caller}
use Rattle.pc_sound.proofs.Calls.RunTimeMethods.{method_found, override_call_safe}

-- an offer on which a code stands at the call
pub record Fails (offers : List CallOffer) : Type 0 where
  pub offer : CallOffer
  pub among : IsOffer offer offers
  pub found : offer.at_call ≡ [] → ⊥

-- a value of a type that is called
value_fails : (t : Tree) → (offer : CallOffer) × (value_offer t ≡ offer) × (offer.at_call ≡ [] → ⊥)
value_fails Any = (_, refl, λ e. not_empty e)
value_fails Object = (_, refl, λ e. not_empty e)
value_fails Never = (_, refl, λ e. not_empty e)
value_fails Int = (_, refl, λ e. not_empty e)
value_fails Bool = (_, refl, λ e. not_empty e)
value_fails Str = (_, refl, λ e. not_empty e)
value_fails NoneType = (_, refl, λ e. not_empty e)
value_fails (ClassType c) = (_, refl, λ e. not_empty e)
value_fails (ListOf t) = (_, refl, λ e. not_empty e)
value_fails (DictOf s t) = (_, refl, λ e. not_empty e)
value_fails (TupleOf ts) = (_, refl, λ e. not_empty e)
value_fails (Union a b) = (_, refl, λ e. not_empty e)

-- a value of a type has a member, so a code stands where it is called
pub values_fail : (bases : Bases) (k : HeapTyping) (t : Tree) (v : Value) → HasType bases k t v → Fails (value_offers t)
values_fail bases k t v h = go (members t) (to_members bases k t v h)
  where
    go : (ms : List Tree) → HasSome bases k ms v → Fails (map value_offer ms)
    go [] h = absurd h
    go (x ∷ ms) h = let f = value_fails x in record { offer = f.0; among = inl f.1; found = f.2 }

fails_among : (xs ys : List CallOffer) → ((o : CallOffer) → IsOffer o xs → IsOffer o ys) → Fails xs → Fails ys
fails_among xs ys within f = record { offer = f.offer; among = within f.offer f.among; found = f.found }

-- each member has keyed dicts
abbrev pub EachKeyed : List Tree → Type 0
EachKeyed [] = Unit {0}
EachKeyed (t ∷ ts) = IsKeyed t × EachKeyed ts

pub members_keyed : (t : Tree) → IsKeyed t → EachKeyed (members t)
members_keyed Never h = tt
members_keyed (Union a b) h = (h.0, members_keyed b h.1)
members_keyed Any h = (h, tt)
members_keyed Object h = (h, tt)
members_keyed Int h = (h, tt)
members_keyed Bool h = (h, tt)
members_keyed Str h = (h, tt)
members_keyed NoneType h = (h, tt)
members_keyed (ClassType c) h = (h, tt)
members_keyed (ListOf t) h = (h, tt)
members_keyed (DictOf s t) h = (h, tt)
members_keyed (TupleOf ts) h = (h, tt)

codes_append : (xs ys : List CallOffer) → CalleeCodes (xs ++ ys) ≡ CalleeCodes xs ++ CalleeCodes ys
codes_append [] ys = refl
codes_append (x ∷ xs) ys = ap (λ l. x.at_callee ++ l) (codes_append xs ys)
    ∙ sym (append_assoc x.at_callee (CalleeCodes xs) (CalleeCodes ys))

front_codes : (xs ys : List CallOffer) → CalleeCodes (xs ++ ys) ≡ [] → CalleeCodes xs ≡ []
front_codes xs ys e = front_empty (CalleeCodes xs) (CalleeCodes ys) (sym (codes_append xs ys) ∙ e)

rest_codes : (xs ys : List CallOffer) → CalleeCodes (xs ++ ys) ≡ [] → CalleeCodes ys ≡ []
rest_codes xs ys e = rest_empty (CalleeCodes xs) (CalleeCodes ys) (sym (codes_append xs ys) ∙ e)

module _ (m : Module) (inherits : Inherits (bases_of m) (classes_of m)) (constants : List Tree)
    (listed : Place → Type 0)
    (dispatched : (d c : ℕ) → Below (bases_of m) (tree.Class d) (tree.Class c) → (word : List ℕ) (old : Method)
    → method_by_name (class_facts_at (classes_of m) c).methods word ≡ Some old → Dispatched m listed d word old)
    (owner_above : (c : ℕ) (q : Method) → IsIn (class_facts_at (classes_of m) c).methods q
    → Below (bases_of m) (tree.Class c) (tree.Class q.owner)) where
  -- ---- callees `e.m`

  -- a method of a class, with what its type names
  pub record CallsMethod (offers : List CallOffer) (g : GivenArguments) (k : HeapTyping) (v : Value)
      (f : Function) : Type 0 where
    pub old : Method
    pub named : (c : ℕ) × (word : List ℕ) × (method_by_name (class_facts_at (classes_of m) c).methods word ≡ Some old)
    pub among : IsOffer (signature_offer g (method_signature old)) offers
    pub new : Method
    pub is : MethodIs m k f new
    pub fits : IsStatic (bases_of m) new old ⊎ (IsTrue (has_shape_of old.parameters new.parameters) × listed new.place)
    pub receiver : HasType (bases_of m) k (tree.Class new.owner) v

  -- a method of a list or a dict
  pub record CallsBuiltin (offers : List CallOffer) (g : GivenArguments) (k : HeapTyping) (v : Value)
      (b : BuiltinMethod) : Type 0 where
    pub signature : Signature
    pub among : IsOffer (signature_offer g signature) offers
    pub calls : BuiltinCall (bases_of m) k v b signature

  abbrev pub CallsSo : List CallOffer → GivenArguments → HeapTyping → Callee → Type 0
  CallsSo offers g k (calls_method v f) = CallsMethod offers g k v f
  CallsSo offers g k (calls_builtin_method v b) = CallsBuiltin offers g k v b
  CallsSo offers g k _ = ⊥

  calls_later : (offers : List CallOffer) (g : GivenArguments) (c : Callee) → Stays (λ k. CallsSo offers g k c)
  calls_later offers g (calls_method v f) k k' x h = record {
    old = h.old;
    named = h.named;
    among = h.among;
    new = h.new;
    is = record {
      def = h.is.def;
      at = h.is.at;
      made = made_later m x f h.is.def h.is.made;
      name = h.is.name;
      place =
          h.is.place;
      parameters = h.is.parameters;
      returns = h.is.returns;
    };
    fits = h.fits;
    receiver = later (bases_of m) x (tree.Class h.new.owner) v h.receiver;
  }
  calls_later offers g (calls_builtin_method v b) k k' x h = record {
    signature = h.signature;
    among = h.among;
    calls =
        builtin_later (bases_of m) x v b h.signature h.calls;
  }
  calls_later offers g (calls_value v) k k' x h = h
  calls_later offers g (calls_function f) k k' x h = h
  calls_later offers g (calls_class c) k k' x h = h
  calls_later offers g (calls_reserved w) k k' x h = h

  -- where nothing is found at it: a code stands at the call, or it is a method
  abbrev pub Ready : List CallOffer → GivenArguments → HeapTyping → Callee → Type 0
  Ready offers g k c = (CalleeCodes offers ≡ []) × (Fails offers ⊎ CallsSo offers g k c)

  ready_later : (offers : List CallOffer) (g : GivenArguments) (c : Callee) → Stays (λ k. Ready offers g k c)
  ready_later offers g c k k' x h = (h.0, elim h.1 [ inl f ↦ inl f | inr s ↦ inr (calls_later offers g c k k' x s) ])

  -- a field that is called, where no method is named
  record CallsField (offers : List CallOffer) (k : HeapTyping) (v : Value) (word : List ℕ) : Type 0 where
    class : ℕ
    field : TypedParameter
    is : field_by_name (class_facts_at (classes_of m) class).fields word ≡ Some field
    object : HasType (bases_of m) k (tree.Class class) v
    fails : Fails offers

  -- the callee that was named
  abbrev Names : List CallOffer → GivenArguments → Value → List ℕ → HeapTyping → Option Callee → Type 0
  Names offers g v word k (Some c) = Fails offers ⊎ CallsSo offers g k c
  Names offers g v word k None = CallsField offers k v word

  module _ (k : HeapTyping) (s : State) (well : IsWell (bases_of m) (classes_of m) k s.heap)
      (world : IsLoaded m constants k s.classes s.globals) (g : GivenArguments) (offers : List CallOffer) (v : Value)
      (word : List ℕ) where
    field_named : (c : ℕ) (f : TypedParameter) → HasType (bases_of m) k (tree.Class c) v
        → field_by_name (class_facts_at (classes_of m) c).fields word ≡ Some f → (o : Option Callee)
        → ((p : CallOffer) → IsOffer p (value_offers f.type) → IsOffer p offers) → Names offers g v word k o
    field_named c f h e o within = go v h (λ w x. fails_among (value_offers f.type) offers within
        (values_fail (bases_of m) k f.type w x)) o
      where
        go : (w : Value) → HasType (bases_of m) k (tree.Class c) w
            → ((x : Value) → HasType (bases_of m) k f.type x → Fails offers) → (o : Option Callee)
            → Names offers g w word k o
        go (location l) h fails o = by (failing l h fails) o
          where
            failing : (l : ℕ) → HasType (bases_of m) k (tree.Class c) (location l)
                → ((x : Value) → HasType (bases_of m) k f.type x → Fails offers) → Fails offers
            failing l h fails =
                let i = sees_instance (bases_of m) (classes_of m) k s.heap well l c h in
                let held = has_field (bases_of m) k (class_facts_at (classes_of m) i.class).fields i.slots word f i.have
                (fields_below (bases_of m) (classes_of m) inherits i.class c i.below word f e) in
                fails held.value held.has

            by : Fails offers → (o : Option Callee) → Names offers g (location l) word k o
            by fl (Some x) = inl fl
            by fl None = record { class = c; field = f; is = e; object = h; fails = fl }
        go _ h fails o = absurd h

    builtin_ready : (part : List CallOffer) → ((p : CallOffer) → IsOffer p part → IsOffer p offers)
        → NamedBuiltin (bases_of m) k s v word g part → Names offers g v word k (named_method s v word)
    builtin_ready part within b = subst (λ o. Names offers g v word k o) (sym b.named)
        (inr (record {
          signature = b.signature;
          among = within (signature_offer g b.signature)
              (subst (λ l. IsOffer (signature_offer g b.signature) l) (sym b.offered) (inl refl));
          calls = b.calls;
        }))

    class_ready : (c : ℕ) → HasType (bases_of m) k (tree.Class c) v → (old : Option Method)
        → method_by_name (class_facts_at (classes_of m) c).methods word ≡ old → (f : Option TypedParameter)
        → field_by_name (class_facts_at (classes_of m) c).fields word ≡ f
        → ((p : CallOffer) → IsOffer p (class_offers g old f) → IsOffer p offers) → CalleeCodes (class_offers g old f)
        ≡ [] → Names offers g v word k (named_method s v word)
    class_ready c h (Some old) e f fe within quiet =
        let d = method_found m constants listed dispatched owner_above k s c v word old well world h e in
        subst (λ o. Names offers g v word k o) (sym d.named)
        (inr (record {
          old = old;
          named = (c, word, e);
          among = within (signature_offer g (method_signature old))
              (inl refl);
          new = d.new;
          is = d.is;
          fits = d.fits;
          receiver = d.receiver;
        }))
    class_ready c h None e (Some f) fe within quiet = field_named c f h fe (named_method s v word) within
    class_ready c h None e None fe within quiet = absurd (not_empty quiet)

    -- on one member of the object's type
    member_ready : (ctx : Context) → ctx.bases ≡ bases_of m → ctx.classes ≡ classes_of m → (t : Tree)
        → HasType (bases_of m) k t v → IsKeyed t → ((p : CallOffer) → IsOffer p (method_offers ctx g word t)
        → IsOffer p offers) → CalleeCodes (method_offers ctx g word t) ≡ []
        → Names offers g v word k (named_method s v word)
    member_ready ctx bs cs (ClassType c) h keyed within quiet =
        class_ready c h (method_by_name (class_facts_at (classes_of m) c).methods word) refl
        (field_by_name (class_facts_at (classes_of m) c).fields word) refl
        (subst (λ l. (p : CallOffer) → IsOffer p (class_offers g (method_by_name (class_facts_at l c).methods word)
        (field_by_name (class_facts_at l c).fields word)) → IsOffer p offers) cs within)
        (subst (λ l. CalleeCodes (class_offers g (method_by_name (class_facts_at l c).methods word)
        (field_by_name (class_facts_at l c).fields word)) ≡ []) cs quiet)
    member_ready ctx bs cs (ListOf t) h keyed within quiet = builtin_ready (list_offers g word t) within
        (list_named (bases_of m) (classes_of m) k s well g word t v h quiet)
    member_ready ctx bs cs (DictOf a b) h keyed within quiet =
        builtin_ready (dict_offers (bases_of m) g word a b)
        (subst (λ x. (p : CallOffer) → IsOffer p (dict_offers x g word a b) → IsOffer p offers) bs within)
        (dict_named (bases_of m) (classes_of m) k s well g word a b v keyed.0 h
        (subst (λ x. CalleeCodes (dict_offers x g word a b) ≡ []) bs quiet))
    member_ready ctx bs cs Any h keyed within quiet = absurd (not_empty quiet)
    member_ready ctx bs cs Object h keyed within quiet = absurd (not_empty quiet)
    member_ready ctx bs cs Never h keyed within quiet = absurd h
    member_ready ctx bs cs Int h keyed within quiet = absurd (not_empty quiet)
    member_ready ctx bs cs Bool h keyed within quiet = absurd (not_empty quiet)
    member_ready ctx bs cs Str h keyed within quiet = absurd (not_empty quiet)
    member_ready ctx bs cs NoneType h keyed within quiet = absurd (not_empty quiet)
    member_ready ctx bs cs (TupleOf ts) h keyed within quiet = absurd (not_empty quiet)
    member_ready ctx bs cs (Union a b) h keyed within quiet = absurd (not_empty quiet)

    -- on the member of the type that the object is of
    object_ready : (ctx : Context) → ctx.bases ≡ bases_of m → ctx.classes ≡ classes_of m → (ts : List Tree)
        → HasSome (bases_of m) k ts v → EachKeyed ts → ((p : CallOffer)
        → IsOffer p (flat_map (method_offers ctx g word) ts) → IsOffer p offers)
        → CalleeCodes (flat_map (method_offers ctx g word) ts) ≡ [] → Names offers g v word k (named_method s v word)
    object_ready ctx bs cs [] h keyed within quiet = absurd h
    object_ready ctx bs cs (t ∷ ts) h keyed within quiet = elim h [
      | inl x ↦ member_ready ctx bs cs t x keyed.0 (λ p i. within p
          (offer_left p (method_offers ctx g word t) (flat_map (method_offers ctx g word) ts) i))
          (front_codes (method_offers ctx g word t) (flat_map (method_offers ctx g word) ts) quiet)
      | inr y ↦ object_ready ctx bs cs ts y keyed.1 (λ p i. within p
          (offer_right p (method_offers ctx g word t) (flat_map (method_offers ctx g word) ts) i))
          (rest_codes (method_offers ctx g word t) (flat_map (method_offers ctx g word) ts) quiet)
    ]

  -- ---- the callee

  module _ (names : List (List ℕ)) (declared : List Tree) where
    abbrev Here : Around
    Here = Caller m inherits listed names declared (IsLoaded m constants)
        (λ k k' made globals grows w. world_later m constants k k' made globals grows w)

    module _ (ctx : Context) (fits : IsContextOf (Caller m inherits listed names declared (IsLoaded m constants)
        (λ k k' made globals grows w. world_later m constants k k' made globals grows w)) ctx) (parts : Parts Step)
        (good : GoodEval (Caller m inherits listed names declared (IsLoaded m constants)
        (λ k k' made globals grows w. world_later m constants k k' made globals grows w)) ctx parts.eval)
        (evaluates : (e : Expr) → Evaluates (place_of e) (parts.eval e)) (env : Env) where
      field_read : (offers : List CallOffer) (g : GivenArguments) (v : Value) (word : List ℕ)
          (known : HeapTyping → Type 0) → Stays known → ((k : HeapTyping) → known k → (CalleeCodes offers ≡ [])
          × CallsField offers k v word) → IsSafe Here env known (callee_of_attribute Step free v word None)
          (λ k c. Ready offers g k c)
      field_read offers g v word known stays h =
          bind_safe Here env known _ _ (λ k w. Unit {0}) _ stays
          (act_safe Here env known value_out (action.read_attribute v word false) _ λ f k s x st.
          (refl, ends_more _ (λ w. Unit {0}) (λ w y. tt) _ (ends k s (h k x).1 st.well)))
          λ w. comes_safe Here env _ (Gives (calls_value w)) _ λ k x. ((h k x.0).0, inl (h k x.0).1.fails)
        where
          ends : (k : HeapTyping) (s : State) → (c : CallsField offers k v word)
              → IsWell (bases_of m) (classes_of m) k s.heap → EndsWell
              (λ w. HasType (bases_of m) k (attribute_member (classes_of m) word (ClassType c.class)).gives w)
              (value_out (attribute_outcome (seen s.heap v) word false))
          ends k s c well = attribute_ends (bases_of m) (classes_of m) inherits k s.heap well word false
              (ClassType c.class) v c.object
              (ap (λ o. (attribute_found o (method_by_name (class_facts_at (classes_of m) c.class).methods word)).found)
              c.is)

      -- a callee `e.m` is safe, where nothing is found at it
      pub callee_safe : (p : Place) (e : Expr) (w : Name) (g : GivenArguments) (om : Labels e) (codes : List Code)
          → Lawful ctx declared env None e om → Covered Here (Finds e om) → Keyed e om
          → codes ≡ CalleeCodes (flat_map (method_offers ctx g w.text) (members (type_of e om)))
          → Covered Here (IsFoundAt p codes)
          → IsSafe Here env (λ k. Unit {0}) (eval_callee Step free parts (attribute p e w))
          (λ k c. Ready (flat_map (method_offers ctx g w.text) (members (type_of e om))) g k c)
      callee_safe p e w g om codes law covered keyed is found =
          bind_safe Here env _ _ _ (λ k u. Unit {0}) _ (λ k k' x h. tt) (may_stop_safe Here env _)
          λ u. bind_safe Here env _ _ _ (λ k v. HasType (bases_of m) k (type_of e om) v) _ (λ k k' x h. (tt, tt))
          (part Here ctx parts good env _ None e om law covered keyed)
          λ v. bind_safe Here env _ _ _ (λ k u. codes ≡ []) _ (λ k k' x h.
          ((tt, tt), later (bases_of m) x (type_of e om) v h.1))
          (emits_safe Here env _ p codes (allowed Here p codes found))
          λ u. bind_safe Here env _ _ _ (λ k method. (CalleeCodes offers ≡ []) × Names offers g v w.text k method) _
          (λ k k' x h. (((tt, tt), later (bases_of m) x (type_of e om) v h.0.1), h.1))
          (looks_safe Here env _ (λ s. Gives (named_method s v w.text)) _ λ k s h st. (
            sym is ∙ h.1,
            object_ready k s st.well st.outside g offers v w.text ctx (sym fits.bases)
                (sym fits.classes) (members (type_of e om)) (to_members (bases_of m) k (type_of e om) v h.0.1)
                (members_keyed (type_of e om) (keyed_type e om keyed)) (λ o i. i) (sym is ∙ h.1),
          ))
          λ method. named v method
        where
          offers : List CallOffer
          offers = flat_map (method_offers ctx g w.text) (members (type_of e om))

          named : (v : Value) (method : Option Callee) → IsSafe Here env
              (λ k. (((Unit {0} × Unit {0}) × HasType (bases_of m) k (type_of e om) v) × (codes ≡ []))
              × ((CalleeCodes (flat_map (method_offers ctx g w.text) (members (type_of e om))) ≡ [])
              × Names (flat_map (method_offers ctx g w.text) (members (type_of e om))) g v w.text k method))
              (callee_of_attribute Step free v w.text method) (λ k c.
              Ready (flat_map (method_offers ctx g w.text) (members (type_of e om))) g k c)
          named v (Some c) = comes_safe Here env _ (Gives c) _ λ k h. h.1
          named v None = weaken Here env _
              (λ k. (CalleeCodes (flat_map (method_offers ctx g w.text) (members (type_of e om))) ≡ [])
              × CallsField (flat_map (method_offers ctx g w.text) (members (type_of e om))) k v w.text) _ _ _
              (λ k h. h.1) (λ k c h. h)
              (field_read (flat_map (method_offers ctx g w.text) (members (type_of e om))) g v w.text _
              (λ k k' x h. (
                h.0,
                record {
                  class = h.1.class;
                  field = h.1.field;
                  is = h.1.is;
                  object =
                      later (bases_of m) x (tree.Class h.1.class) v h.1.object;
                  fails = h.1.fails;
                },
              )) (λ k h. h))

      -- ---- the call

      module _ (labelled : (owner : Owner) (d : FuncDef) → function_of m owner ≡ Some d
          → Labelled m constants listed owner d) (runs : (owner : Owner) (d : FuncDef)
          (lab : Labelled m constants listed owner d) → GoodExec (around_of m constants listed owner d lab)
          (context_of m constants listed owner d) m (return_type m d) parts.exec)
          (distinct : (c : ℕ) (word : List ℕ) (old : Method) → method_by_name (class_facts_at (classes_of m) c).methods
          word ≡ Some old → Distinct [] old.parameters) (offers : List CallOffer) (args : Exprs) (kws : Keywords)
          (im : ItemsLabels args) (km : KeywordsLabels kws) (here : Label)
          (is_label : here ≡ call_label (bases_of m) offers) (quiet : all_codes offers ≡ []) where
        abbrev Given_args : HeapTyping → List Value → List NamedValue → Type 0
        Given_args k values more = ArgumentsHave (bases_of m) k (positional_seat offers) args im values
            × KeywordsHave (bases_of m) k (named_seat offers) [] kws km more

        given_later : (values : List Value) (more : List NamedValue) → Stays (λ k. Given_args k values more)
        given_later values more k k' x h = (
          arguments_later (bases_of m) x (positional_seat offers) args im values h.0,
          keywords_later (bases_of m) x (named_seat offers) [] kws km more h.1,
        )

        -- a value of the type that an offered signature gives is of the call's type
        of_call : (s : Signature) → IsOffer (signature_offer (arguments_given args kws) s) offers
            → is_suited (arguments_given args kws) s ≡ true → (k : HeapTyping) (v : Value)
            → HasType (bases_of m) k s.returns v → HasType (bases_of m) k here.type v
        of_call s among suited k v h = subst (λ t. HasType (bases_of m) k t v) (ap (λ x. x.type) (sym is_label))
            (gives_call_type (bases_of m) fits.smaller k (signature_offer (arguments_given args kws) s) offers among
            quiet v (subst (λ t. HasType (bases_of m) k t v) (sym (suited_gives (arguments_given args kws) s suited))
            h))

        suited_offer : (s : Signature) → IsOffer (signature_offer (arguments_given args kws) s) offers
            → is_suited (arguments_given args kws) s ≡ true
        suited_offer s among = suited_where_quiet (arguments_given args kws) s
            (offer_quiet (signature_offer (arguments_given args kws) s) offers among quiet).1

        one_offer : (s : Signature) → IsOffer (signature_offer (arguments_given args kws) s) offers
            → IsOneOf s (signatures offers)
        one_offer s among = offered_called (signature_offer (arguments_given args kws) s) s offers among quiet
            (suited_called (arguments_given args kws) s (suited_offer s among))

        -- a method of a class
        class_method_safe : (v : Value) (f : Function) (k0 : HeapTyping)
            → (c : CallsMethod offers (arguments_given args kws) k0 v f)
            → (values : List Value) (more : List NamedValue) → IsSafe Here env
            (λ k. (MadeOf m k f c.is.def × HasType (bases_of m) k (tree.Class c.new.owner) v)
            × Given_args k values more) (call_method Step free parts v f values more)
            (λ k w. HasType (bases_of m) k here.type w)
        class_method_safe v f k0 c values more =
            weaken Here env _ _ _ (λ k w. HasType (bases_of m) k c.old.returns w) _ (λ k h. h)
            (λ k w h. of_call (method_signature c.old) c.among (suited_offer (method_signature c.old) c.among) k w
            h)
            (override_call_safe m inherits listed names declared (IsLoaded m constants)
            (λ k k' made globals grows w. world_later m constants k k' made globals grows w) parts env _
            (λ k k' x h. (
              (made_later m x f c.is.def h.0.0, later (bases_of m) x (tree.Class c.new.owner) v h.0.1),
              given_later values more k k' x h.1,
            )) constants (λ k made globals w. w)
            v f c.new c.old c.is.def (labelled (owners.Method c.new.owner c.new.number) c.is.def c.is.at)
            (runs (owners.Method c.new.owner c.new.number) c.is.def
            (labelled (owners.Method c.new.owner c.new.number) c.is.def c.is.at)) c.is.made.name c.is.made.body
            c.is.place c.is.parameters c.is.returns c.fits values more
            λ k h. (
              h.0.1,
              (
                subst (λ ps. DefaultsHave (bases_of m) k f.parameters ps) (sym c.is.parameters) h.0.0.parameters,
                suits (bases_of m) k offers (method_signature c.old) args kws im km values more
                    (suited_offer (method_signature c.old) c.among) (distinct c.named.0 c.named.1 c.old c.named.2)
                    (one_offer (method_signature c.old) c.among) h.1.0 h.1.1,
              ),
            ))

        -- a method of a list or a dict
        builtin_method_safe : (v : Value) (b : BuiltinMethod) (s : Signature)
            → IsOffer (signature_offer (arguments_given args kws) s) offers
            → (values : List Value) (more : List NamedValue) → IsSafe Here env (λ k. BuiltinCall (bases_of m) k v b s
            × Given_args k values more) (call_callee Step free parts (calls_builtin_method v b) values more)
            (λ k w. HasType (bases_of m) k here.type w)
        builtin_method_safe v b s among values more =
            performs_safe Here env parts _ (λ k k' x h. (
              builtin_later (bases_of m) x v b s h.0,
              given_later values more k k' x h.1,
            )) v here.type b values more
            λ k h. suited_performs (bases_of m) fits.smaller k v b s h.0 (positional_seat offers) (named_seat offers)
            args im kws km values more (suited_offer s among)
            (λ w x. each_of_one (bases_of m) k (λ t. parameter_type (slice_get t.parameters 0)) (signatures offers) s w
            (one_offer s among) x) h.1.0 h.1.1 here.type
            (λ j grows x y. of_call s among (suited_offer s among) j x y)

        -- whatever was named
        pub named_call_safe : (c : Callee) (values : List Value) (more : List NamedValue)
            → IsSafe Here env (λ k. Ready offers (arguments_given args kws) k c × Given_args k values more)
            (call_callee Step free parts c values more) (λ k w. HasType (bases_of m) k here.type w)
        named_call_safe c values more = record { run = go c }
          where
            failed : Fails offers → ⊥
            failed f = f.found (offer_quiet f.offer offers f.among quiet).1

            go : (c : Callee) (k : HeapTyping) (s s' : State) (events : List Place) (out : Out Value)
                → Ready offers (arguments_given args kws) k c × Given_args k values more → IsWellTyped Here env k s
                → call_callee Step free parts c values more s events out s' → HasListed listed events
                ⊎ KeepsState Here (λ k w. HasType (bases_of m) k here.type w) k s out s'
            go (calls_method v f) k s s' events out knows st r = elim knows.0.1 [
              | inl x ↦ absurd (failed x)
              | inr x ↦ (class_method_safe v f k x values more).run k s s' events out ((x.is.made, x.receiver), knows.1)
                  st r
            ]
            go (calls_builtin_method v b) k s s' events out knows st r = elim knows.0.1 [
              | inl x ↦ absurd (failed x)
              | inr x ↦ (builtin_method_safe v b x.signature x.among values more).run k s s' events out
                  (x.calls, knows.1) st r
            ]
            go (calls_value v) k s s' events out knows st r = elim knows.0.1 [
              | inl x ↦ absurd (failed x)
              | inr x ↦
                  absurd x
            ]
            go (calls_function f) k s s' events out knows st r = elim knows.0.1 [
              | inl x ↦ absurd (failed x)
              | inr x ↦
                  absurd x
            ]
            go (calls_class b) k s s' events out knows st r = elim knows.0.1 [
              | inl x ↦ absurd (failed x)
              | inr x ↦
                  absurd x
            ]
            go (calls_reserved w) k s s' events out knows st r = elim knows.0.1 [
              | inl x ↦ absurd (failed x)
              | inr x ↦
                  absurd x
            ]

      module _ (labelled : (owner : Owner) (d : FuncDef) → function_of m owner ≡ Some d
          → Labelled m constants listed owner d) (runs : (owner : Owner) (d : FuncDef)
          (lab : Labelled m constants listed owner d) → GoodExec (around_of m constants listed owner d lab)
          (context_of m constants listed owner d) m (return_type m d) parts.exec)
          (distinct : (c : ℕ) (word : List ℕ) (old : Method) → method_by_name (class_facts_at (classes_of m) c).methods
          word ≡ Some old → Distinct [] old.parameters) where
        -- a call of `e.m`
        pub method_node_safe :
            (p q : Place) (e : Expr) (w : Name) (args : Exprs) (kws : Keywords) (om : Labels e) (codes : List Code)
            (im : ItemsLabels args) (km : KeywordsLabels kws) (here : Label)
            → Lawful ctx declared env None e om → Covered Here (Finds e om) → Keyed e om
            → codes ≡ CalleeCodes (flat_map (method_offers ctx (arguments_given args kws) w.text)
            (members (type_of e om))) → Covered Here (IsFoundAt q codes)
            → here ≡ call_label (bases_of m) (flat_map (method_offers ctx (arguments_given args kws) w.text)
            (members (type_of e om)))
            → LawfulItems ctx declared env
            (positional_seat (flat_map (method_offers ctx (arguments_given args kws) w.text)
            (members (type_of e om)))) args im → LawfulKeywords ctx declared env
            (named_seat (flat_map (method_offers ctx (arguments_given args kws) w.text) (members (type_of e om))))
            [] kws km
            → Covered Here (ItemsFind args im) → Covered Here (KeywordsFind kws km)
            → Covered Here (IsFoundAt p here.codes) → ItemsKeyed args im → KeywordsKeyed kws km
            → IsSafe Here env (λ k. Unit {0}) (eval_callee Step free parts (attribute q e w) >>= λ c. eval_all Step free
            parts.eval args >>= λ values. eval_keywords Step free parts.eval kws >>= λ more. Emits p >>= λ u.
            call_callee Step free parts c values more) (λ k v. HasType (bases_of m) k here.type v)
        method_node_safe p q e w args kws om codes im km here olaw ocovered okeyed is found is_label law klaw covered
            kcovered hcovered keyed kkeyed =
            ordinary_safe Here ctx fits parts good evaluates env p (eval_callee Step free parts (attribute q e w))
            (λ k c. Ready (flat_map (method_offers ctx (arguments_given args kws) w.text) (members (type_of e om)))
            (arguments_given args kws) k c)
            (ready_later (flat_map (method_offers ctx (arguments_given args kws) w.text) (members (type_of e om)))
            (arguments_given args kws))
            (callee_safe q e w (arguments_given args kws) om codes olaw ocovered okeyed is found)
            (positional_seat (flat_map (method_offers ctx (arguments_given args kws) w.text) (members (type_of e om))))
            (named_seat (flat_map (method_offers ctx (arguments_given args kws) w.text) (members (type_of e om))))
            args im kws km here law klaw covered kcovered hcovered keyed kkeyed _
            λ c values more. record {
              run = λ k s s' events out knows st r.
                  (named_call_safe labelled runs distinct
                  (flat_map (method_offers ctx (arguments_given args kws) w.text) (members (type_of e om))) args kws
                  im km here is_label
                  (all_quiet (flat_map (method_offers ctx (arguments_given args kws) w.text) (members (type_of e om)))
                  knows.0.0.0.1.0 (ap (λ x. x.codes) (sym is_label) ∙ knows.1)) c values more).run k s s' events out
                  (knows.0.0.0.1, (knows.0.0.1, knows.0.1)) st r;
            }
