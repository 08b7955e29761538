-- The methods of lists and dicts: `append`, `pop` and `get` are safe on arguments that suit them.
use Rattle.std.proofs.Common.{◌≡◌, ℕ, zero, suc, List, [], ◌∷◌, ◌-◌, take, length, refl, sym, ap, ◌∙◌, subst, arith}
use Rattle.std.specs.Prelude.{Bool as Test, true, false, ◌&&◌, nat_le, if◌then◌else◌, flat_map, Option, Some, None}
use Rattle.std.specs.Prelude.{slice_get, codes, bytes_eq}
use Rattle.std.proofs.lemmas.Bool.Decides.{nat_tests}
use Rattle.std.proofs.lemmas.Option.{same_Some}
use Rattle.std.proofs.lemmas.Bool.{false≢true}
use Rattle.pc_tree.specs.declared.code.Code.{Code}
use Rattle.pc_tree.specs.declared.code.Code.TheVariants.{E15}
use Rattle.pc_tree.specs.Tree.{Exprs, Keywords, no_exprs, more_exprs, no_keywords, more_keywords}
use Rattle.pc_types.specs.Tree.{Tree, NoneType, ListOf, DictOf, Union}
use Rattle.pc_types.specs.Below.{Bases, AreSmaller}
use Rattle.pc_types.specs.Normal.{IsKey}
use Rattle.pc_class.specs.Facts as facts
use Rattle.pc_flow.specs.Environment.{Env, join_or_object}
use Rattle.pc_rules.specs.Context.{Signature}
use Rattle.pc_rules.specs.Calls.{GivenArguments, arguments_given, count_exprs, is_suited, CallOffer, signature_offer}
use Rattle.pc_rules.specs.Calls.{fails_at_callee, builtin_signature, parameter_type, list_offers, dict_offers, Seat}
use Rattle.pc_rules.specs.Labels.{ItemsLabels, KeywordsLabels}
use Rattle.pc_value.specs.Value as value
use Rattle.pc_value.specs.Value.{Value, Gives, location, list_cell, Heap, seen, class_seen}
use Rattle.pc_value.specs.Actions as action
use Rattle.pc_value.specs.Containers.{last_of, pop_from, pop_outcome}
use Rattle.pc_machine.specs.State.{State}
use Rattle.pc_machine.specs.Calls as run
use Rattle.pc_machine.specs.Calls.{calls_builtin_method, BuiltinMethod, list_append, list_pop, dict_get}
use Rattle.pc_machine.specs.Calls.{builtin_method_of, callee_of_method, method_of_class, class_at, named_method}
use Rattle.pc_machine.specs.Calls.{NamedValue}
use Rattle.pc_machine.specs.Steps.{Parts, value_out}
use Rattle.pc_machine.specs.Evaluation.{call_callee}
use Rattle.pc_machine.specs.Free.{Step, free, act}
use Rattle.pc_sound.specs.Values.{HeapTyping, HasType, Extends, a_list, AllHave, IsWell}
use Rattle.pc_sound.specs.KeptHeaps.{OutcomeHas, ActsWell}
use Rattle.pc_sound.specs.Ends.{EndsWell}
use Rattle.pc_sound.proofs.Steps.Judgment.{Around, IsSafe}
use Rattle.pc_sound.proofs.Lists.{not_empty}
use Rattle.pc_sound.proofs.Values.ValuesFlow.{later, of_static, extends_refl}
use Rattle.pc_sound.proofs.Steps.SafeSteps.{Stays, bind_safe, looks_safe, weaken}
use Rattle.pc_sound.proofs.Heap.Heaps.{write_keeps, append_keeps}
use Rattle.pc_sound.proofs.Values.Joins.{either_holds}
use Rattle.pc_sound.proofs.Heap.Dicts.{dict_get_has}
use Rattle.pc_sound.proofs.Heap.SeenValues.{SeesList, SeesDict, sees_list, sees_dict}
use Rattle.pc_sound.proofs.Values.UnionMembers.{HasEach}
use Rattle.pc_sound.proofs.Heap.HeapActions.{acting_safe}
use Rattle.pc_sound.proofs.Calls.Arguments.{ArgumentsHave, KeywordsHave}
use Rattle.pc_sound.proofs.Calls.OrdinaryCalls.{equal_safe, impossible_safe}

-- ---- the method called

-- a method of a list or a dict, with what it takes and gives
pub data BuiltinCall (bases : Bases) (k : HeapTyping) (v : Value) : BuiltinMethod → Signature → Type 0 where
  appends : (t : Tree) → HasType bases k (ListOf t) v → BuiltinCall bases k v list_append
      (builtin_signature (t ∷ []) NoneType)
  pops : (t : Tree) → HasType bases k (ListOf t) v → BuiltinCall bases k v list_pop (builtin_signature [] t)
  gets : (s t : Tree) → IsKey s → HasType bases k (DictOf s t) v
      → BuiltinCall bases k v dict_get (builtin_signature (s ∷ []) (join_or_object bases t NoneType))

pub builtin_later : (bases : Bases) {k k' : HeapTyping} → Extends k k'
    → (v : Value) (method : BuiltinMethod) (s : Signature) → BuiltinCall bases k v method s
    → BuiltinCall bases k' v method s
builtin_later bases x v _ _ (appends t h) = appends t (later bases x (ListOf t) v h)
builtin_later bases x v _ _ (pops t h) = pops t (later bases x (ListOf t) v h)
builtin_later bases x v _ _ (gets s t is h) = gets s t is (later bases x (DictOf s t) v h)

-- the built-in method that `e.m` names on a list or a dict, where nothing is found at it
pub record NamedBuiltin (bases : Bases) (k : HeapTyping) (s : State) (v : Value) (word : List ℕ) (g : GivenArguments)
    (offers : List CallOffer) : Type 0 where
  pub method : BuiltinMethod
  pub signature : Signature
  pub named : named_method s v word ≡ Some (calls_builtin_method v method)
  pub offered : offers ≡ signature_offer g signature ∷ []
  pub calls : BuiltinCall bases k v method signature

abbrev pub CalleeCodes : List CallOffer → List Code
CalleeCodes offers = flat_map (λ o. o.at_callee) offers

module _ (bases : Bases) (classes : List facts.ClassFacts) (k : HeapTyping) (s : State)
    (well : IsWell bases classes k s.heap) where
  -- lists and dicts have no class
  of_no_class : (v : Value) (word : List ℕ) (method : BuiltinMethod) → class_seen (seen s.heap v) ≡ None
      → builtin_method_of (seen s.heap v) word ≡ Some method → named_method s v word
      ≡ Some (calls_builtin_method v method)
  of_no_class v word method none is =
      ap (λ c. callee_of_method v (method_of_class word (class_at s.classes c))
      (builtin_method_of (seen s.heap v) word)) none
      ∙ ap (callee_of_method v None) is

  pub list_named : (g : GivenArguments) (word : List ℕ) (t : Tree) (v : Value) → HasType bases k (ListOf t) v
      → CalleeCodes (list_offers g word t) ≡ [] → NamedBuiltin bases k s v word g (list_offers g word t)
  list_named g word t (location l) h none = go (bytes_eq word (codes "append")) (bytes_eq word (codes "pop")) refl refl
      none
    where
      c : SeesList bases k s.heap l t
      c = sees_list bases classes k s.heap well l t h

      no_class : class_seen (seen s.heap (location l)) ≡ None
      no_class = ap class_seen c.seen_as

      method_is : builtin_method_of (seen s.heap (location l)) word
          ≡ (if bytes_eq word (codes "append") then Some list_append else if bytes_eq word (codes "pop")
          then Some list_pop else None)
      method_is = ap (λ x. builtin_method_of x word) c.seen_as

      popping : List CallOffer
      popping = if bytes_eq word (codes "pop") then signature_offer g (builtin_signature [] t) ∷ [] else fails_at_callee
          E15 ∷ []

      go : (a p : Test) → bytes_eq word (codes "append") ≡ a → bytes_eq word (codes "pop") ≡ p
          → CalleeCodes (if a then signature_offer g (builtin_signature (t ∷ []) NoneType) ∷ []
          else (if p then signature_offer g (builtin_signature [] t) ∷ [] else fails_at_callee E15 ∷ [])) ≡ []
          → NamedBuiltin bases k s (location l) word g (list_offers g word t)
      go true p is_append is_pop none = record {
        method = list_append;
        signature = builtin_signature (t ∷ []) NoneType;
        named = of_no_class (location l) word list_append no_class
            (method_is ∙ ap (λ x. if x then Some list_append else if bytes_eq word (codes "pop") then Some list_pop
            else None) is_append);
        offered = ap (λ x. if x then signature_offer g (builtin_signature (t ∷ []) NoneType) ∷ [] else popping)
            is_append;
        calls = appends t h;
      }
      go false true is_append is_pop none = record {
        method = list_pop;
        signature = builtin_signature [] t;
        named = of_no_class (location l) word list_pop no_class (method_is
            ∙ ap (λ x. if x then Some list_append else if bytes_eq word (codes "pop") then Some list_pop else None)
            is_append ∙ ap (λ x. if x then Some list_pop else None) is_pop);
        offered = ap (λ x. if x then signature_offer g (builtin_signature (t ∷ []) NoneType) ∷ [] else popping)
            is_append ∙ ap (λ x. if x then signature_offer g (builtin_signature [] t) ∷ [] else fails_at_callee E15
            ∷ []) is_pop;
        calls = pops t h;
      }
      go false false is_append is_pop none = absurd (not_empty none)
  list_named g word t _ h none = absurd h

  pub dict_named : (g : GivenArguments) (word : List ℕ) (a b : Tree) (v : Value) → IsKey a
      → HasType bases k (DictOf a b) v → CalleeCodes (dict_offers bases g word a b) ≡ []
      → NamedBuiltin bases k s v word g (dict_offers bases g word a b)
  dict_named g word a b (location l) key h none = go (bytes_eq word (codes "get")) refl none
    where
      c : SeesDict bases k s.heap l a b
      c = sees_dict bases classes k s.heap well l a b h

      go : (x : Test) → bytes_eq word (codes "get") ≡ x → CalleeCodes
          (if x then signature_offer g (builtin_signature (a ∷ []) (join_or_object bases b NoneType)) ∷ []
          else fails_at_callee E15 ∷ []) ≡ [] → NamedBuiltin bases k s (location l) word g
          (dict_offers bases g word a b)
      go true is none = record {
        method = dict_get;
        signature = builtin_signature (a ∷ []) (join_or_object bases b NoneType);
        named = of_no_class (location l) word dict_get (ap class_seen c.seen_as)
            (ap (λ x. builtin_method_of x word) c.seen_as ∙ ap (λ x. if x then Some dict_get else None) is);
        offered = ap (λ x. if x then signature_offer g (builtin_signature (a ∷ []) (join_or_object bases b NoneType))
            ∷ [] else fails_at_callee E15 ∷ []) is;
        calls = gets a b key h;
      }
      go false is none = absurd (not_empty none)
  dict_named g word a b _ key h none = absurd h

-- ---- outcomes of built-in methods

module _ (bases : Bases) (k : HeapTyping) where
  all_get : (t : Tree) (vs : List Value) (i : ℕ) (v : Value) → AllHave bases k t vs → slice_get vs i ≡ Some v
      → HasType bases k t v
  all_get t [] i v h e = absurd (grind (arith, e))
  all_get t (w ∷ vs) zero v h e = subst (λ x. HasType bases k t x) (same_Some _ _ e) h.0
  all_get t (w ∷ vs) (suc i) v h e = all_get t vs i v h.1 e

  all_take : (t : Tree) (vs : List Value) (n : ℕ) → AllHave bases k t vs → AllHave bases k t (take n vs)
  all_take t [] zero h = tt
  all_take t [] (suc n) h = tt
  all_take t (v ∷ vs) zero h = tt
  all_take t (v ∷ vs) (suc n) h = (h.0, all_take t vs n h.1)

  -- the last item leaves a list
  pub pop_keeps : (classes : List facts.ClassFacts) (heap : Heap) (t : Tree) (v : Value) → IsWell bases classes k heap
      → HasType bases k (ListOf t) v → ActsWell bases classes k t (pop_outcome heap (seen heap v))
  pop_keeps classes heap t (location l) well h = subst (λ x. ActsWell bases classes k t (pop_outcome heap x))
      (sym c.seen_as) (go (last_of c.items) refl)
    where
      c : SeesList bases k heap l t
      c = sees_list bases classes k heap well l t h

      go : (o : Option Value) → last_of c.items ≡ o → ActsWell bases classes k t (pop_from heap l c.items o)
      go None e = record { typing = k; grows = extends_refl k; well = well; has = tt }
      go (Some w) e = record {
        typing = k;
        grows = extends_refl k;
        well = write_keeps bases classes k heap l (a_list c.item) (list_cell (take (length c.items - 1) c.items))
            c.recorded (all_take c.item c.items (length c.items - 1) c.have) well;
        has = of_static bases k c.item t c.equal.to w (all_get c.item c.items (length c.items - 1) w c.have e);
      }
  pop_keeps classes heap t _ well h = absurd h

-- a type has each value that another one has, from here on
abbrev pub Holds : Bases → HeapTyping → Tree → Tree → Type 0
Holds bases k s t = (j : HeapTyping) → Extends k j → (x : Value) → HasType bases j s x → HasType bases j t x

pub record Appends (bases : Bases) (k : HeapTyping) (v item : Value) (t : Tree) : Type 0 where
  pub of : Tree
  pub is_list : HasType bases k (ListOf of) v
  pub has : HasType bases k of item
  pub gives : Holds bases k NoneType t

pub record Pops (bases : Bases) (k : HeapTyping) (v : Value) (t : Tree) : Type 0 where
  pub of : Tree
  pub is_list : HasType bases k (ListOf of) v
  pub gives : Holds bases k of t

pub record Gets (bases : Bases) (k : HeapTyping) (v key : Value) (t : Tree) : Type 0 where
  pub keys : Tree
  pub values : Tree
  pub is_key : IsKey keys
  pub is_dict : HasType bases k (DictOf keys values) v
  pub has : HasType bases k keys key
  pub gives : Holds bases k (Union values NoneType) t

-- a method on arguments that suit it, whose answer is of a type
abbrev pub Performs : Bases → HeapTyping → Value → BuiltinMethod → List Value → List NamedValue → Tree → Type 0
Performs bases k v list_append (item ∷ []) [] t = Appends bases k v item t
Performs bases k v list_pop [] [] t = Pops bases k v t
Performs bases k v dict_get (key ∷ []) [] t = Gets bases k v key t
Performs bases k v method values more t = ⊥

-- it is so where the call suits what the method takes
abbrev pub IsOneArgument : Exprs → Keywords → Type 0
IsOneArgument (more_exprs e no_exprs) no_keywords = Unit {0}
IsOneArgument _ _ = ⊥

abbrev IsNoArgument : Exprs → Keywords → Type 0
IsNoArgument no_exprs no_keywords = Unit {0}
IsNoArgument _ _ = ⊥

pub one_suits : (t r : Tree) (args : Exprs) (kws : Keywords) → is_suited (arguments_given args kws)
    (builtin_signature (t ∷ []) r) ≡ true → IsOneArgument args kws
one_suits t r (more_exprs e no_exprs) no_keywords is = tt
one_suits t r no_exprs no_keywords is = false≢true is
one_suits t r no_exprs (more_keywords w e rest) is = false≢true is
one_suits t r (more_exprs e no_exprs) (more_keywords w f rest) is = false≢true is
one_suits t r (more_exprs e (more_exprs f rest)) kws is = absurd (too_many (count_exprs rest) _ is)
  where
    too_many : (c : ℕ) (x : Test) → (nat_le (suc (suc c)) 1 && x) ≡ true → ⊥
    too_many c x e = absurd (grind (arith, nat_tests, e))

none_suits : (r : Tree) (args : Exprs) (kws : Keywords) → is_suited (arguments_given args kws) (builtin_signature [] r)
    ≡ true → IsNoArgument args kws
none_suits r no_exprs no_keywords is = tt
none_suits r no_exprs (more_keywords w e rest) is = false≢true is
none_suits r (more_exprs e rest) kws is = absurd (too_many (count_exprs rest) _ is)
  where
    too_many : (c : ℕ) (x : Test) → (nat_le (suc c) 0 && x) ≡ true → ⊥
    too_many c x e = absurd (grind (arith, nat_tests, e))

-- a value with the types of a seat by position has the type of the parameter there
abbrev pub HasSeat : Bases → HeapTyping → Seat → Signature → ℕ → Type 0
HasSeat bases k seat s i = (w : Value) → HasEach bases k seat.into w
    → HasEach bases k (parameter_type (slice_get s.parameters i)) w

pub suited_performs :
    (bases : Bases) → AreSmaller bases → (k : HeapTyping) (v : Value) (method : BuiltinMethod) (s : Signature)
    → BuiltinCall bases k v method s
    → (seat : ℕ → Seat) (named : List ℕ → Seat) (args : Exprs) (labels : ItemsLabels args) (kws : Keywords)
    (klabels : KeywordsLabels kws) (values : List Value) (more : List NamedValue)
    → is_suited (arguments_given args kws) s ≡ true → HasSeat bases k (seat 0) s 0
    → ArgumentsHave bases k seat args labels values → KeywordsHave bases k named [] kws klabels more
    → (t : Tree) → Holds bases k s.returns t → Performs bases k v method values more t
suited_performs bases ordered k v _ _ (appends u h) seat named args labels kws klabels values more suited has hv hm t
    holds = go args labels kws klabels values more (one_suits u NoneType args kws suited) hv hm
  where
    go : (args : Exprs) (labels : ItemsLabels args) (kws : Keywords) (klabels : KeywordsLabels kws)
        (values : List Value) (more : List NamedValue) → IsOneArgument args kws → ArgumentsHave bases k seat args labels
        values → KeywordsHave bases k named [] kws klabels more → Performs bases k v list_append values more t
    go (more_exprs e no_exprs) labels no_keywords klabels (w ∷ []) [] one hv hm =
        record { of = u; is_list = h; has = (has w hv.0.1).0; gives = holds }
    go (more_exprs e no_exprs) labels no_keywords klabels (w ∷ []) (a ∷ rest) one hv hm = absurd hm
    go (more_exprs e no_exprs) labels no_keywords klabels (w ∷ x ∷ rest) more one hv hm = absurd hv.1
    go (more_exprs e no_exprs) labels no_keywords klabels [] more one hv hm = absurd hv
    go no_exprs labels kws klabels values more one hv hm = absurd one
    go (more_exprs e (more_exprs f rest)) labels kws klabels values more one hv hm = absurd one
    go (more_exprs e no_exprs) labels (more_keywords a f rest) klabels values more one hv hm = absurd one
suited_performs bases ordered k v _ _ (gets a b key h) seat named args labels kws klabels values more suited has hv hm t
    holds = go args labels kws klabels values more (one_suits a (join_or_object bases b NoneType) args kws suited) hv hm
  where
    go : (args : Exprs) (labels : ItemsLabels args) (kws : Keywords) (klabels : KeywordsLabels kws)
        (values : List Value) (more : List NamedValue) → IsOneArgument args kws → ArgumentsHave bases k seat args labels
        values → KeywordsHave bases k named [] kws klabels more → Performs bases k v dict_get values more t
    go (more_exprs e no_exprs) labels no_keywords klabels (w ∷ []) [] one hv hm =
        record {
          keys = a;
          values = b;
          is_key = key;
          is_dict = h;
          has = (has w hv.0.1).0;
          gives = λ j grows x y.
              holds j grows x (either_holds bases ordered j b NoneType x y);
        }
    go (more_exprs e no_exprs) labels no_keywords klabels (w ∷ []) (c ∷ rest) one hv hm = absurd hm
    go (more_exprs e no_exprs) labels no_keywords klabels (w ∷ x ∷ rest) more one hv hm = absurd hv.1
    go (more_exprs e no_exprs) labels no_keywords klabels [] more one hv hm = absurd hv
    go no_exprs labels kws klabels values more one hv hm = absurd one
    go (more_exprs e (more_exprs f rest)) labels kws klabels values more one hv hm = absurd one
    go (more_exprs e no_exprs) labels (more_keywords c f rest) klabels values more one hv hm = absurd one
suited_performs bases ordered k v _ _ (pops u h) seat named args labels kws klabels values more suited has hv hm t
    holds = go args labels kws klabels values more (none_suits u args kws suited) hv hm
  where
    go : (args : Exprs) (labels : ItemsLabels args) (kws : Keywords) (klabels : KeywordsLabels kws)
        (values : List Value) (more : List NamedValue) → IsNoArgument args kws → ArgumentsHave bases k seat args labels
        values → KeywordsHave bases k named [] kws klabels more → Performs bases k v list_pop values more t
    go no_exprs labels no_keywords klabels [] [] one hv hm = record { of = u; is_list = h; gives = holds }
    go no_exprs labels no_keywords klabels [] (c ∷ rest) one hv hm = absurd hm
    go no_exprs labels no_keywords klabels (w ∷ rest) more one hv hm = absurd hv
    go (more_exprs e rest) labels kws klabels values more one hv hm = absurd one
    go no_exprs labels (more_keywords c f rest) klabels values more one hv hm = absurd one

-- ---- the step

module _ (around : Around) (env : Env) (parts : Parts Step) (known : HeapTyping → Type 0) (stays : Stays known)
    (v : Value) (t : Tree) where
  does : (method : BuiltinMethod) (values : List Value) (more : List NamedValue) (a : action.Action)
      → run.builtin_method_action v method values more ≡ Gives a → IsSafe around env known (act value_out a)
      (λ k w. HasType around.bases k t w) → IsSafe around env known
      (call_callee Step free parts (calls_builtin_method v method) values more) (λ k w. HasType around.bases k t w)
  does method values more a is safe = bind_safe around env _ _ _ (λ k b. b ≡ a) _ stays
      (looks_safe around env _ _ _ λ k s h st. subst (λ o. EndsWell (λ b. b ≡ a) o) (sym is) refl)
      λ b. equal_safe around env _ (act value_out) b a _ (λ k h. h.1)
      (weaken around env _ _ _ _ _ (λ k h. h.0) (λ k w h. h) safe)

  of_more : (classes : List facts.ClassFacts) (k : HeapTyping) (u : Tree) (a : action.ActionResult)
      → Holds around.bases k u t → ActsWell around.bases classes k u a → ActsWell around.bases classes k t a
  of_more classes k u a holds w = record { typing = w.typing; grows = w.grows; well = w.well; has = go a.outcome w.has }
    where
      go : (o : action.Outcome) → OutcomeHas around.bases w.typing u o → OutcomeHas around.bases w.typing t o
      go (action.gives x) h = holds w.typing w.grows x h
      go (action.iterates x) h = h
      go action.finished h = h
      go (action.stops value.Other) h = h
      go (action.stops value.Cut) h = h
      go (action.stops value.Outside) h = h
      go (action.stops (value.Raised x)) h = h

  -- a method of a list or a dict on what suits it
  pub performs_safe : (method : BuiltinMethod) (values : List Value) (more : List NamedValue)
      → ((k : HeapTyping) → known k → Performs around.bases k v method values more t)
      → IsSafe around env known (call_callee Step free parts (calls_builtin_method v method) values more)
      (λ k w. HasType around.bases k t w)
  performs_safe list_append (item ∷ []) [] performs = does list_append (item ∷ []) [] (action.append v item) refl
      (acting_safe around env known (action.append v item) t λ f k s knows st. let a = performs k knows in
      of_more around.classes k NoneType _ a.gives (append_keeps around.bases around.classes k s.heap a.of v item st.well
      a.is_list a.has))
  performs_safe list_pop [] [] performs = does list_pop [] [] (action.pop v) refl
      (acting_safe around env known (action.pop v) t λ f k s knows st. let a = performs k knows in
      of_more around.classes k a.of _ a.gives (pop_keeps around.bases k around.classes s.heap a.of v st.well a.is_list))
  performs_safe dict_get (key ∷ []) [] performs = does dict_get (key ∷ []) [] (action.get v key) refl
      (acting_safe around env known (action.get v key) t λ f k s knows st. let a = performs k knows in
      of_more around.classes k (Union a.values NoneType) _ a.gives
      (record {
        typing = k;
        grows = extends_refl k;
        well = st.well;
        has = dict_get_has around.bases around.classes k
            s.heap a.keys a.values v key a.is_key st.well a.is_dict a.has;
      }))
  performs_safe list_append [] more performs = impossible_safe around env known _ _ performs
  performs_safe list_append (item ∷ []) (a ∷ rest) performs = impossible_safe around env known _ _ performs
  performs_safe list_append (item ∷ w ∷ values) more performs = impossible_safe around env known _ _ performs
  performs_safe list_pop [] (a ∷ rest) performs = impossible_safe around env known _ _ performs
  performs_safe list_pop (w ∷ values) more performs = impossible_safe around env known _ _ performs
  performs_safe dict_get [] more performs = impossible_safe around env known _ _ performs
  performs_safe dict_get (key ∷ []) (a ∷ rest) performs = impossible_safe around env known _ _ performs
  performs_safe dict_get (key ∷ w ∷ values) more performs = impossible_safe around env known _ _ performs
