-- A flow goes into a sink, if there is a sink of its place and type.
use Rattle.std.proofs.Common.{◌≡◌, ℕ, suc, ◌+◌, List, [], ◌∷◌, ◌++◌, Bool as Test, true, false, refl, sym, ap, ◌∙◌, subst}
use Rattle.std.proofs.Common.{arith, map, Contains}
use Rattle.std.proofs.lemmas.Grind.{flat_map-append}
use Rattle.std.proofs.lemmas.List.Elements.{Contains-append_left, Contains-append_right}
use Rattle.std.proofs.lemmas.Option.{slice_get-map}
use Rattle.std.proofs.lemmas.Bool.Decides.{nat_tests}
use Rattle.std.specs.List.{AllByRecursion}
use Rattle.std.specs.Option.{option_map}
use Rattle.std.specs.Prelude.{◌&&◌, if◌then◌else◌, flat_map, find, codes, bytes_eq, nat_lt, slice_get, Option, Some}
use Rattle.std.specs.Prelude.{None}
use Rattle.pc_source.specs.declared.place.Place.{Place}
use Rattle.pc_tree.specs.declared.tree.ComparisonOperator.{ComparisonOperator}
use Rattle.pc_tree.specs.declared.tree.ComparisonOperator.TheVariants.{In, NotIn}
use Rattle.pc_tree.specs.declared.code.Code.{Code}
use Rattle.pc_tree.specs.declared.code.Code.TheVariants.{E03, E14, E15, E27}
use Rattle.pc_tree.specs.Depth.{place_of}
use Rattle.pc_tree.specs.Stopping.{has_none}
use Rattle.pc_tree.specs.Tree.{Ann, Expr, Exprs, Keywords, name, attribute, no_exprs, more_exprs}
use Rattle.pc_tree.specs.Tree.{no_keywords, more_keywords, FuncDef, Module}
use Rattle.pc_scope.specs.declared.resolution.Builtin.{Builtin}
use Rattle.pc_scope.specs.declared.resolution.Builtin.TheVariants as builtin
use Rattle.pc_scope.specs.declared.resolution.NameMeaning.{NameMeaning}
use Rattle.pc_scope.specs.declared.resolution.NameMeaning.TheVariants as meaning
use Rattle.pc_scope.specs.declared.resolution.Owner.{Owner}
use Rattle.pc_scope.specs.Bindings.{functions_in}
use Rattle.pc_scope.specs.Resolution.{is_one_of, resolve}
use Rattle.pc_types.specs.Tree.{Tree, Trees, Any, Object, Never, Int, Bool, Str, NoneType, Class, ListOf, DictOf, TupleOf}
use Rattle.pc_types.specs.Tree.{Union, end, more}
use Rattle.pc_types.specs.Below.{Bases}
use Rattle.pc_types.specs.Join.{same_tree, same_trees}
use Rattle.pc_types.specs.Shape.{members}
use Rattle.pc_annotations.specs.Bases.{bases_of}
use Rattle.pc_class.specs.Facts as facts
use Rattle.pc_class.specs.Facts.{TypedParameter, Method, classes_of, class_facts_at, field_by_name, method_by_name}
use Rattle.pc_flow.specs.Environment.{Env, join_or_object}
use Rattle.pc_notes.specs.Notes.{is_same_code}
use Rattle.pc_rules.specs.Operations.{Label, in_error, Offer, found_of, operand_types, has_error, contain_member}
use Rattle.pc_rules.specs.Operations.{index_member, StoreOffer, store_codes, store_index_types, stored_types}
use Rattle.pc_rules.specs.Operations.{store_attribute_member, store_found, store_index_member}
use Rattle.pc_rules.specs.Context.{Context, Signature, FlowsInto, name_label}
use Rattle.pc_rules.specs.Calls.{GivenArguments, CallOffer, signature_offer, fails_at_call, fails_at_callee, value_offer}
use Rattle.pc_rules.specs.Calls.{class_offers, list_offers, dict_offers, method_offers, function_offer}
use Rattle.pc_rules.specs.Calls.{is_suited, is_one, is_two, plain_call, CalleeLabel, value_callee, good_callee, own_callee}
use Rattle.pc_rules.specs.Calls.{builtin_callee, name_callee, method_callee, class_signature, method_signature}
use Rattle.pc_rules.specs.Calls.{builtin_signature, signatures, all_codes, parameter_type, positional_seat, named_seat, Seat}
use Rattle.pc_rules.specs.Calls.{nowhere, length_rule, test_rule}
use Rattle.pc_rules.specs.Labels.{FlowLabels, Labels, whole_label, type_of}
use Rattle.pc_rules.specs.Lawful.{callee_of, compare_types, item_seat, keyword_seat}
use Rattle.pc_rules.specs.Signatures.{signature_of, signatures_of}
use Rattle.pc_module_rules.specs.FlowsOfExpressions.{CodedFlow, coded_one, coded_at}
use Rattle.pc_module_rules.proofs.Places.{own_place}
use Rattle.pc_module_rules.proofs.PlainCodes.{all_append, in_both}
use Rattle.pc_detail_texts.specs.Details.{Sink, Callable, called_function, called_class, called_member}
use Rattle.pc_detail_texts.specs.Details.{a_sought, an_item, a_field}
use Rattle.pc_annotations.specs.Text.{class_text}
use Rattle.pc_rules.specs.Lawful.{int_literal}
use Rattle.pc_detail_rules.specs.Operations.{method_name}
use Rattle.pc_detail_rules.specs.Calls.{Called, value_called, class_called, member_called}
use Rattle.pc_detail_rules.specs.Calls.{list_called, dict_called, container_called, called_on, function_callees}
use Rattle.pc_detail_rules.specs.Calls.{builtin_callees, named_callees, callees_of}
use Rattle.pc_detail_rules.specs.Facts.{Known}
use Rattle.pc_detail_rules.specs.Sinks.{SinkAt, only_sink, one_sink, written_sink, takes_into, parameter_sink}
use Rattle.pc_detail_rules.specs.Sinks.{sink_of_parameter, positional_in}
use Rattle.pc_detail_rules.specs.Sinks.{named_in, positional_on, named_on, positional_sinks, named_sinks, item_sinks}
use Rattle.pc_detail_rules.specs.Sinks.{sought_in, compared_sinks, field_sink, index_in, index_sinks, item_store}
use Rattle.pc_detail_rules.specs.Sinks.{field_store, index_sink, stored_sink}
use Rattle.pc_detail_rules.specs.Written.{written_at, annotation_by_name, annotations_of, field_annotation}
use Rattle.pc_detail_rules.specs.Written.{field_annotations, method_annotations}
use Rattle.pc_detail_rules.proofs.Explained.Calls.{IsContext, IsObjectTyped}
use Rattle.pc_detail_rules.proofs.Explained.Lists.{IsThere, find_there, all_left, all_right, all_pick, all_unjoined}

-- ---- equal types

mutual
  pub tree_same : (t : Tree) → same_tree t t ≡ true
  tree_same Any = refl
  tree_same Object = refl
  tree_same Never = refl
  tree_same Int = refl
  tree_same Bool = refl
  tree_same Str = refl
  tree_same NoneType = refl
  tree_same (Class c) = grind (arith, nat_tests)
  tree_same (ListOf t) = tree_same t
  tree_same (DictOf k v) = λ i. tree_same k i && tree_same v i
  tree_same (TupleOf ts) = trees_same ts
  tree_same (Union a b) = λ i. tree_same a i && tree_same b i

  trees_same : (ts : Trees) → same_trees ts ts ≡ true
  trees_same end = refl
  trees_same (more t ts) = λ i. tree_same t i && trees_same ts i

module _ (ss : List SinkAt) where
  -- there is a sink of this place and type
  abbrev pub SunkAt : Place → Tree → Type 0
  SunkAt p t = IsThere (find (takes_into p t) ss)

  -- there is a sink for the flow
  abbrev pub Sunk : CodedFlow → Type 0
  Sunk d = SunkAt d.place d.into

  -- each of these flows has a sink
  abbrev pub Go : List CodedFlow → Type 0
  Go ds = AllByRecursion Sunk ds

  pub both : (xs ys : List CodedFlow) → Go xs → Go ys → Go (xs ++ ys)
  both xs ys h k = all_append Sunk xs ys h k

  -- each of these sinks is one of all
  abbrev pub AreIn : List SinkAt → Type 0
  AreIn xs = AllByRecursion (Contains ss) xs

  -- there is a sink for each of these types
  abbrev pub AreSunk : Place → List Tree → Type 0
  AreSunk p ts = AllByRecursion (SunkAt p) ts

  pub only_there : (p : Place) (s : Sink Tree) (t : Tree) (a : Option Ann) → Contains ss (only_sink p s a) → SunkAt p t
  only_there p s t a c = find_there (takes_into p t) ss (only_sink p s a) c (λ i. own_place p i && true)

  written_there : (p : Place) (s : Sink Tree) (t : Tree) (a : Option Ann) → Contains ss (written_sink p s t a) → SunkAt p t
  written_there p s t a c = find_there (takes_into p t) ss (written_sink p s t a) c (λ i. own_place p i && tree_same t i)

  pub one_there : (p : Place) (s : Sink Tree) (t : Tree) → Contains ss (one_sink p s t) → SunkAt p t
  one_there p s t c = written_there p s t None c

  pub mapped_there : (p : Place) (s : Sink Tree) (ts : List Tree) → AreIn (map (one_sink p s) ts) → AreSunk p ts
  mapped_there p s [] h = tt
  mapped_there p s (t ∷ ts) h = (one_there p s t h.0, mapped_there p s ts h.1)

  -- ---- flows

  module _ (code : Code) where
    one_sunk : (p : Place) (s t : Tree) (o : Option Code) → SunkAt p t → AllByRecursion Sunk (coded_one code p s t o)
    one_sunk p s t None h = tt
    one_sunk p s t (Some c) h = in_both (AllByRecursion Sunk) (is_same_code code c)
        (record { place = p; from = s; into = t } ∷ []) [] (h, tt) tt

    -- flows into types that have sinks
    pub flows_sunk : (bases : Bases) (m : Label) (ts : List Tree) (flows : FlowLabels) (p : Place)
        → FlowsInto bases m ts flows → AreSunk p ts → AllByRecursion Sunk (coded_at code p flows)
    flows_sunk bases m [] [] p law h = tt
    flows_sunk bases m [] (f ∷ fs) p law h = absurd law
    flows_sunk bases m (t ∷ ts) [] p law h = absurd law
    flows_sunk bases m (t ∷ ts) (f ∷ fs) p law h =
        all_append Sunk (coded_one code p f.from f.into f.code) (coded_at code p fs)
        (one_sunk p f.from f.into f.code (subst (SunkAt p) (sym law.0.into) h.0))
        (flows_sunk bases m ts fs p law.1 h.1)

    pub none_sunk : (flows : FlowLabels) (p : Place) → flows ≡ [] → AllByRecursion Sunk (coded_at code p flows)
    none_sunk flows p e = subst (λ (xs : FlowLabels). AllByRecursion Sunk (coded_at code p xs)) (sym e) tt

  -- ---- operands

  -- the sinks of an operation on each member
  on_members : (p : Place) (takes : Tree → List Tree) (sinks : Tree → List SinkAt)
      → ((u : Tree) → AreIn (sinks u) → AreSunk p (takes u)) → (us : List Tree) → AreIn (flat_map sinks us)
      → AreSunk p (flat_map takes us)
  on_members p takes sinks one [] h = tt
  on_members p takes sinks one (u ∷ us) h = all_append (SunkAt p) (takes u) (flat_map takes us)
      (one u (all_left (Contains ss) (sinks u) (flat_map sinks us) h))
      (on_members p takes sinks one us (all_right (Contains ss) (sinks u) (flat_map sinks us) h))

  -- likewise of a flat list over a mapped one
  pub on_mapped : {O : Type 0} (p : Place) (f : Tree → O) (takes : O → List Tree) (sinks : Tree → List SinkAt)
      → ((u : Tree) → AreIn (sinks u) → AreSunk p (takes (f u))) → (us : List Tree) → AreIn (flat_map sinks us)
      → AreSunk p (flat_map takes (map f us))
  on_mapped p f takes sinks one [] h = tt
  on_mapped p f takes sinks one (u ∷ us) h = all_append (SunkAt p) (takes (f u)) (flat_map takes (map f us))
      (one u (all_left (Contains ss) (sinks u) (flat_map sinks us) h))
      (on_mapped p f takes sinks one us (all_right (Contains ss) (sinks u) (flat_map sinks us) h))

  pub unless : (p : Place) (b : Test) (ts : List Tree) → AreSunk p ts → AreSunk p (if b then [] else ts)
  unless p true ts h = tt
  unless p false ts h = h

  pub operand_sunk : (p : Place) (f : Tree → Offer) (sinks : Tree → List SinkAt)
      → ((u : Tree) → AreIn (sinks u) → AreSunk p (f u).takes) → (us : List Tree) → AreIn (flat_map sinks us)
      → AreSunk p (operand_types (map f us))
  operand_sunk p f sinks one us h = unless p (has_error (found_of (map f us)))
      (flat_map (λ (o : Offer). o.takes) (map f us)) (on_mapped p f (λ (o : Offer). o.takes) sinks one us h)

  pub compared_sunk : (o : ComparisonOperator) (p : Place) (t : Tree) → AreIn (compared_sinks o p t)
      → AreSunk p (compare_types o t)
  compared_sunk In p t h = operand_sunk p contain_member (sought_in p)
      (λ u k. mapped_there p (a_sought u) (contain_member u).takes k) (members t) h
  compared_sunk NotIn p t h = operand_sunk p contain_member (sought_in p)
      (λ u k. mapped_there p (a_sought u) (contain_member u).takes k) (members t) h
  compared_sunk _ p t h = tt

  pub indexed_sunk : (m : Module) (bases : Bases) → bases ≡ bases_of m → (i : Expr) (t : Tree)
      → AreIn (index_sinks m i t)
      → AreSunk (place_of i) (operand_types (map (index_member bases (int_literal i)) (members t)))
  indexed_sunk m bases e i t h = subst (λ (b : Bases). AreSunk (place_of i)
      (operand_types (map (index_member b (int_literal i)) (members t)))) (sym e)
      (operand_sunk (place_of i) (index_member (bases_of m) (int_literal i)) (index_in m i)
      (λ u k. mapped_there (place_of i) (index_sink u) (index_member (bases_of m) (int_literal i) u).takes k) (members t)
      h)

  -- ---- stores

  field_sunk : (m : Module) (p : Place) (word : List ℕ) (c : ℕ) (a : Option Ann) (f : Option TypedParameter)
      (x : Option Method) → AreIn (field_sink p (class_text m c) word a f) → AreSunk p (store_found f x).stores
  field_sunk m p word c a (Some f) x h = (written_there p (a_field (class_text m c) word) f.type a h.0, tt)
  field_sunk m p word c a None (Some x) h = tt
  field_sunk m p word c a None None h = tt

  attribute_sunk : (m : Module) (p : Place) (word : List ℕ) (u : Tree) → AreIn (field_store m p word u)
      → AreSunk p (store_attribute_member (classes_of m) word u).stores
  attribute_sunk m p word (Class c) h = field_sunk m p word c (field_annotation m c word)
      (field_by_name (class_facts_at (classes_of m) c).fields word) (method_by_name (class_facts_at (classes_of m) c).methods word) h
  attribute_sunk m p word Any h = tt
  attribute_sunk m p word _ h = tt

  pub fields_sunk : (m : Module) (p : Place) (word : List ℕ) (us : List Tree) → AreIn (flat_map (field_store m p word) us)
      → AreSunk p (stored_types (map (store_attribute_member (classes_of m) word) us))
  fields_sunk m p word us h = unless p (has_error (store_codes (map (store_attribute_member (classes_of m) word) us)))
      (flat_map (λ (o : StoreOffer). o.stores) (map (store_attribute_member (classes_of m) word) us))
      (on_mapped p (store_attribute_member (classes_of m) word) (λ (o : StoreOffer). o.stores) (field_store m p word)
      (λ u k. attribute_sunk m p word u k) us h)

  pub keys_sunk : (p q : Place) (us : List Tree) → AreIn (flat_map (item_store p q) us)
      → AreSunk p (store_index_types (map store_index_member us))
  keys_sunk p q us h = unless p (has_error (store_codes (map store_index_member us)))
      (flat_map (λ (o : StoreOffer). o.takes) (map store_index_member us))
      (on_mapped p store_index_member (λ (o : StoreOffer). o.takes) (item_store p q)
      (λ u k. mapped_there p (index_sink u) (store_index_member u).takes
      (all_left (Contains ss) (map (one_sink p (index_sink u)) (store_index_member u).takes)
      (map (one_sink q (stored_sink u)) (store_index_member u).stores) k)) us h)

  pub items_stored : (p q : Place) (us : List Tree) → AreIn (flat_map (item_store p q) us)
      → AreSunk q (stored_types (map store_index_member us))
  items_stored p q us h = unless q (has_error (store_codes (map store_index_member us)))
      (flat_map (λ (o : StoreOffer). o.stores) (map store_index_member us))
      (on_mapped q store_index_member (λ (o : StoreOffer). o.stores) (item_store p q)
      (λ u k. mapped_there q (stored_sink u) (store_index_member u).stores
      (all_right (Contains ss) (map (one_sink p (index_sink u)) (store_index_member u).takes)
      (map (one_sink q (stored_sink u)) (store_index_member u).stores) k)) us h)

  -- ---- arguments

  -- a callee has the parameters of a signature
  pub record Takes (cs : List Called) (s : Signature) : Type 0 where
    pub callee : Called
    pub among : Contains cs callee
    pub signature : Signature
    pub is : callee.signature ≡ Some signature
    pub parameters : signature.parameters ≡ s.parameters

  -- there is a callee for each signature that is called
  abbrev pub AreTaken : List Called → List Signature → Type 0
  AreTaken cs signatures' = AllByRecursion (Takes cs) signatures'

  parameter_sunk : (p : Place) (what : Callable Tree) (named : Test) (a : Option Ann) (o : Option TypedParameter)
      → AreIn (sink_of_parameter p what named a o) → AreSunk p (parameter_type o)
  parameter_sunk p what named a None h = tt
  parameter_sunk p what named a (Some q) h = (written_there p (parameter_sink what named q) q.type a h.0, tt)

  position_taken : (p : Place) (k : ℕ) (c : Called) (s t : Signature) → c.signature ≡ Some s
      → s.parameters ≡ t.parameters → AreIn (positional_on p k c) → AreSunk p (parameter_type (slice_get t.parameters k))
  position_taken p k c s t e same h =
      subst (λ (ps : List TypedParameter). AreSunk p (parameter_type (slice_get ps k))) same
      (parameter_sunk p c.what s.takes_names (written_at c.annotations k) (slice_get s.parameters k)
      (subst (λ (o : Option Signature). AreIn (positional_in p k c.what c.annotations o)) e h))

  name_taken : (p : Place) (word : List ℕ) (c : Called) (s t : Signature) → c.signature ≡ Some s
      → s.parameters ≡ t.parameters → AreIn (named_on p word c) → AreSunk p (parameter_type (field_by_name t.parameters word))
  name_taken p word c s t e same h =
      subst (λ (ps : List TypedParameter). AreSunk p (parameter_type (field_by_name ps word))) same
      (parameter_sunk p c.what s.takes_names (annotation_by_name s.parameters c.annotations word)
      (field_by_name s.parameters word)
      (subst (λ (o : Option Signature). AreIn (named_in p word c.what c.annotations o)) e h))

  positions_sunk : (p : Place) (k : ℕ) (cs : List Called) (ts : List Signature) → AreTaken cs ts
      → AreIn (flat_map (positional_on p k) cs)
      → AreSunk p (flat_map (λ (s : Signature). parameter_type (slice_get s.parameters k)) ts)
  positions_sunk p k cs [] taken h = tt
  positions_sunk p k cs (s ∷ ts) taken h =
      let one = taken.0 in
      let here = all_pick (λ (c : Called). AreIn (positional_on p k c)) cs one.callee
      (all_unjoined (Contains ss) (positional_on p k) cs h) one.among in
      all_append (SunkAt p) (parameter_type (slice_get s.parameters k))
      (flat_map (λ (x : Signature). parameter_type (slice_get x.parameters k)) ts)
      (position_taken p k one.callee one.signature s one.is one.parameters here) (positions_sunk p k cs ts taken.1 h)

  names_sunk : (p : Place) (word : List ℕ) (cs : List Called) (ts : List Signature) → AreTaken cs ts
      → AreIn (flat_map (named_on p word) cs)
      → AreSunk p (flat_map (λ (s : Signature). parameter_type (field_by_name s.parameters word)) ts)
  names_sunk p word cs [] taken h = tt
  names_sunk p word cs (s ∷ ts) taken h =
      let one = taken.0 in
      let here = all_pick (λ (c : Called). AreIn (named_on p word c)) cs one.callee
      (all_unjoined (Contains ss) (named_on p word) cs h) one.among in
      all_append (SunkAt p) (parameter_type (field_by_name s.parameters word))
      (flat_map (λ (x : Signature). parameter_type (field_by_name x.parameters word)) ts)
      (name_taken p word one.callee one.signature s one.is one.parameters here) (names_sunk p word cs ts taken.1 h)

  -- the signatures that are called have callees, if those of all members have
  called_taken : (cs : List Called) (os : List CallOffer) → AreTaken cs (flat_map (λ (o : CallOffer). o.calls) os)
      → AreTaken cs (signatures os)
  called_taken cs os h = go (has_error (all_codes os))
    where
      go : (b : Test) → AreTaken cs (if b then [] else flat_map (λ (o : CallOffer). o.calls) os)
      go true = tt
      go false = h

  pub position_sunk : (p : Place) (k : ℕ) (cs : List Called) (os : List CallOffer)
      → AreTaken cs (flat_map (λ (o : CallOffer). o.calls) os) → AreIn (flat_map (positional_on p k) cs)
      → AreSunk p (positional_seat os k).into
  position_sunk p k cs os taken h = positions_sunk p k cs (signatures os) (called_taken cs os taken) h

  pub name_sunk : (p : Place) (word : List ℕ) (cs : List Called) (os : List CallOffer)
      → AreTaken cs (flat_map (λ (o : CallOffer). o.calls) os) → AreIn (flat_map (named_on p word) cs)
      → AreSunk p (named_seat os word).into
  name_sunk p word cs os taken h = names_sunk p word cs (signatures os) (called_taken cs os taken) h

  -- ---- seats

  -- there are sinks for the seats of items
  abbrev pub SeatsSunk : (seat : ℕ → Seat) → Exprs → Type 0
  SeatsSunk seat no_exprs = Unit {0}
  SeatsSunk seat (more_exprs e rest) = AreSunk (place_of e) (seat 0).into × SeatsSunk (λ i. seat (suc i)) rest

  pub no_seats : (seat : ℕ → Seat) → ((i : ℕ) → (seat i).into ≡ []) → (es : Exprs) → SeatsSunk seat es
  no_seats seat none no_exprs = tt
  no_seats seat none (more_exprs e rest) = (
    subst (AreSunk (place_of e)) (sym (none 0)) tt,
    no_seats (λ i. seat (suc i)) (λ i. none (suc i)) rest,
  )

  pub listed_seats : (t : Tree) (es : Exprs) → AreIn (item_sinks (ListOf t) es)
      → SeatsSunk (λ (i : ℕ). item_seat (Some t)) es
  listed_seats t no_exprs h = tt
  listed_seats t (more_exprs e rest) h = (
    (one_there (place_of e) (an_item (ListOf t)) t h.0, tt),
    listed_seats t rest h.1,
  )

  pub argument_seats : (cs : List Called) (os : List CallOffer) → AreTaken cs (flat_map (λ (o : CallOffer). o.calls) os)
      → (k : ℕ) (seat : ℕ → Seat) → ((i : ℕ) → (seat i).into ≡ (positional_seat os (i + k)).into) → (es : Exprs)
      → AreIn (positional_sinks cs k es) → SeatsSunk seat es
  argument_seats cs os taken k seat same no_exprs h = tt
  argument_seats cs os taken k seat same (more_exprs e rest) h =
      let here = flat_map (positional_on (place_of e) k) cs in
      let at_start : 0 + k ≡ k = omega arith in
      let first : (seat 0).into ≡ (positional_seat os k).into = same 0 ∙ ap (λ (n : ℕ). (positional_seat os n).into) at_start
      in (
        subst (AreSunk (place_of e)) (sym first) (position_sunk (place_of e) k cs os taken
            (all_left (Contains ss) here (positional_sinks cs (suc k) rest) h)),
        argument_seats cs os taken (suc k) (λ i. seat (suc i)) (λ i. same (suc i)
            ∙ ap (λ (n : ℕ). (positional_seat os n).into) (moved i k)) rest
            (all_right (Contains ss) here (positional_sinks cs (suc k) rest) h),
      )
    where
      moved : (i k : ℕ) → suc i + k ≡ i + suc k
      moved i k = omega arith

  -- there are sinks for the seats of arguments by name
  abbrev pub KeysSunk : (seat : List ℕ → Seat) → (before : List (List ℕ)) → Keywords → Type 0
  KeysSunk seat before no_keywords = Unit {0}
  KeysSunk seat before (more_keywords n e rest) = AreSunk (place_of e) (keyword_seat seat before n).into
      × KeysSunk seat (n.text ∷ before) rest

  pub keyword_seats : (cs : List Called) (os : List CallOffer) → AreTaken cs (flat_map (λ (o : CallOffer). o.calls) os)
      → (before : List (List ℕ)) (es : Keywords) → AreIn (named_sinks cs es) → KeysSunk (named_seat os) before es
  keyword_seats cs os taken before no_keywords h = tt
  keyword_seats cs os taken before (more_keywords n e rest) h =
      let here = flat_map (named_on (place_of e) n.text) cs in (
        in_both (λ (s : Seat). AreSunk (place_of e) s.into) (is_one_of n.text before) nowhere (named_seat os n.text) tt
            (name_sunk (place_of e) n.text cs os taken (all_left (Contains ss) here (named_sinks cs rest) h)),
        keyword_seats cs os taken (n.text ∷ before) rest (all_right (Contains ss) here (named_sinks cs rest) h),
      )

  -- ---- who is called

  taken_left : (cs ds : List Called) (ts : List Signature) → AreTaken cs ts → AreTaken (cs ++ ds) ts
  taken_left cs ds [] h = tt
  taken_left cs ds (s ∷ ts) h = (
    record {
      callee = h.0.callee;
      among = Contains-append_left cs ds h.0.callee h.0.among;
      signature = h.0.signature;
      is = h.0.is;
      parameters = h.0.parameters;
    },
    taken_left cs ds ts h.1,
  )

  taken_right : (cs ds : List Called) (ts : List Signature) → AreTaken ds ts → AreTaken (cs ++ ds) ts
  taken_right cs ds [] h = tt
  taken_right cs ds (s ∷ ts) h = (
    record {
      callee = h.0.callee;
      among = Contains-append_right cs ds h.0.callee h.0.among;
      signature = h.0.signature;
      is = h.0.is;
      parameters = h.0.parameters;
    },
    taken_right cs ds ts h.1,
  )

  abbrev AreCalled : List Called → List CallOffer → Type 0
  AreCalled cs os = AreTaken cs (flat_map (λ (o : CallOffer). o.calls) os)

  -- a call of one signature, where a callee has the same parameters
  pub one_taken : (g : GivenArguments) (s t : Signature) (what : Callable Tree) (annotations : List (Option Ann))
      → t.parameters ≡ s.parameters
      → AreCalled (record { what = what; signature = Some t; annotations = annotations } ∷ []) (signature_offer g s ∷ [])
  one_taken g s t what annotations same = go (is_suited g s)
    where
      c : Called
      c = record { what = what; signature = Some t; annotations = annotations }

      go : (b : Test) → AreCalled (c ∷ []) ((if b then record {
        at_callee = [];
        at_call = [];
        gives = s.returns;
        calls =
            s ∷ [];
      } else fails_at_call E14) ∷ [])
      go true = (record { callee = c; among = (0, omega arith, refl); signature = t; is = refl; parameters = same }, tt)
      go false = tt

  no_calls : (cs : List Called) (ts : List Tree) → AreCalled cs (map value_offer ts)
  no_calls cs [] = tt
  no_calls cs (Any ∷ ts) = no_calls cs ts
  no_calls cs (_ ∷ ts) = no_calls cs ts

  member_taken : (m : Module) (g : GivenArguments) (f : Option Method) (p : Option TypedParameter)
      → AreCalled (member_called m f p) (class_offers g f p)
  member_taken m g (Some f) p = one_taken g (method_signature f) (method_signature f)
      (called_function (method_name m f)) (method_annotations m f) refl
  member_taken m g None (Some p) = no_calls (flat_map value_called (members p.type)) (members p.type)
  member_taken m g None None = tt

  list_taken : (g : GivenArguments) (word : List ℕ) (t : Tree) → AreCalled (list_called t word) (list_offers g word t)
  list_taken g word t = go (bytes_eq word (codes "append")) (bytes_eq word (codes "pop"))
    where
      appended : CallOffer
      appended = signature_offer g (builtin_signature (t ∷ []) NoneType)

      popped : CallOffer
      popped = signature_offer g (builtin_signature [] t)

      go : (a b : Test) → AreCalled (if a then container_called (ListOf t) word (t ∷ []) ∷ []
          else (if b then container_called (ListOf t) word [] ∷ [] else []))
          (if a then appended ∷ [] else (if b then popped ∷ [] else fails_at_callee E15 ∷ []))
      go true b = one_taken g (builtin_signature (t ∷ []) NoneType) (builtin_signature (t ∷ []) Any)
          (called_member (ListOf t) word) [] refl
      go false true = one_taken g (builtin_signature [] t) (builtin_signature [] Any) (called_member (ListOf t) word)
          [] refl
      go false false = tt

  dict_taken : (bases : Bases) (g : GivenArguments) (word : List ℕ) (k v : Tree)
      → AreCalled (dict_called k v word) (dict_offers bases g word k v)
  dict_taken bases g word k v = go (bytes_eq word (codes "get"))
    where
      got : Signature
      got = builtin_signature (k ∷ []) (join_or_object bases v NoneType)

      go : (b : Test) → AreCalled (if b then container_called (DictOf k v) word (k ∷ []) ∷ [] else [])
          (if b then signature_offer g got ∷ [] else fails_at_callee E15 ∷ [])
      go true = one_taken g got (builtin_signature (k ∷ []) Any) (called_member (DictOf k v) word) [] refl
      go false = tt

  module _ (m : Module) (ctx : Context) (g : GivenArguments) (word : List ℕ) where
    method_taken : ctx.classes ≡ classes_of m → (t : Tree) → AreCalled (called_on m word t) (method_offers ctx g word t)
    method_taken cs (Class c) =
        subst (λ (xs : List facts.ClassFacts). AreCalled (called_on m word (Class c)) (class_offers g
        (method_by_name (class_facts_at xs c).methods word) (field_by_name (class_facts_at xs c).fields word))) (sym cs)
        (member_taken m g (method_by_name (class_facts_at (classes_of m) c).methods word)
        (field_by_name (class_facts_at (classes_of m) c).fields word))
    method_taken cs (ListOf t) = list_taken g word t
    method_taken cs (DictOf k v) = dict_taken ctx.bases g word k v
    method_taken cs Any = tt
    method_taken cs _ = tt

    methods_taken : ctx.classes ≡ classes_of m → (ts : List Tree)
        → AreCalled (flat_map (called_on m word) ts) (flat_map (method_offers ctx g word) ts)
    methods_taken cs [] = tt
    methods_taken cs (t ∷ ts) =
        let first = called_on m word t in
        let later = flat_map (called_on m word) ts in
        let calls : CallOffer → List Signature = λ (o : CallOffer). o.calls in
        let here = flat_map calls (method_offers ctx g word t) in
        let behind = flat_map calls (flat_map (method_offers ctx g word) ts) in
        subst (AreTaken (first ++ later)) (sym (flat_map-append calls (method_offers ctx g word t)
        (flat_map (method_offers ctx g word) ts)))
        (all_append (Takes (first ++ later)) here behind (taken_left first later here (method_taken cs t))
        (taken_right first later behind (methods_taken cs ts)))

  -- ---- names

  or_early : (cs : List Called) (b : Test) (o : CallOffer) → AreCalled cs (o ∷ [])
      → AreCalled cs (if b then good_callee (o ∷ []) else value_callee (in_error E03)).offers
  or_early cs true o h = h
  or_early cs false o h = tt

  function_taken : (m : Module) (g : GivenArguments) (o : Option FuncDef)
      → AreCalled (function_callees m o) (function_offer g (option_map (signature_of m) o) ∷ [])
  function_taken m g None = tt
  function_taken m g (Some f) = one_taken g (signature_of m f) (signature_of m f)
      (called_function (record { class = None; name = f.name.text })) (annotations_of (Some f)) refl

  own_taken : (cs : List Called) (b : Test) (x : CalleeLabel) → AreCalled cs x.offers
      → AreCalled cs (if b then x else good_callee (fails_at_call E14 ∷ [])).offers
  own_taken cs true x h = h
  own_taken cs false x h = tt

  plain_taken : (cs : List Called) (b : Test) (x y : CallOffer) → AreCalled cs (x ∷ []) → AreCalled cs (y ∷ [])
      → AreCalled cs ((if b then x else y) ∷ [])
  plain_taken cs true x y h k = h
  plain_taken cs false x y h k = k

  built_taken : (g : GivenArguments) (b : Builtin) (cs : List Called) → AreCalled cs (builtin_callee g b).offers
  built_taken g builtin.Print cs = plain_taken cs (has_none g.named) (plain_call NoneType) (fails_at_call E14) tt tt
  built_taken g builtin.Str cs = plain_taken cs (is_one g) (plain_call Str) (fails_at_call E14) tt tt
  built_taken g builtin.Len cs = own_taken cs (is_one g) (own_callee length_rule) tt
  built_taken g builtin.IsInstance cs = own_taken cs (is_two g) (own_callee test_rule) tt
  built_taken g builtin.Range cs = plain_taken cs (is_one g) (fails_at_call E27) (fails_at_call E14) tt tt
  built_taken g _ cs = tt

  module _ (m : Module) (ctx : Context) (g : GivenArguments) where
    name_taken_by : ctx.functions ≡ signatures_of m → ctx.classes ≡ classes_of m → (env : Env) (here : Tree) (r : NameMeaning)
        → AreCalled (named_callees m g.positional here r) (name_callee ctx env g r).offers
    unfolding signatures_of
    name_taken_by fs cs env here (meaning.Func i) =
        let called = function_callees m (slice_get (functions_in m.items) i) in
        or_early called ctx.in_body (function_offer g (slice_get ctx.functions i))
        (subst (λ (xs : List Signature). AreCalled called (function_offer g (slice_get xs i) ∷ [])) (sym fs)
        (subst (λ (o : Option Signature). AreCalled called (function_offer g o ∷ []))
        (sym (slice_get-map (signature_of m) (functions_in m.items) i))
        (function_taken m g (slice_get (functions_in m.items) i))))
    name_taken_by fs cs env here (meaning.Class c) =
        let called = class_called m c ∷ [] in
        let s = class_signature (classes_of m) c in
        or_early called (nat_lt c ctx.known) (signature_offer g (class_signature ctx.classes c))
        (subst (λ (xs : List facts.ClassFacts). AreCalled called (signature_offer g (class_signature xs c) ∷ [])) (sym cs)
        (one_taken g s s (called_class (class_text m c)) (field_annotations m c s.parameters) refl))
    name_taken_by fs cs env here (meaning.Builtin b) = built_taken g b (builtin_callees g.positional b)
    name_taken_by fs cs env here (meaning.Local x) = no_calls (flat_map value_called (members here)) (members (name_label ctx env (meaning.Local x)).type)
    name_taken_by fs cs env here (meaning.Const i) = no_calls (flat_map value_called (members here)) (members (name_label ctx env (meaning.Const i)).type)
    name_taken_by fs cs env here meaning.None = no_calls (flat_map value_called (members here)) (members (name_label ctx env meaning.None).type)

    other_taken : (called : List Called) (b : Test) (label : Label)
        → AreCalled called (if b then value_callee label else value_callee (in_error E03)).offers
    other_taken called true label = no_calls called (members label.type)
    other_taken called false label = tt

    attribute_taken : ctx.classes ≡ classes_of m → (word : List ℕ) (b : Test) (here t : Tree) → here ≡ t
        → AreCalled (flat_map (called_on m word) (members here))
        (if b then method_callee ctx g word t else value_callee (in_error E03)).offers
    attribute_taken cs word true here t e =
        subst (λ (s : Tree). AreCalled (flat_map (called_on m word) (members s)) (method_callee ctx g word t).offers) (sym e)
        (methods_taken m ctx g word cs (members t))
    attribute_taken cs word false here t e = tt

  module _ (m : Module) (known : Known) (owner : Owner) (ctx : Context) (is : IsContext m owner ctx) (env : Env)
      (g : GivenArguments) where
    -- each signature that a call has is that of a callee
    pub callee_taken : (c : Expr) (value : Labels c) → IsObjectTyped known c value
        → AreCalled (callees_of m known (resolve m owner) g.positional c) (callee_of ctx env g c value).offers
    callee_taken (name n) value o =
        subst (λ (r : NameMeaning). AreCalled (named_callees m g.positional (known.types n.place) r)
        (name_callee ctx env g (ctx.resolve n.text)).offers) (sym (is.resolves n.text))
        (name_taken_by m ctx g is.functions is.classes env (known.types n.place) (ctx.resolve n.text))
    callee_taken (attribute p q field) value o = attribute_taken m ctx g is.classes field.text ctx.in_body
        (known.types (place_of q)) (type_of q value.object) o
    callee_taken c value o = other_taken m ctx g (flat_map value_called (members (known.types (place_of c)))) ctx.in_body
        (whole_label c value)
