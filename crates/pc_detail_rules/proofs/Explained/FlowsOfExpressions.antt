-- Each flow in an expression has a sink, if the types of its parts are known at their places.
use Rattle.std.proofs.Common.{◌≡◌, ◌+◌, ℕ, suc, List, [], ◌∷◌, ◌++◌, Bool as Test, true, false, refl, sym, ap, ◌∙◌, subst}
use Rattle.std.proofs.Common.{arith, Contains}
use Rattle.std.proofs.lemmas.Option.{none-some}
use Rattle.std.specs.List.{AllByRecursion}
use Rattle.std.specs.Prelude.{flat_map, Option, Some, None}
use Rattle.pc_source.specs.declared.place.Place.{Place}
use Rattle.pc_tree.specs.declared.code.Code.{Code}
use Rattle.pc_tree.specs.Depth.{place_of}
use Rattle.pc_tree.specs.Tree.{Expr, Exprs, Entries, Keywords, name, number, text, truth, nothing, tuple, list, dict}
use Rattle.pc_tree.specs.Tree.{negative, negation, binary, compare, is_none, is_not_none, conjunction, disjunction}
use Rattle.pc_tree.specs.Tree.{attribute, index, call, no_exprs, more_exprs, no_entries, more_entries, no_keywords}
use Rattle.pc_tree.specs.Tree.{more_keywords}
use Rattle.pc_tree.specs.Tree.{Module}
use Rattle.pc_scope.specs.declared.resolution.Owner.{Owner}
use Rattle.pc_scope.specs.Expressions.{is_instance_test, parts_in, parts_in_all, parts_in_entries}
use Rattle.pc_scope.specs.Expressions.{parts_in_keywords}
use Rattle.pc_scope.specs.Resolution.{resolve}
use Rattle.pc_types.specs.Tree.{Tree, DictOf}
use Rattle.pc_types.specs.Below.{Bases}
use Rattle.pc_types.specs.Shape.{members}
use Rattle.pc_annotations.specs.Bases.{bases_of}
use Rattle.pc_flow.specs.Environment.{Env}
use Rattle.pc_rules.specs.Operations.{Label}
use Rattle.pc_rules.specs.Context.{Context}
use Rattle.pc_rules.specs.Calls.{GivenArguments, arguments_given, CallOffer, positional_seat, Seat}
use Rattle.pc_rules.specs.Labels.{Labels, ItemsLabels, EntriesLabels, KeywordsLabels, whole_label, type_of}
use Rattle.pc_rules.specs.Labels.{with_label, item_types, key_types, value_types}
use Rattle.pc_rules.specs.Lawful.{list_item, KeyValue, dict_parts, members_of_expected, item_seat, key_seat, value_seat}
use Rattle.pc_rules.specs.Lawful.{list_label, DictRule, compare_types, callee_of, Lawful, LawfulItems, LawfulEntries}
use Rattle.pc_rules.specs.Lawful.{LawfulKeywords, keyword_seat}
use Rattle.pc_module_rules.specs.FlowsOfExpressions.{coded_at, coded_in, coded_in_exprs, coded_in_arguments}
use Rattle.pc_module_rules.specs.FlowsOfExpressions.{coded_in_entries, coded_in_keywords}
use Rattle.pc_module_rules.specs.TypesOfExpressions.{TypeAt, type_here, callee_here, types_inside, types_in_exprs}
use Rattle.pc_module_rules.specs.TypesOfExpressions.{types_in_arguments, types_in_entries, types_in_keywords, types_in}
use Rattle.pc_detail_texts.specs.Details.{a_key, a_value}
use Rattle.pc_detail_rules.specs.Calls.{Called, callees_of}
use Rattle.pc_detail_rules.specs.Facts.{Known}
use Rattle.pc_detail_rules.specs.Sinks.{SinkAt, positional_sinks, named_sinks}
use Rattle.pc_detail_rules.specs.Sinks.{item_sinks, entry_sinks, compared_sinks, index_sinks}
use Rattle.pc_detail_rules.specs.Sinks.{sinks_below}
use Rattle.pc_detail_rules.proofs.Explained.Calls.{IsContext, IsObjectTyped}
use Rattle.pc_detail_rules.proofs.Explained.Labels.{with_inside}
use Rattle.pc_detail_rules.proofs.Explained.Lists.{all_left, all_right}
use Rattle.pc_detail_rules.proofs.Explained.Sinks.{AreIn, AreSunk, one_there, flows_sunk}
use Rattle.pc_detail_rules.proofs.Explained.Sinks.{compared_sunk, indexed_sunk}
use Rattle.pc_detail_rules.proofs.Explained.Sinks.{SeatsSunk, no_seats, listed_seats, argument_seats, KeysSunk}
use Rattle.pc_detail_rules.proofs.Explained.Sinks.{keyword_seats, AreTaken, callee_taken}
use Rattle.pc_detail_rules.proofs.Explained.Sinks.{Go, both}

with_coded : (code : Code) (c : Expr) (value : Labels c) (here : Label) → coded_in code c (with_label c value here)
    ≡ coded_in code c value
with_coded code (name n) value here = refl
with_coded code _ value here = refl

-- a type is known at its place
abbrev pub IsKnown : Known → TypeAt → Type 0
IsKnown known t = known.types t.place ≡ t.type

-- the sinks of the parts of an expression of this owner are among all
abbrev pub HasSinks : Module → Known → List SinkAt → Owner → Expr → Type 0
HasSinks m known ss owner e = AreIn ss (sinks_below m known (resolve m owner) e)

-- likewise of each part of an expression
abbrev pub HasAll : Module → Known → List SinkAt → Owner → Expr → Type 0
HasAll m known ss owner e = AllByRecursion (HasSinks m known ss owner) (parts_in false e)

pub numbered : (os : List CallOffer) (i : ℕ) → (positional_seat os i).into ≡ (positional_seat os (i + 0)).into
numbered os i = let e : i ≡ i + 0 = omega arith in ap (λ (n : ℕ). (positional_seat os n).into) e

module _ (m : Module) (known : Known) (code : Code) (ss : List SinkAt) where
  abbrev AreKnown : List TypeAt → Type 0
  AreKnown ts = AllByRecursion (IsKnown known) ts

  -- the type of an expression is known, if a type is expected of it
  abbrev IsExpected : (want : Option Tree) (e : Expr) → Labels e → Type 0
  IsExpected want e labels = (t : Tree) → want ≡ Some t → known.types (place_of e) ≡ type_of e labels

  unwanted : (e : Expr) (labels : Labels e) → IsExpected None e labels
  unwanted e labels t h = absurd (none-some t h)

  own_type : (want : Option Tree) (e : Expr) (labels : Labels e)
      → AreKnown (types_inside true e labels ++ type_here e labels) → IsExpected want e labels
  own_type want e labels h t i = (all_right (IsKnown known) (types_inside true e labels) (type_here e labels) h).0

  inner : (e : Expr) (labels : Labels e) → AreKnown (types_inside true e labels ++ type_here e labels)
      → AreKnown (types_inside true e labels)
  inner e labels h = all_left (IsKnown known) (types_inside true e labels) (type_here e labels) h

  object_known : (c : Expr) (value : Labels c) → AreKnown (types_inside true c value) → IsObjectTyped known c value
  object_known (attribute p e field) value h = (all_right (IsKnown known) (types_inside true e value.object)
      (type_here e value.object) h).0
  object_known c value h = tt

  -- ---- displays

  list_seats : (p : Place) (es : Exprs) (want : Option Tree) (types : List Tree) (here : Label)
      → here ≡ list_label (bases_of m) (list_item (members_of_expected want)) types
      → ((t : Tree) → want ≡ Some t → known.types p ≡ here.type) → AreIn ss (item_sinks (known.types p) es)
      → SeatsSunk ss (λ (i : ℕ). item_seat (list_item (members_of_expected want))) es
  list_seats p es None types here law own has = no_seats ss (λ (i : ℕ). item_seat None) (λ i. refl) es
  list_seats p es (Some u) types here law own has = go (list_item (members u)) law
    where
      go : (o : Option Tree) → here ≡ list_label (bases_of m) o types → SeatsSunk ss (λ (i : ℕ). item_seat o) es
      go None law = no_seats ss (λ (i : ℕ). item_seat None) (λ i. refl) es
      go (Some t) law = listed_seats ss t es (subst (λ (x : Tree). AreIn ss (item_sinks x es))
          (own u refl ∙ ap (λ (l : Label). l.type) law) has)

  -- there are sinks for the seats of keys and values
  abbrev EntriesSunk : (k v : Seat) → Entries → Type 0
  EntriesSunk k v no_entries = Unit {0}
  EntriesSunk k v (more_entries a b rest) = AreSunk ss (place_of a) k.into × (AreSunk ss (place_of b) v.into
      × EntriesSunk k v rest)

  no_entry_seats : (es : Entries) → EntriesSunk (key_seat None) (value_seat None) es
  no_entry_seats no_entries = tt
  no_entry_seats (more_entries a b rest) = (tt, (tt, no_entry_seats rest))

  entry_seats : (k v : Tree) (es : Entries) → AreIn ss (entry_sinks (DictOf k v) es)
      → EntriesSunk (item_seat (Some k)) (item_seat (Some v)) es
  entry_seats k v no_entries h = tt
  entry_seats k v (more_entries a b rest) h = (
    (one_there ss (place_of a) (a_key (DictOf k v)) k h.0, tt),
    ((one_there ss (place_of b) (a_value (DictOf k v)) v h.1.0, tt), entry_seats k v rest h.1.1),
  )

  dict_seats : (p : Place) (es : Entries) (want : Option Tree) (keys values : List Tree) (here : Label)
      → DictRule (bases_of m) (dict_parts (members_of_expected want)) keys values here
      → ((t : Tree) → want ≡ Some t → known.types p ≡ here.type) → AreIn ss (entry_sinks (known.types p) es)
      → EntriesSunk (key_seat (dict_parts (members_of_expected want))) (value_seat (dict_parts (members_of_expected want)))
      es
  dict_seats p es None keys values here law own has = no_entry_seats es
  dict_seats p es (Some u) keys values here law own has = go (dict_parts (members u)) law
    where
      go : (o : Option KeyValue) → DictRule (bases_of m) o keys values here → EntriesSunk (key_seat o) (value_seat o) es
      go None law = no_entry_seats es
      go (Some kv) law = entry_seats kv.key kv.value es (subst (λ (x : Tree). AreIn ss (entry_sinks x es))
          (own u refl ∙ ap (λ (l : Label). l.type) law) has)

  -- ---- expressions

  module _ (owner : Owner) (ctx : Context) (is : IsContext m owner ctx) (declared : List Tree) where
    two_sunk : (l r : Expr) (lm : Labels l) (rm : Labels r)
        → AreKnown ((types_inside true l lm ++ type_here l lm) ++ (types_inside true r rm ++ type_here r rm))
        → AllByRecursion (HasSinks m known ss owner) (parts_in false l ++ parts_in false r)
        → (AreKnown (types_inside true l lm) → HasAll m known ss owner l → Go ss (coded_in code l lm))
        → (AreKnown (types_inside true r rm) → HasAll m known ss owner r → Go ss (coded_in code r rm))
        → Go ss (coded_in code l lm) × Go ss (coded_in code r rm)
    two_sunk l r lm rm typed has f g =
        let first = types_inside true l lm ++ type_here l lm in
        let second = types_inside true r rm ++ type_here r rm in (
          f (inner l lm (all_left (IsKnown known) first second typed))
              (all_left (HasSinks m known ss owner) (parts_in false l) (parts_in false r) has),
          g (inner r rm (all_right (IsKnown known) first second typed))
              (all_right (HasSinks m known ss owner) (parts_in false l) (parts_in false r) has),
        )

    -- the arguments of a call go into the parameters of its callees
    module _ (env : Env) (callee : Expr) (args : Exprs) (kws : Keywords) (value : Labels callee) where
      abbrev given : GivenArguments
      given = arguments_given args kws

      abbrev called : List Called
      called = callees_of m known (resolve m owner) given.positional callee

      abbrev offers : List CallOffer
      offers = (callee_of ctx env given callee value).offers

      taken : AreKnown (types_inside true callee value)
          → AreTaken ss called (flat_map (λ (o : CallOffer). o.calls) offers)
      taken typed = callee_taken ss m known owner ctx is env given callee value (object_known callee value typed)

    mutual
      pub sunk : (env : Env) (want : Option Tree) (e : Expr) (labels : Labels e) → Lawful ctx declared env want e labels
          → IsExpected want e labels → AreKnown (types_inside true e labels) → HasAll m known ss owner e
          → Go ss (coded_in code e labels)
      sunk env want (name n) labels law own typed has = tt
      sunk env want (number p d) labels law own typed has = tt
      sunk env want (text p d) labels law own typed has = tt
      sunk env want (truth p b) labels law own typed has = tt
      sunk env want (nothing p) labels law own typed has = tt
      sunk env want (tuple p es) labels law own typed has =
          items_sunk env _ es labels.items law.items (no_seats ss _ (λ i. refl) es) typed has.1
      sunk env want (list p es) labels law own typed has =
          items_sunk env _ es labels.items law.items
          (list_seats p es want (item_types es labels.items) labels.here
          (subst (λ (b : Bases). labels.here ≡ list_label b (list_item (members_of_expected want)) (item_types es labels.items))
          is.bases law.here) own has.0) typed has.1
      sunk env want (dict p es) labels law own typed has =
          entries_sunk env _ _ es labels.entries law.entries
          (dict_seats p es want (key_types es labels.entries) (value_types es labels.entries) labels.here
          (subst (λ (b : Bases). DictRule b (dict_parts (members_of_expected want)) (key_types es labels.entries)
          (value_types es labels.entries) labels.here) is.bases law.here) own has.0) typed has.1
      sunk env want (negative p e) labels law own typed has =
          sunk env None e labels.operand law.operand (unwanted e labels.operand) (inner e labels.operand typed) has.1
      sunk env want (negation p e) labels law own typed has =
          sunk env None e labels.operand law.operand (unwanted e labels.operand) (inner e labels.operand typed) has.1
      sunk env want (binary p o l r) labels law own typed has =
          let each = two_sunk l r labels.left labels.right typed has.1
          (λ t k. sunk env None l labels.left law.left (unwanted l labels.left) t k)
          (λ t k. sunk env None r labels.right law.right (unwanted r labels.right) t k) in
          both ss (coded_in code l labels.left) (coded_in code r labels.right) each.0 each.1
      sunk env want (compare p o l r) labels law own typed has =
          let each = two_sunk l r labels.left labels.right typed has.1
          (λ t k. sunk env None l labels.left law.left (unwanted l labels.left) t k)
          (λ t k. sunk env None r labels.right law.right (unwanted r labels.right) t k) in
          let in_left = types_inside true l labels.left ++ type_here l labels.left in
          let in_right = types_inside true r labels.right ++ type_here r labels.right in
          let right_type = (all_right (IsKnown known) (types_inside true r labels.right) (type_here r labels.right)
          (all_right (IsKnown known) in_left in_right typed)).0 in
          let into = compared_sunk ss o (place_of l) (type_of r labels.right)
          (subst (λ (t : Tree). AreIn ss (compared_sinks o (place_of l) t)) right_type has.0) in
          both ss (coded_in code l labels.left) (coded_in code r labels.right ++ coded_at code (place_of l) labels.flows)
          each.0 (both ss (coded_in code r labels.right) (coded_at code (place_of l) labels.flows) each.1
          (flows_sunk ss code ctx.bases (whole_label l labels.left) (compare_types o (type_of r labels.right)) labels.flows
          (place_of l) law.flows into))
      sunk env want (is_none p e) labels law own typed has =
          sunk env None e labels.operand law.operand (unwanted e labels.operand) (inner e labels.operand typed) has.1
      sunk env want (is_not_none p e) labels law own typed has =
          sunk env None e labels.operand law.operand (unwanted e labels.operand) (inner e labels.operand typed) has.1
      sunk env want (conjunction p l r) labels law own typed has =
          let each = two_sunk l r labels.left labels.right typed has.1
          (λ t k. sunk env None l labels.left law.left (unwanted l labels.left) t k)
          (λ t k. sunk _ None r labels.right law.right (unwanted r labels.right) t k) in
          both ss (coded_in code l labels.left) (coded_in code r labels.right) each.0 each.1
      sunk env want (disjunction p l r) labels law own typed has =
          let each = two_sunk l r labels.left labels.right typed has.1
          (λ t k. sunk env None l labels.left law.left (unwanted l labels.left) t k)
          (λ t k. sunk _ None r labels.right law.right (unwanted r labels.right) t k) in
          both ss (coded_in code l labels.left) (coded_in code r labels.right) each.0 each.1
      sunk env want (attribute p e field) labels law own typed has =
          sunk env None e labels.object law.object (unwanted e labels.object) (inner e labels.object typed) has.1
      sunk env want (index p e i) labels law own typed has =
          let each = two_sunk e i labels.object labels.key typed has.1
          (λ t k. sunk env None e labels.object law.object (unwanted e labels.object) t k)
          (λ t k. sunk env None i labels.key law.key (unwanted i labels.key) t k) in
          let in_object = types_inside true e labels.object ++ type_here e labels.object in
          let in_key = types_inside true i labels.key ++ type_here i labels.key in
          let object_type = (all_right (IsKnown known) (types_inside true e labels.object) (type_here e labels.object)
          (all_left (IsKnown known) in_object in_key typed)).0 in
          let into = indexed_sunk ss m ctx.bases is.bases i (type_of e labels.object)
          (subst (λ (t : Tree). AreIn ss (index_sinks m i t)) object_type has.0) in
          both ss (coded_in code e labels.object) (coded_in code i labels.key ++ coded_at code (place_of i) labels.flows)
          each.0 (both ss (coded_in code i labels.key) (coded_at code (place_of i) labels.flows) each.1
          (flows_sunk ss code ctx.bases (whole_label i labels.key) _ labels.flows (place_of i) law.flows into))
      sunk env want (call p callee args kws) labels law own typed has =
          let is_test = is_instance_test callee args kws in
          let label = (callee_of ctx env (arguments_given args kws) callee law.value).label in
          let in_callee = types_inside true callee labels.callee ++ callee_here true callee labels.callee in
          let in_args = types_in_arguments true is_test args labels.arguments in
          let in_kws = types_in_keywords true kws labels.keywords in
          let others_typed = all_right (IsKnown known) in_callee (in_args ++ in_kws) typed in
          let callee_typed : AreKnown (types_inside true callee law.value) = subst AreKnown
          (ap (types_inside true callee) law.callee ∙ with_inside callee law.value label)
          (all_left (IsKnown known) (types_inside true callee labels.callee) (callee_here true callee labels.callee)
          (all_left (IsKnown known) in_callee (in_args ++ in_kws) typed)) in
          let others = all_right (HasSinks m known ss owner) (parts_in false callee)
          (parts_in_all false args ++ parts_in_keywords false kws) has.1 in
          let cs = called env callee args kws law.value in
          let os = offers env callee args kws law.value in
          let each = taken env callee args kws law.value callee_typed in
          let at_callee : Go ss (coded_in code callee labels.callee) = subst (Go ss)
          (sym (ap (coded_in code callee) law.callee ∙ with_coded code callee law.value label))
          (sunk env None callee law.value law.lawful (unwanted callee law.value) callee_typed
          (all_left (HasSinks m known ss owner) (parts_in false callee) (parts_in_all false args ++ parts_in_keywords false kws)
          has.1)) in
          both ss (coded_in code callee labels.callee) _ at_callee
          (both ss (coded_in_arguments code is_test args labels.arguments) (coded_in_keywords code kws labels.keywords)
          (arguments_sunk env (positional_seat os) args labels.arguments law.arguments
          (argument_seats ss cs os each 0 (positional_seat os) (numbered os) args
          (all_left (Contains ss) (positional_sinks cs 0 args) (named_sinks cs kws) has.0)) is_test
          (all_left (IsKnown known) in_args in_kws others_typed)
          (all_left (HasSinks m known ss owner) (parts_in_all false args) (parts_in_keywords false kws) others))
          (keywords_sunk env _ [] kws labels.keywords law.keywords
          (keyword_seats ss cs os each [] kws
          (all_right (Contains ss) (positional_sinks cs 0 args) (named_sinks cs kws) has.0))
          (all_right (IsKnown known) in_args in_kws others_typed)
          (all_right (HasSinks m known ss owner) (parts_in_all false args) (parts_in_keywords false kws) others)))

      items_sunk : (env : Env) (seat : ℕ → Seat) (es : Exprs) (labels : ItemsLabels es)
          → LawfulItems ctx declared env seat es labels → SeatsSunk ss seat es
          → AreKnown (types_in_exprs true es labels) → AllByRecursion (HasSinks m known ss owner) (parts_in_all false es)
          → Go ss (coded_in_exprs code es labels)
      items_sunk env seat no_exprs labels law seats typed has = tt
      items_sunk env seat (more_exprs e rest) labels law seats typed has =
          let here = types_inside true e labels.first ++ type_here e labels.first in
          let later = types_in_exprs true rest labels.rest in
          let known_here = all_left (IsKnown known) here later typed in
          both ss (coded_in code e labels.first)
          (coded_at code (place_of e) labels.flows ++ coded_in_exprs code rest labels.rest)
          (sunk env _ e labels.first law.first (own_type _ e labels.first known_here) (inner e labels.first known_here)
          (all_left (HasSinks m known ss owner) (parts_in false e) (parts_in_all false rest) has))
          (both ss (coded_at code (place_of e) labels.flows) (coded_in_exprs code rest labels.rest)
          (flows_sunk ss code ctx.bases (whole_label e labels.first) (seat 0).into labels.flows (place_of e) law.flows
          seats.0) (items_sunk env (λ i. seat (suc i)) rest labels.rest law.rest seats.1 (all_right (IsKnown known) here later typed)
          (all_right (HasSinks m known ss owner) (parts_in false e) (parts_in_all false rest) has)))

      pub arguments_sunk : (env : Env) (seat : ℕ → Seat) (es : Exprs) (labels : ItemsLabels es)
          → LawfulItems ctx declared env seat es labels → SeatsSunk ss seat es → (is_test : Test)
          → AreKnown (types_in_arguments true is_test es labels)
          → AllByRecursion (HasSinks m known ss owner) (parts_in_all false es) → Go ss (coded_in_arguments code is_test es labels)
      arguments_sunk env seat no_exprs labels law seats is_test typed has = tt
      arguments_sunk env seat (more_exprs e rest) labels law seats true typed has =
          sunk env _ e labels.first law.first (own_type _ e labels.first typed) (inner e labels.first typed)
          (all_left (HasSinks m known ss owner) (parts_in false e) (parts_in_all false rest) has)
      arguments_sunk env seat (more_exprs e rest) labels law seats false typed has =
          let here = types_inside true e labels.first ++ type_here e labels.first in
          let later = types_in_arguments true false rest labels.rest in
          let known_here = all_left (IsKnown known) here later typed in
          both ss (coded_in code e labels.first)
          (coded_at code (place_of e) labels.flows ++ coded_in_arguments code false rest labels.rest)
          (sunk env _ e labels.first law.first (own_type _ e labels.first known_here) (inner e labels.first known_here)
          (all_left (HasSinks m known ss owner) (parts_in false e) (parts_in_all false rest) has))
          (both ss (coded_at code (place_of e) labels.flows) (coded_in_arguments code false rest labels.rest)
          (flows_sunk ss code ctx.bases (whole_label e labels.first) (seat 0).into labels.flows (place_of e) law.flows
          seats.0) (arguments_sunk env (λ i. seat (suc i)) rest labels.rest law.rest seats.1 false
          (all_right (IsKnown known) here later typed)
          (all_right (HasSinks m known ss owner) (parts_in false e) (parts_in_all false rest) has)))

      entries_sunk : (env : Env) (k v : Seat) (es : Entries) (labels : EntriesLabels es)
          → LawfulEntries ctx declared env k v es labels → EntriesSunk k v es
          → AreKnown (types_in_entries true es labels) → AllByRecursion (HasSinks m known ss owner) (parts_in_entries false es)
          → Go ss (coded_in_entries code es labels)
      entries_sunk env k v no_entries labels law seats typed has = tt
      entries_sunk env k v (more_entries a b rest) labels law seats typed has =
          let in_key = types_inside true a labels.key ++ type_here a labels.key in
          let in_value = types_inside true b labels.value ++ type_here b labels.value in
          let in_rest = types_in_entries true rest labels.rest in
          let key_known = all_left (IsKnown known) in_key (in_value ++ in_rest) typed in
          let later = all_right (IsKnown known) in_key (in_value ++ in_rest) typed in
          let value_known = all_left (IsKnown known) in_value in_rest later in
          let parts_later = all_right (HasSinks m known ss owner) (parts_in false a) (parts_in false b ++ parts_in_entries false rest)
          has in
          let at_key = coded_at code (place_of a) labels.key_flows in
          let at_value = coded_at code (place_of b) labels.value_flows in
          let flows_rest = coded_in_entries code rest labels.rest in
          both ss (coded_in code a labels.key) (at_key ++ (coded_in code b labels.value ++ (at_value ++ flows_rest)))
          (sunk env _ a labels.key law.key (own_type _ a labels.key key_known) (inner a labels.key key_known)
          (all_left (HasSinks m known ss owner) (parts_in false a) (parts_in false b ++ parts_in_entries false rest) has))
          (both ss at_key (coded_in code b labels.value ++ (at_value ++ flows_rest))
          (flows_sunk ss code ctx.bases (whole_label a labels.key) k.into labels.key_flows (place_of a) law.key_flows
          seats.0) (both ss (coded_in code b labels.value) (at_value ++ flows_rest)
          (sunk env _ b labels.value law.value (own_type _ b labels.value value_known) (inner b labels.value value_known)
          (all_left (HasSinks m known ss owner) (parts_in false b) (parts_in_entries false rest) parts_later))
          (both ss at_value flows_rest
          (flows_sunk ss code ctx.bases (whole_label b labels.value) v.into labels.value_flows (place_of b) law.value_flows
          seats.1.0) (entries_sunk env k v rest labels.rest law.rest seats.1.1 (all_right (IsKnown known) in_value in_rest later)
          (all_right (HasSinks m known ss owner) (parts_in false b) (parts_in_entries false rest) parts_later)))))

      pub keywords_sunk : (env : Env) (seat : List ℕ → Seat) (before : List (List ℕ)) (es : Keywords)
          (labels : KeywordsLabels es) → LawfulKeywords ctx declared env seat before es labels
          → KeysSunk ss seat before es → AreKnown (types_in_keywords true es labels)
          → AllByRecursion (HasSinks m known ss owner) (parts_in_keywords false es) → Go ss (coded_in_keywords code es labels)
      keywords_sunk env seat before no_keywords labels law seats typed has = tt
      keywords_sunk env seat before (more_keywords n e rest) labels law seats typed has =
          let here = types_inside true e labels.first ++ type_here e labels.first in
          let later = types_in_keywords true rest labels.rest in
          let known_here = all_left (IsKnown known) here later typed in
          both ss (coded_in code e labels.first)
          (coded_at code (place_of e) labels.flows ++ coded_in_keywords code rest labels.rest)
          (sunk env _ e labels.first law.first (own_type _ e labels.first known_here) (inner e labels.first known_here)
          (all_left (HasSinks m known ss owner) (parts_in false e) (parts_in_keywords false rest) has))
          (both ss (coded_at code (place_of e) labels.flows) (coded_in_keywords code rest labels.rest)
          (flows_sunk ss code ctx.bases (whole_label e labels.first) (keyword_seat seat before n).into labels.flows
          (place_of e) law.flows seats.0) (keywords_sunk env seat (n.text ∷ before) rest labels.rest law.rest seats.1
          (all_right (IsKnown known) here later typed)
          (all_right (HasSinks m known ss owner) (parts_in false e) (parts_in_keywords false rest) has)))

    -- an expression with its own type
    pub whole_sunk : (env : Env) (want : Option Tree) (e : Expr) (labels : Labels e) → Lawful ctx declared env want e labels
        → AreKnown (types_in true e labels) → HasAll m known ss owner e → Go ss (coded_in code e labels)
    whole_sunk env want e labels law typed has =
        sunk env want e labels law (own_type want e labels typed) (inner e labels typed) has
