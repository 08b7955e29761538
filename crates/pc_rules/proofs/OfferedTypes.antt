-- The types that operations give, and that their operands flow into, are well-formed.
use Rattle.std.proofs.Common.{◌++◌, ℕ, Bool as Test, true, false, List, [], ◌∷◌, Option, Some, None, arith, inl}
use Rattle.std.proofs.lemmas.Bool.{cond_both, leb-true}
use Rattle.std.specs.Prelude.{if◌then◌else◌, nat_le, ◌||◌, slice_get, map, flat_map}
use Rattle.pc_tree.specs.declared.code.Code.{Code}
use Rattle.pc_tree.specs.declared.tree.BinaryOperator.{BinaryOperator}
use Rattle.pc_tree.specs.declared.code.Code.TheVariants.{E13, E26}
use Rattle.pc_types.specs.Tree.{Tree, Trees, Any, Never, Int, Bool, Str, NoneType, Class, ListOf, DictOf, TupleOf}
use Rattle.pc_types.specs.Tree.{Union}
use Rattle.pc_types.specs.Below.{Bases, AreSmaller}
use Rattle.pc_types.specs.Shape.{nodes, node_limit, members, list_of_trees}
use Rattle.pc_types.specs.Normal.{IsNormal, IsReduced}
use Rattle.pc_class.specs.Facts as facts
use Rattle.pc_class.specs.Facts.{TypedParameter, Method, class_facts_at, class_in, field_by_name, method_by_name}
use Rattle.pc_rules.specs.Operations.{Label, clean, in_error, has_error, Offer, found_of, offers_label, operand_types}
use Rattle.pc_rules.specs.Operations.{tuple_item, index_member, attribute_found, attribute_member, contain_member}
use Rattle.pc_rules.specs.Operations.{length_member, negative_member, Kind, whole_kind, text_kind, takes_kind}
use Rattle.pc_rules.specs.Operations.{kind_type, row_of_kinds, kind_of, pair_found, pair_offers, pairs_label}
use Rattle.pc_rules.specs.Operations.{is_dynamic, is_any, is_never, binary_label, order_label, display_label}
use Rattle.pc_types.specs.WellFormed.{IsWellFormed}
use Rattle.pc_flow.specs.WellFormed.{IsWellFormedIfAny, AreWellFormed}
use Rattle.pc_class.specs.WellFormed.{ParametersWellFormed, MethodWellFormed, MethodsWellFormed, ClassesWellFormed}
use Rattle.pc_class.proofs.WellFormed.{class_at_well_formed}
use Rattle.pc_rules.proofs.WellFormed.{any_well_formed, never_well_formed, int_well_formed, bool_well_formed}
use Rattle.pc_rules.proofs.WellFormed.{str_well_formed, item_well_formed, key_well_formed, value_well_formed}
use Rattle.pc_rules.proofs.WellFormed.{parts_well_formed, members_well_formed, at_well_formed, unwrap_well_formed}
use Rattle.pc_rules.proofs.WellFormed.{append_well_formed, if_any, if_none, all_well_formed}

-- the type that an operation gives, and the types that its operands flow into, are well-formed
pub record OfferWellFormed (bases : Bases) (o : Offer) : Type 0 where
  pub gives : IsWellFormed bases o.gives
  pub takes : AreWellFormed bases o.takes

-- likewise of each offer
abbrev pub OffersWellFormed : Bases → List Offer → Type 0
OffersWellFormed bases [] = Unit {0}
OffersWellFormed bases (o ∷ os) = OfferWellFormed bases o × OffersWellFormed bases os

-- the type of a parameter is well-formed, if there is one
abbrev pub ParameterWellFormed : Bases → Option TypedParameter → Type 0
ParameterWellFormed bases None = Unit {0}
ParameterWellFormed bases (Some p) = IsWellFormed bases p.type

-- likewise those of a method, if there is one
abbrev pub FoundMethodWellFormed : Bases → Option Method → Type 0
FoundMethodWellFormed bases None = Unit {0}
FoundMethodWellFormed bases (Some m) = MethodWellFormed bases m

module _ (bases : Bases) where
  pub field_well_formed : (ps : List TypedParameter) (word : List ℕ) → ParametersWellFormed bases ps
      → ParameterWellFormed bases (field_by_name ps word)
  field_well_formed [] word h = tt
  field_well_formed (p ∷ ps) word h = cond_both _ (Some p) (field_by_name ps word) (ParameterWellFormed bases)
      (λ e. h.0) (λ e. field_well_formed ps word h.1)

  pub method_well_formed : (ms : List Method) (word : List ℕ) → MethodsWellFormed bases ms
      → FoundMethodWellFormed bases (method_by_name ms word)
  method_well_formed [] word h = tt
  method_well_formed (m ∷ ms) word h = cond_both _ (Some m) (method_by_name ms word) (FoundMethodWellFormed bases)
      (λ e. h.0) (λ e. method_well_formed ms word h.1)

  pub plain : {o : Offer} → IsWellFormed bases o.gives → AreWellFormed bases o.takes → OfferWellFormed bases o
  plain g t = record { gives = g; takes = t }

  fails : (codes : List Code) → OfferWellFormed bases (record { found = codes; gives = Any; takes = [] })
  fails codes = record { gives = any_well_formed bases; takes = tt }

  pub map_well_formed : (f : Tree → Offer) → ((t : Tree) → IsWellFormed bases t → OfferWellFormed bases (f t))
      → (ts : List Tree) → AreWellFormed bases ts → OffersWellFormed bases (map f ts)
  map_well_formed f g [] h = tt
  map_well_formed f g (t ∷ ts) h = (g t h.0, map_well_formed f g ts h.1)

  pub each_well_formed : (f : Tree → Offer) → ((t : Tree) → IsWellFormed bases t → OfferWellFormed bases (f t))
      → (t : Tree) → IsWellFormed bases t → OffersWellFormed bases (map f (members t))
  each_well_formed f g t h = map_well_formed f g (members t) (members_well_formed bases t h)

  offers_append : (os ps : List Offer) → OffersWellFormed bases os → OffersWellFormed bases ps
      → OffersWellFormed bases (os ++ ps)
  offers_append [] ps h k = k
  offers_append (o ∷ os) ps h k = (h.0, offers_append os ps h.1 k)

  gives_well_formed : (os : List Offer) → OffersWellFormed bases os → AreWellFormed bases (map (λ o. o.gives) os)
  gives_well_formed [] h = tt
  gives_well_formed (o ∷ os) h = (h.0.gives, gives_well_formed os h.1)

  takes_well_formed : (os : List Offer) → OffersWellFormed bases os → AreWellFormed bases (flat_map (λ o. o.takes) os)
  takes_well_formed [] h = tt
  takes_well_formed (o ∷ os) h = append_well_formed bases o.takes _ h.0.takes (takes_well_formed os h.1)

  pub operands_well_formed : (os : List Offer) → OffersWellFormed bases os → AreWellFormed bases (operand_types os)
  operands_well_formed os h = if_none bases (has_error (found_of os)) _ (takes_well_formed os h)

  keys_well_formed : IsWellFormed bases (Union Int (Union Str NoneType))
  keys_well_formed = (
    (
      tt,
      tt,
      (tt, tt, tt, (tt, inl (omega arith))),
      ((tt, inl (omega arith)), (tt, inl (omega arith))),
    ),
    (tt, (tt, tt, tt), (tt, tt)),
    omega arith,
  )

  pub contain_well_formed : (t : Tree) → IsWellFormed bases t → OfferWellFormed bases (contain_member t)
  contain_well_formed Str h = plain (bool_well_formed bases) (str_well_formed bases, tt)
  contain_well_formed (DictOf k v) h = plain (bool_well_formed bases) (keys_well_formed, tt)
  contain_well_formed (ListOf t) h = plain (bool_well_formed bases) tt
  contain_well_formed (TupleOf ts) h = plain (bool_well_formed bases) tt
  contain_well_formed Any h = plain (bool_well_formed bases) tt
  contain_well_formed _ h = plain (any_well_formed bases) tt

  pub length_well_formed : (t : Tree) → IsWellFormed bases t → OfferWellFormed bases (length_member t)
  length_well_formed Str h = plain (int_well_formed bases) tt
  length_well_formed (ListOf t) h = plain (int_well_formed bases) tt
  length_well_formed (DictOf k v) h = plain (int_well_formed bases) tt
  length_well_formed (TupleOf ts) h = plain (int_well_formed bases) tt
  length_well_formed Any h = plain (int_well_formed bases) tt
  length_well_formed _ h = plain (any_well_formed bases) tt

  pub negative_well_formed : (t : Tree) → IsWellFormed bases t → OfferWellFormed bases (negative_member t)
  negative_well_formed Int h = plain (int_well_formed bases) tt
  negative_well_formed Bool h = plain (int_well_formed bases) tt
  negative_well_formed Any h = plain (any_well_formed bases) tt
  negative_well_formed _ h = plain (any_well_formed bases) tt

  attribute_found_well_formed : (f : Option TypedParameter) (m : Option Method) → ParameterWellFormed bases f
      → OfferWellFormed bases (attribute_found f m)
  attribute_found_well_formed (Some f) m h = plain h tt
  attribute_found_well_formed None (Some m) h = plain (any_well_formed bases) tt
  attribute_found_well_formed None None h = plain (any_well_formed bases) tt

  pub attribute_well_formed : (cs : List facts.ClassFacts) (word : List ℕ) → ClassesWellFormed bases cs → (t : Tree)
      → IsWellFormed bases t → OfferWellFormed bases (attribute_member cs word t)
  attribute_well_formed cs word k (Class c) h = attribute_found_well_formed
      (field_by_name (class_facts_at cs c).fields word) (method_by_name (class_facts_at cs c).methods word)
      (field_well_formed (class_facts_at cs c).fields word (class_at_well_formed bases cs c k).fields)
  attribute_well_formed cs word k Any h = plain (any_well_formed bases) tt
  attribute_well_formed cs word k _ h = plain (any_well_formed bases) tt

  -- ---- operators
  kind_well_formed : (k : Kind) → IsWellFormed bases (kind_type k)
  kind_well_formed whole_kind = int_well_formed bases
  kind_well_formed text_kind = str_well_formed bases

  pair_well_formed : (t : Option Tree) → IsWellFormedIfAny bases t → OfferWellFormed bases (pair_found t)
  pair_well_formed None h = plain (any_well_formed bases) tt
  pair_well_formed (Some t) h = plain h tt

  module _ (takes : Kind → Test) (gives : Kind → Tree) (g : (k : Kind) → IsWellFormed bases (gives k)) where
    if_some : (b : Test) (t : Tree) → IsWellFormed bases t → IsWellFormedIfAny bases (if b then Some t else None)
    if_some true t h = h
    if_some false t h = tt

    row_well_formed : (j k : Option Kind) → IsWellFormedIfAny bases (row_of_kinds takes gives j k)
    row_well_formed (Some whole_kind) (Some whole_kind) = if_some (takes whole_kind) (gives whole_kind) (g whole_kind)
    row_well_formed (Some text_kind) (Some text_kind) = if_some (takes text_kind) (gives text_kind) (g text_kind)
    row_well_formed _ _ = tt

    row_of_well_formed : (m : Tree) (ns : List Tree) → OffersWellFormed bases
        (map (λ n. pair_found (row_of_kinds takes gives (kind_of m) (kind_of n))) ns)
    row_of_well_formed m [] = tt
    row_of_well_formed m (n ∷ ns) = (
      pair_well_formed (row_of_kinds takes gives (kind_of m) (kind_of n))
          (row_well_formed (kind_of m) (kind_of n)),
      row_of_well_formed m ns,
    )

    pairs_well_formed : (ms ns : List Tree) → OffersWellFormed bases (pair_offers takes gives ms ns)
    pairs_well_formed [] ns = tt
    pairs_well_formed (m ∷ ms) ns = offers_append _ (pair_offers takes gives ms ns) (row_of_well_formed m ns)
        (pairs_well_formed ms ns)

  if_type : (b : Test) (m n : Label) → IsWellFormed bases m.type → IsWellFormed bases n.type
      → IsWellFormed bases (if b then m else n).type
  if_type true m n h k = h
  if_type false m n h k = k

  pub display_well_formed : (t : Tree) → IsNormal t → IsReduced bases t → IsWellFormed bases (display_label t).type
  display_well_formed t n r =
      cond_both (nat_le (nodes t) node_limit) (clean t) (in_error E26) (λ m. IsWellFormed bases m.type)
      (λ e. (n, r, leb-true (nodes t) node_limit e)) (λ e. any_well_formed bases)

  -- ---- joined types
  module _ (o : AreSmaller bases) where
    pub offers_well_formed : (os : List Offer) → OffersWellFormed bases os
        → IsWellFormed bases (offers_label bases os).type
    offers_well_formed os h = if_any bases (has_error (found_of os)) _
        (all_well_formed bases o _ (gives_well_formed os h))

    tuple_item_well_formed : (i : Option ℕ) (ts : Trees) → IsWellFormed bases (TupleOf ts)
        → IsWellFormed bases (tuple_item bases i ts)
    tuple_item_well_formed None ts h = all_well_formed bases o (list_of_trees ts) (parts_well_formed bases ts h)
    tuple_item_well_formed (Some i) ts h = unwrap_well_formed bases (slice_get (list_of_trees ts) i) _
        (at_well_formed bases (list_of_trees ts) i (parts_well_formed bases ts h))
        (all_well_formed bases o (list_of_trees ts) (parts_well_formed bases ts h))

    pub index_well_formed : (i : Option ℕ) (t : Tree) → IsWellFormed bases t
        → OfferWellFormed bases (index_member bases i t)
    index_well_formed i (ListOf t) h = plain (item_well_formed bases t h) (int_well_formed bases, tt)
    index_well_formed i Str h = plain (str_well_formed bases) (int_well_formed bases, tt)
    index_well_formed i (TupleOf ts) h = plain (tuple_item_well_formed i ts h) (int_well_formed bases, tt)
    index_well_formed i (DictOf k v) h = plain (value_well_formed bases k v h) (key_well_formed bases k v h, tt)
    index_well_formed i Any h = plain (any_well_formed bases) tt
    index_well_formed i _ h = plain (any_well_formed bases) tt

    pairs_label_well_formed : (takes : Kind → Test) (gives : Kind → Tree) (dynamic : Tree)
        → ((k : Kind) → IsWellFormed bases (gives k)) → IsWellFormed bases dynamic → (s t : Tree)
        → IsWellFormed bases (pairs_label bases takes gives dynamic s t).type
    pairs_label_well_formed takes gives dynamic g d s t =
        if_type (is_never s || is_never t) (clean Never) _ (never_well_formed bases)
        (if_type (is_dynamic takes s t) _ _ d
        (if_type (is_any s || is_any t) (in_error E13) _ (any_well_formed bases)
        (offers_well_formed (pair_offers takes gives (members s) (members t))
        (pairs_well_formed takes gives g (members s) (members t)))))

    pub binary_well_formed : (operator : BinaryOperator) (s t : Tree)
        → IsWellFormed bases (binary_label bases operator s t).type
    binary_well_formed operator s t = pairs_label_well_formed (takes_kind operator) kind_type Any kind_well_formed
        (any_well_formed bases) s t

    pub order_well_formed : (s t : Tree) → IsWellFormed bases (order_label bases s t).type
    order_well_formed s t = pairs_label_well_formed (λ k. true) (λ k. Bool) Bool (λ k. bool_well_formed bases)
        (bool_well_formed bases) s t
