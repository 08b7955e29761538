-- The codes that each operation finds: a fact of these few codes is one of each code that is found.
use Rattle.std.proofs.Common.{ℕ, List, [], ◌∷◌, Bool as Test, true, map}
use Rattle.std.specs.List.{AllByRecursion}
use Rattle.std.specs.Prelude.{◌||◌, if◌then◌else◌, nat_le, flat_map, Option, Some, None}
use Rattle.pc_tree.specs.declared.tree.BinaryOperator.{BinaryOperator}
use Rattle.pc_tree.specs.declared.tree.ComparisonOperator.{ComparisonOperator}
use Rattle.pc_tree.specs.declared.tree.ComparisonOperator.TheVariants.{Equal, NotEqual, In, NotIn}
use Rattle.pc_tree.specs.declared.code.Code.{Code}
use Rattle.pc_tree.specs.declared.code.Code.TheVariants.{A2, A3, A5, A6, E13, E16, E18, E19, E22, E26, E27}
use Rattle.pc_types.specs.Tree.{Tree, Any, Never, Int, Bool, Str, ListOf, DictOf, TupleOf}
use Rattle.pc_types.specs.Below.{Bases}
use Rattle.pc_types.specs.Shape.{members, nodes, node_limit}
use Rattle.pc_flow.specs.Environment.{join_all}
use Rattle.pc_rules.specs.Operations.{Label, clean, in_error, Offer, offers_label, index_member, iterate_member}
use Rattle.pc_rules.specs.Operations.{contain_member, length_member, negative_member, Kind, kind_of, row_of_kinds}
use Rattle.pc_rules.specs.Operations.{pair_found, pair_offers, is_never, is_any, is_dynamic, pairs_label, takes_kind}
use Rattle.pc_rules.specs.Operations.{kind_type, binary_label, order_label, display_label}
use Rattle.pc_rules.specs.Lawful.{KeyValue, list_label, DictLabel, no_keys, int_keys, str_keys, other_keys, DictRule}
use Rattle.pc_rules.specs.Lawful.{compare_label}
use Rattle.pc_module_rules.proofs.PlainCodes.{all_append, all_map, all_flat, in_both}

pub all_joined : {A B : Type 0} (P : B → Type 0) (f : A → List B) → ((x : A) → AllByRecursion P (f x)) → (xs : List A)
    → AllByRecursion P (flat_map f xs)
all_joined P f h [] = tt
all_joined P f h (x ∷ xs) = all_append P (f x) (flat_map f xs) (h x) (all_joined P f h xs)

module _ (Q : Code → Type 0) where
  -- the fact holds of each code of a label
  abbrev pub AtLabel : Label → Type 0
  AtLabel m = AllByRecursion Q m.codes

  -- likewise of the result of an operation on a member
  abbrev pub AtOffer : Offer → Type 0
  AtOffer o = AllByRecursion Q o.found

  offers_codes : (bases : Bases) (os : List Offer) → AllByRecursion AtOffer os → AtLabel (offers_label bases os)
  offers_codes bases os h = all_flat AtOffer Q (λ (o : Offer). o.found) (λ o k. k) os h

  -- on each member
  pub members_codes : (bases : Bases) (f : Tree → Offer) → ((t : Tree) → AtOffer (f t)) → (ts : List Tree)
      → AtLabel (offers_label bases (map f ts))
  members_codes bases f h ts = offers_codes bases (map f ts) (all_map AtOffer f h ts)

  -- ---- items, turns, lengths

  index_codes : Q A3 → Q E16 → (bases : Bases) (i : Option ℕ) (t : Tree) → AtOffer (index_member bases i t)
  index_codes a e bases i (ListOf t) = tt
  index_codes a e bases i Str = tt
  index_codes a e bases i (TupleOf ts) = tt
  index_codes a e bases i (DictOf k v) = tt
  index_codes a e bases i Any = (a, tt)
  index_codes a e bases i _ = (e, tt)

  pub indexed_codes : Q A3 → Q E16 → (bases : Bases) (i : Option ℕ) (ts : List Tree)
      → AtLabel (offers_label bases (map (index_member bases i) ts))
  indexed_codes a e bases i ts = members_codes bases (index_member bases i) (index_codes a e bases i) ts

  iterate_codes : Q A5 → Q E18 → (bases : Bases) (t : Tree) → AtOffer (iterate_member bases t)
  iterate_codes a e bases (ListOf t) = tt
  iterate_codes a e bases (DictOf k v) = tt
  iterate_codes a e bases Str = tt
  iterate_codes a e bases (TupleOf ts) = tt
  iterate_codes a e bases Any = (a, tt)
  iterate_codes a e bases _ = (e, tt)

  pub iterated_codes : Q A5 → Q E18 → (bases : Bases) (ts : List Tree)
      → AtLabel (offers_label bases (map (iterate_member bases) ts))
  iterated_codes a e bases ts = members_codes bases (iterate_member bases) (iterate_codes a e bases) ts

  length_codes : Q A6 → Q E27 → (t : Tree) → AtOffer (length_member t)
  length_codes a e Str = tt
  length_codes a e (ListOf t) = tt
  length_codes a e (DictOf k v) = tt
  length_codes a e (TupleOf ts) = tt
  length_codes a e Any = (a, tt)
  length_codes a e _ = (e, tt)

  pub measured_codes : Q A6 → Q E27 → (bases : Bases) (ts : List Tree)
      → AtLabel (offers_label bases (map length_member ts))
  measured_codes a e bases ts = members_codes bases length_member (length_codes a e) ts

  -- ---- operators

  negative_codes : Q A2 → Q E13 → (t : Tree) → AtOffer (negative_member t)
  negative_codes a e Int = tt
  negative_codes a e Bool = tt
  negative_codes a e Any = (a, tt)
  negative_codes a e _ = (e, tt)

  pub negated_codes : Q A2 → Q E13 → (bases : Bases) (ts : List Tree)
      → AtLabel (offers_label bases (map negative_member ts))
  negated_codes a e bases ts = members_codes bases negative_member (negative_codes a e) ts

  contain_codes : Q A2 → Q E19 → (t : Tree) → AtOffer (contain_member t)
  contain_codes a e Str = tt
  contain_codes a e (DictOf k v) = tt
  contain_codes a e (ListOf t) = tt
  contain_codes a e (TupleOf ts) = tt
  contain_codes a e Any = (a, tt)
  contain_codes a e _ = (e, tt)

  pair_codes : Q E13 → (o : Option Tree) → AtOffer (pair_found o)
  pair_codes e (Some t) = tt
  pair_codes e None = (e, tt)

  pairs_codes : Q A2 → Q E13 → (bases : Bases) (takes : Kind → Test) (gives : Kind → Tree) (dynamic s t : Tree)
      → AtLabel (pairs_label bases takes gives dynamic s t)
  pairs_codes a e bases takes gives dynamic s t =
      let offers = pair_offers takes gives (members s) (members t) in
      let each : AllByRecursion AtOffer offers =
      all_joined AtOffer (λ m. map (λ n. pair_found (row_of_kinds takes gives (kind_of m) (kind_of n))) (members t))
      (λ m. all_map AtOffer (λ n. pair_found (row_of_kinds takes gives (kind_of m) (kind_of n)))
      (λ n. pair_codes e (row_of_kinds takes gives (kind_of m) (kind_of n))) (members t)) (members s) in
      let others : Label = if is_any s || is_any t then in_error E13 else offers_label bases offers in
      let least : AtLabel others = in_both AtLabel (is_any s || is_any t) (in_error E13) (offers_label bases offers)
      (e, tt) (offers_codes bases offers each) in
      let sure : Label = if is_dynamic takes s t then record { type = dynamic; codes = A2 ∷ [] } else others in
      in_both AtLabel (is_never s || is_never t) (clean Never) sure tt
      (in_both AtLabel (is_dynamic takes s t) (record { type = dynamic; codes = A2 ∷ [] }) others (a, tt) least)

  pub binary_codes : Q A2 → Q E13 → (bases : Bases) (operator : BinaryOperator) (s t : Tree)
      → AtLabel (binary_label bases operator s t)
  binary_codes a e bases operator s t = pairs_codes a e bases (takes_kind operator) kind_type Any s t

  order_codes : Q A2 → Q E13 → (bases : Bases) (s t : Tree) → AtLabel (order_label bases s t)
  order_codes a e bases s t = pairs_codes a e bases (λ k. true) (λ k. Bool) Bool s t

  pub compare_codes : Q A2 → Q E13 → Q E19 → (bases : Bases) (operator : ComparisonOperator) (s t : Tree)
      → AtLabel (compare_label bases operator s t)
  compare_codes a e f bases Equal s t = tt
  compare_codes a e f bases NotEqual s t = tt
  compare_codes a e f bases In s t = members_codes bases contain_member (contain_codes a f) (members t)
  compare_codes a e f bases NotIn s t = members_codes bases contain_member (contain_codes a f) (members t)
  compare_codes a e f bases _ s t = order_codes a e bases s t

  -- ---- displays

  pub display_codes : Q E26 → (t : Tree) → AtLabel (display_label t)
  display_codes e t = in_both AtLabel (nat_le (nodes t) node_limit) (clean t) (in_error E26) tt (e, tt)

  pub list_codes : Q E26 → (bases : Bases) (item : Option Tree) (types : List Tree)
      → AtLabel (list_label bases item types)
  list_codes e bases (Some t) types = tt
  list_codes e bases None [] = display_codes e (ListOf Any)
  list_codes e bases None (t ∷ ts) = display_codes e (ListOf (join_all bases (t ∷ ts)))

  keys_codes : Q E26 → Q E22 → {bases : Bases} {values keys : List Tree} {m : Label} → DictLabel bases values keys m
      → AtLabel m
  keys_codes e f no_keys = (f, tt)
  keys_codes e f {bases} {values} (int_keys h) = display_codes e (DictOf Int (join_all bases values))
  keys_codes e f {bases} {values} (str_keys h k) = display_codes e (DictOf Str (join_all bases values))
  keys_codes e f (other_keys h k) = (f, tt)

  pub dict_codes : Q E26 → Q E22 → (bases : Bases) (parts : Option KeyValue) (keys values : List Tree) (m : Label)
      → DictRule bases parts keys values m → AtLabel m
  dict_codes e f bases (Some kv) keys values m h = rw h tt
  dict_codes e f bases None keys values m h = keys_codes e f h
