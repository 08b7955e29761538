-- Lists of regular types, and the results of operations on them.
use Rattle.std.proofs.Common.{ℕ, zero, suc, List, [], ◌∷◌, ◌++◌, map}
use Rattle.std.specs.Prelude.{Bool as Test, true, false, ◌||◌, if◌then◌else◌, nat_le, Option, Some, None, unwrap_or}
use Rattle.std.specs.Prelude.{slice_get}
use Rattle.pc_tree.specs.declared.code.Code.TheVariants.{A2, E13, E26}
use Rattle.pc_types.specs.Tree.{Tree, Trees, Any, Never, Int, Bool, Str, ListOf, DictOf, TupleOf, end, more}
use Rattle.pc_types.specs.Below.{Bases}
use Rattle.pc_types.specs.Normal.{IsKey}
use Rattle.pc_types.specs.Shape.{members, list_of_trees, trees, nodes, node_limit}
use Rattle.pc_flow.specs.Environment.{join_all}
use Rattle.pc_rules.specs.Operations.{clean, in_error, Offer, has_error, found_of, offers_label, tuple_item}
use Rattle.pc_rules.specs.Operations.{index_member, contain_member, length_member, negative_member, Kind, whole_kind}
use Rattle.pc_rules.specs.Operations.{text_kind, kind_of, row_of_kinds, pair_found, pair_offers, pairs_label, is_never}
use Rattle.pc_rules.specs.Operations.{is_any, is_dynamic, display_label}
use Rattle.pc_sound.proofs.Regular.RegularParts.{Asked, IsRegular, AreRegular, regular_members}
use Rattle.pc_sound.proofs.Regular.RegularTypes.{OptionRegular, all_regular, EachRegular}

module _ (asked : Asked) where
  -- ---- lists of types

  pub append_regular : (ss ts : List Tree) → EachRegular asked ss → EachRegular asked ts → EachRegular asked (ss ++ ts)
  append_regular [] ts h k = k
  append_regular (s ∷ ss) ts h k = (h.0, append_regular ss ts h.1 k)

  pub get_regular : (ts : List Tree) (i : ℕ) → EachRegular asked ts → OptionRegular asked (slice_get ts i)
  get_regular [] i h = tt
  get_regular (t ∷ ts) zero h = h.0
  get_regular (t ∷ ts) (suc i) h = get_regular ts i h.1

  pub listed_regular : (ts : Trees) → AreRegular asked ts → EachRegular asked (list_of_trees ts)
  listed_regular end h = tt
  listed_regular (more t ts) h = (h.0, listed_regular ts h.1)

  pub trees_regular : (ts : List Tree) → EachRegular asked ts → AreRegular asked (trees ts)
  trees_regular [] h = tt
  trees_regular (t ∷ ts) h = (h.0, trees_regular ts h.1)

  pub or_regular : (o : Option Tree) (d : Tree) → OptionRegular asked o → IsRegular asked d
      → IsRegular asked (unwrap_or o d)
  or_regular None d h k = k
  or_regular (Some t) d h k = h

  pub key_regular : (t : Tree) → IsKey t → IsRegular asked t
  key_regular Int h = tt
  key_regular Str h = tt
  key_regular _ h = absurd h

  pub display_regular : (t : Tree) → IsRegular asked t → IsRegular asked (display_label t).type
  display_regular t h = go (nat_le (nodes t) node_limit)
    where
      go : (x : Test) → IsRegular asked (if x then clean t else in_error E26).type
      go true = h
      go false = tt

  -- ---- operations

  module _ (bases : Bases) where
    gives_regular : (offer : Tree → Offer) → ((m : Tree) → IsRegular asked m → IsRegular asked (offer m).gives)
        → (ms : List Tree) → EachRegular asked ms → EachRegular asked (map (λ o. o.gives) (map offer ms))
    gives_regular offer each [] h = tt
    gives_regular offer each (m ∷ ms) h = (each m h.0, gives_regular offer each ms h.1)

    label_regular : (offers : List Offer) → EachRegular asked (map (λ o. o.gives) offers)
        → IsRegular asked (offers_label bases offers).type
    label_regular offers h = go (has_error (found_of offers))
      where
        go : (x : Test) → IsRegular asked (if x then Any else join_all bases (map (λ o. o.gives) offers))
        go true = tt
        go false = all_regular asked bases (map (λ o. o.gives) offers) h

    pub operation_regular : (offer : Tree → Offer) → ((m : Tree) → IsRegular asked m → IsRegular asked (offer m).gives)
        → (t : Tree) → IsRegular asked t → IsRegular asked (offers_label bases (map offer (members t))).type
    operation_regular offer each t h = label_regular (map offer (members t))
        (gives_regular offer each (members t) (regular_members asked t h))

    item_regular : (literal : Option ℕ) (ts : Trees) → AreRegular asked ts
        → IsRegular asked (tuple_item bases literal ts)
    item_regular None ts h = all_regular asked bases (list_of_trees ts) (listed_regular ts h)
    item_regular (Some i) ts h = or_regular (slice_get (list_of_trees ts) i) (join_all bases (list_of_trees ts))
        (get_regular (list_of_trees ts) i (listed_regular ts h)) (all_regular asked bases (list_of_trees ts)
        (listed_regular ts h))

    pub index_regular : (literal : Option ℕ) (m : Tree) → IsRegular asked m
        → IsRegular asked (index_member bases literal m).gives
    index_regular literal (ListOf t) h = h
    index_regular literal Str h = tt
    index_regular literal (TupleOf ts) h = item_regular literal ts h
    index_regular literal (DictOf k v) h = h.1
    index_regular literal _ h = tt

    pub contain_regular : (m : Tree) → IsRegular asked m → IsRegular asked (contain_member m).gives
    contain_regular Str h = tt
    contain_regular (DictOf k v) h = tt
    contain_regular (ListOf t) h = tt
    contain_regular (TupleOf ts) h = tt
    contain_regular _ h = tt

    pub length_regular : (m : Tree) → IsRegular asked m → IsRegular asked (length_member m).gives
    length_regular Str h = tt
    length_regular (DictOf k v) h = tt
    length_regular (ListOf t) h = tt
    length_regular (TupleOf ts) h = tt
    length_regular _ h = tt

    pub negative_regular : (m : Tree) → IsRegular asked m → IsRegular asked (negative_member m).gives
    negative_regular Int h = tt
    negative_regular Bool h = tt
    negative_regular _ h = tt

    module _ (takes : Kind → Test) (gives : Kind → Tree) (each : (x : Kind) → IsRegular asked (gives x)) where
      row_regular : (a b : Option Kind) → OptionRegular asked (row_of_kinds takes gives a b)
      row_regular (Some whole_kind) (Some whole_kind) = go (takes whole_kind)
        where
          go : (x : Test) → OptionRegular asked (if x then Some (gives whole_kind) else None)
          go true = each whole_kind
          go false = tt
      row_regular (Some text_kind) (Some text_kind) = go (takes text_kind)
        where
          go : (x : Test) → OptionRegular asked (if x then Some (gives text_kind) else None)
          go true = each text_kind
          go false = tt
      row_regular _ _ = tt

      pair_regular : (o : Option Tree) → OptionRegular asked o → IsRegular asked (pair_found o).gives
      pair_regular None h = tt
      pair_regular (Some t) h = h

      pairs_with : (m : Tree) (ns : List Tree) → EachRegular asked
          (map (λ o. o.gives) (map (λ n. pair_found (row_of_kinds takes gives (kind_of m) (kind_of n))) ns))
      pairs_with m [] = tt
      pairs_with m (n ∷ ns) = (
        pair_regular (row_of_kinds takes gives (kind_of m) (kind_of n))
            (row_regular (kind_of m) (kind_of n)),
        pairs_with m ns,
      )

      gives_append : (os ps : List Offer) → EachRegular asked (map (λ o. o.gives) os)
          → EachRegular asked (map (λ o. o.gives) ps) → EachRegular asked (map (λ o. o.gives) (os ++ ps))
      gives_append [] ps h k = k
      gives_append (o ∷ os) ps h k = (h.0, gives_append os ps h.1 k)

      pairs_gives : (ms ns : List Tree) → EachRegular asked (map (λ o. o.gives) (pair_offers takes gives ms ns))
      pairs_gives [] ns = tt
      pairs_gives (m ∷ ms) ns = gives_append (map (λ n. pair_found (row_of_kinds takes gives (kind_of m) (kind_of n)))
          ns) (pair_offers takes gives ms ns) (pairs_with m ns) (pairs_gives ms ns)

      pub pairs_regular : (dynamic s t : Tree) → IsRegular asked dynamic
          → IsRegular asked (pairs_label bases takes gives dynamic s t).type
      pairs_regular dynamic s t h = go (is_never s || is_never t) (is_dynamic takes s t) (is_any s || is_any t)
        where
          go : (x y z : Test) → IsRegular asked (if x then clean Never
              else (if y then record { type = dynamic; codes = A2 ∷ [] }
              else (if z then in_error E13 else offers_label bases (pair_offers takes gives (members s)
              (members t))))).type
          go true y z = tt
          go false true z = h
          go false false true = tt
          go false false false = label_regular (pair_offers takes gives (members s) (members t))
              (pairs_gives (members s) (members t))
