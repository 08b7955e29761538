-- The result of an operator on each pair of members follows from the kind that all of them share.
use Rattle.std.proofs.Common.{◌≡◌, ◌∙◌, ◌++◌, List, [], ◌∷◌, refl, sym, ap, subst, append_assoc}
use Rattle.std.specs.Prelude.{Bool as Test, true, false, not, ◌||◌, if◌then◌else◌, Option, Some, None, map}
use Rattle.std.specs.List.{list_any}
use Rattle.std.proofs.lemmas.Bool.{false≢true}
use Rattle.std.proofs.lemmas.List.Folds.{list_any-append}
use Rattle.std.proofs.Math.Bool.{or-true, or-false, or_assoc}
use Rattle.pc_tree.specs.declared.code.Code.{Code}
use Rattle.pc_tree.specs.declared.code.Code.TheVariants.{E13}
use Rattle.pc_tree.specs.Code.{is_error}
use Rattle.pc_types.specs.Tree.{Tree, Any, Never}
use Rattle.pc_types.specs.Below.{Bases}
use Rattle.pc_flow.specs.Environment.{join_or_object, join_onto, join_all}
use Rattle.pc_rules.specs.Operations.{Kind, whole_kind, text_kind, kind_of, kind_taken, Offer, clean, in_error}
use Rattle.pc_rules.specs.Operations.{has_error, supported, found_of, offers_label, row_of_kinds, pair_found, pair_offers}
use Rattle.pc_rules.specs.Computed.Findings.{once_onto, once, brief}
use Rattle.pc_operations.specs.Internal.OperandPairs.{meet, common_onto, common, kind_label}

-- the kind that two have in common, the other way round
meet_turned : (c d : Option Kind) → meet c d ≡ meet d c
meet_turned None None = refl
meet_turned None (Some whole_kind) = refl
meet_turned None (Some text_kind) = refl
meet_turned (Some whole_kind) None = refl
meet_turned (Some text_kind) None = refl
meet_turned (Some whole_kind) (Some whole_kind) = refl
meet_turned (Some text_kind) (Some text_kind) = refl
meet_turned (Some whole_kind) (Some text_kind) = refl
meet_turned (Some text_kind) (Some whole_kind) = refl

module _ (takes : Kind → Test) where
  -- two kinds are one that is taken
  abbrev pub fits : Option Kind → Option Kind → Test
  fits k l = kind_taken takes (meet k l)

  again : (x : Test) → (x || x) ≡ x
  again true = refl
  again false = refl

  -- neither fits, by the kind that two have in common
  unfit : (k l c : Option Kind) → (not (fits k c) || not (fits l c)) ≡ not (fits (meet k l) c)
  unfit None l c = refl
  unfit (Some whole_kind) None c = or-true (not (fits (Some whole_kind) c))
  unfit (Some text_kind) None c = or-true (not (fits (Some text_kind) c))
  unfit (Some whole_kind) (Some whole_kind) c = again (not (fits (Some whole_kind) c))
  unfit (Some text_kind) (Some text_kind) c = again (not (fits (Some text_kind) c))
  unfit (Some whole_kind) (Some text_kind) None = refl
  unfit (Some whole_kind) (Some text_kind) (Some whole_kind) = or-true (not (takes whole_kind))
  unfit (Some whole_kind) (Some text_kind) (Some text_kind) = refl
  unfit (Some text_kind) (Some whole_kind) None = refl
  unfit (Some text_kind) (Some whole_kind) (Some whole_kind) = refl
  unfit (Some text_kind) (Some whole_kind) (Some text_kind) = or-true (not (takes text_kind))

  -- one of several fits not
  abbrev pub any_unfit : Option Kind → List Tree → Test
  any_unfit c ms = list_any (λ m. not (fits (kind_of m) c)) ms

  unfit_onto : (c d : Option Kind) (ms : List Tree) → (not (fits d c) || any_unfit c ms)
      ≡ not (fits (common_onto d ms) c)
  unfit_onto c d [] = or-false (not (fits d c))
  unfit_onto c d (m ∷ ms) =
      sym (or_assoc (not (fits d c)) (not (fits (kind_of m) c)) (any_unfit c ms))
      ∙ ap (λ x. x || any_unfit c ms) (unfit d (kind_of m) c) ∙ unfit_onto c (meet d (kind_of m)) ms

  doubled : (x y : Test) → (x || y) ≡ (x || (x || y))
  doubled true y = refl
  doubled false y = refl

  -- all fit where the kind that they have in common does
  pub unfit_common : (c : Option Kind) (m : Tree) (ms : List Tree)
      → any_unfit c (m ∷ ms) ≡ not (fits (common (m ∷ ms)) c)
  unfit_common c m ms = doubled (not (fits (kind_of m) c)) (any_unfit c ms) ∙ unfit_onto c (kind_of m) (m ∷ ms)

-- ---- the label of an operator on all pairs of members

module _ (takes : Kind → Test) (gives : Kind → Tree) where
  -- the result of the row of two kinds, by the kind that they have in common
  abbrev row_at : Option Kind → Option Tree
  row_at None = None
  row_at (Some k) = if takes k then Some (gives k) else None

  row_is : (k l : Option Kind) → row_of_kinds takes gives k l ≡ row_at (meet k l)
  row_is None l = refl
  row_is (Some whole_kind) None = refl
  row_is (Some text_kind) None = refl
  row_is (Some whole_kind) (Some whole_kind) = refl
  row_is (Some text_kind) (Some text_kind) = refl
  row_is (Some whole_kind) (Some text_kind) = refl
  row_is (Some text_kind) (Some whole_kind) = refl

  -- the codes found on a pair
  abbrev codes_of_row : Option Kind → List Code
  codes_of_row c = (pair_found (row_at c)).found

  row_error : (c : Option Kind) → has_error (codes_of_row c) ≡ not (kind_taken takes c)
  row_error None = refl
  row_error (Some k) = go (takes k)
    where
      go : (b : Test) → has_error (pair_found (if b then Some (gives k) else None)).found ≡ not b
      go true = refl
      go false = refl

  -- all codes are E13
  abbrev OnlyWrong : List Code → Type 0
  OnlyWrong [] = Unit {0}
  OnlyWrong (c ∷ cs) = (c ≡ E13) × OnlyWrong cs

  only_append : (cs ds : List Code) → OnlyWrong cs → OnlyWrong ds → OnlyWrong (cs ++ ds)
  only_append [] ds h k = k
  only_append (c ∷ cs) ds h k = (h.0, only_append cs ds h.1 k)

  only_onto : (cs : List Code) → OnlyWrong cs → once_onto (E13 ∷ []) cs ≡ E13 ∷ []
  only_onto [] h = refl
  only_onto (c ∷ cs) h = rw h.0 (only_onto cs h.1)

  -- one of them is found once
  only_once : (cs : List Code) → OnlyWrong cs → has_error cs ≡ true → once cs ≡ E13 ∷ []
  only_once [] h e = absurd (false≢true e)
  only_once (c ∷ cs) h e = rw h.0 (only_onto cs h.1)

  row_only : (c : Option Kind) → OnlyWrong (codes_of_row c)
  row_only None = (refl, tt)
  row_only (Some k) = go (takes k)
    where
      go : (b : Test) → OnlyWrong (pair_found (if b then Some (gives k) else None)).found
      go true = tt
      go false = (refl, tt)

  -- the offers on the pairs of a member and others, and on all pairs
  abbrev row_offers : Tree → List Tree → List Offer
  row_offers m ns = map (λ n. pair_found (row_of_kinds takes gives (kind_of m) (kind_of n))) ns

  found_append : (os ps : List Offer) → found_of (os ++ ps) ≡ found_of os ++ found_of ps
  found_append [] ps = refl
  found_append (o ∷ os) ps = ap (λ l. o.found ++ l) (found_append os ps)
      ∙ sym (append_assoc o.found (found_of os) (found_of ps))

  only_row : (m : Tree) (ns : List Tree) → OnlyWrong (found_of (row_offers m ns))
  only_row m [] = tt
  only_row m (n ∷ ns) = only_append _ (found_of (row_offers m ns))
      (subst (λ (x : Option Tree). OnlyWrong (pair_found x).found) (sym (row_is (kind_of m) (kind_of n)))
      (row_only (meet (kind_of m) (kind_of n)))) (only_row m ns)

  only_pairs : (ms ns : List Tree) → OnlyWrong (found_of (pair_offers takes gives ms ns))
  only_pairs [] ns = tt
  only_pairs (m ∷ ms) ns = subst OnlyWrong (sym (found_append (row_offers m ns) (pair_offers takes gives ms ns)))
      (only_append (found_of (row_offers m ns)) (found_of (pair_offers takes gives ms ns)) (only_row m ns)
      (only_pairs ms ns))

  -- an error on the pairs of a member and others
  error_row : (m : Tree) (ns : List Tree) → has_error (found_of (row_offers m ns)) ≡ any_unfit takes (kind_of m) ns
  error_row m [] = refl
  error_row m (n ∷ ns) =
      list_any-append is_error (pair_found (row_of_kinds takes gives (kind_of m) (kind_of n))).found
      (found_of (row_offers m ns))
      ∙ ap (λ x. x || has_error (found_of (row_offers m ns))) (ap (λ (x : Option Tree). has_error (pair_found x).found)
      (row_is (kind_of m) (kind_of n)) ∙ row_error (meet (kind_of m) (kind_of n))
      ∙ ap (λ (x : Option Kind). not (kind_taken takes x)) (meet_turned (kind_of m) (kind_of n)))
      ∙ ap (λ x. not (fits takes (kind_of n) (kind_of m)) || x) (error_row m ns)

  -- an error on all pairs
  error_pairs : (ms : List Tree) (n : Tree) (ns : List Tree) → has_error
      (found_of (pair_offers takes gives ms (n ∷ ns))) ≡ any_unfit takes (common (n ∷ ns)) ms
  error_pairs [] n ns = refl
  error_pairs (m ∷ ms) n ns =
      ap has_error (found_append (row_offers m (n ∷ ns)) (pair_offers takes gives ms (n ∷ ns)))
      ∙ list_any-append is_error (found_of (row_offers m (n ∷ ns))) (found_of (pair_offers takes gives ms (n ∷ ns)))
      ∙ ap (λ x. x || has_error (found_of (pair_offers takes gives ms (n ∷ ns))))
      (error_row m (n ∷ ns) ∙ unfit_common takes (kind_of m) n ns
      ∙ ap (λ (x : Option Kind). not (kind_taken takes x)) (meet_turned (common (n ∷ ns)) (kind_of m)))
      ∙ ap (λ x. not (fits takes (kind_of m) (common (n ∷ ns))) || x) (error_pairs ms n ns)

  pub pairs_wrong : (bases : Bases) (m n : Tree) (ms ns : List Tree)
      → kind_taken takes (meet (common (m ∷ ms)) (common (n ∷ ns))) ≡ false
      → brief (offers_label bases (pair_offers takes gives (m ∷ ms) (n ∷ ns))) ≡ in_error E13
  pairs_wrong bases m n ms ns e =
      let os = pair_offers takes gives (m ∷ ms) (n ∷ ns) in
      let wrong : has_error (found_of os) ≡ true = error_pairs (m ∷ ms) n ns ∙ unfit_common takes (common (n ∷ ns)) m ms
      ∙ ap not e in
      let codes : once (found_of os) ≡ E13 ∷ [] = only_once (found_of os) (only_pairs (m ∷ ms) (n ∷ ns)) wrong in
      λ j. record { type = (if wrong j then Any else join_all bases (map (λ o. o.gives) os)); codes = codes j }

  -- ---- all members are of one kind

  abbrev AllOf : Kind → List Tree → Type 0
  AllOf k [] = Unit {0}
  AllOf k (m ∷ ms) = (kind_of m ≡ Some k) × AllOf k ms

  meet_both : (c d : Option Kind) (k : Kind) → meet c d ≡ Some k → (c ≡ Some k) × (d ≡ Some k)
  meet_both None d k e = cc
  meet_both (Some whole_kind) None k e = cc
  meet_both (Some text_kind) None k e = cc
  meet_both (Some whole_kind) (Some whole_kind) k e = (e, e)
  meet_both (Some text_kind) (Some text_kind) k e = (e, e)
  meet_both (Some whole_kind) (Some text_kind) k e = cc
  meet_both (Some text_kind) (Some whole_kind) k e = cc

  all_onto : (d : Option Kind) (ms : List Tree) (k : Kind) → common_onto d ms ≡ Some k → (d ≡ Some k) × AllOf k ms
  all_onto d [] k e = (e, tt)
  all_onto d (m ∷ ms) k e = let rest = all_onto (meet d (kind_of m)) ms k e in let two =
      meet_both d (kind_of m) k rest.0 in (two.0, (two.1, rest.1))

  all_of : (ms : List Tree) (k : Kind) → common ms ≡ Some k → AllOf k ms
  all_of [] k e = cc
  all_of (m ∷ ms) k e = (all_onto (kind_of m) (m ∷ ms) k e).1

  meet_same : (k : Kind) → meet (Some k) (Some k) ≡ Some k
  meet_same whole_kind = refl
  meet_same text_kind = refl

  -- each offer is the same
  abbrev AllSuit : Kind → List Offer → Type 0
  AllSuit k [] = Unit {0}
  AllSuit k (o ∷ os) = (o ≡ supported (gives k) []) × AllSuit k os

  suit_append : (k : Kind) (os ps : List Offer) → AllSuit k os → AllSuit k ps → AllSuit k (os ++ ps)
  suit_append k [] ps h g = g
  suit_append k (o ∷ os) ps h g = (h.0, suit_append k os ps h.1 g)

  suit_pair : (k : Kind) (c d : Option Kind) → takes k ≡ true → c ≡ Some k → d ≡ Some k
      → pair_found (row_of_kinds takes gives c d) ≡ supported (gives k) []
  suit_pair k c d t e f = ap pair_found (row_is c d ∙ ap row_at ((λ j. meet (e j) (f j)) ∙ meet_same k))
      ∙ ap (λ (b : Test). pair_found (if b then Some (gives k) else None)) t

  suit_row : (k : Kind) (m : Tree) (ns : List Tree) → takes k ≡ true → kind_of m ≡ Some k → AllOf k ns
      → AllSuit k (row_offers m ns)
  suit_row k m [] t e h = tt
  suit_row k m (n ∷ ns) t e h = (suit_pair k (kind_of m) (kind_of n) t e h.0, suit_row k m ns t e h.1)

  suit_pairs : (k : Kind) (ms ns : List Tree) → takes k ≡ true → AllOf k ms → AllOf k ns
      → AllSuit k (pair_offers takes gives ms ns)
  suit_pairs k [] ns t g h = tt
  suit_pairs k (m ∷ ms) ns t g h = suit_append k (row_offers m ns) (pair_offers takes gives ms ns)
      (suit_row k m ns t g.0 h) (suit_pairs k ms ns t g.1 h)

  suit_found : (k : Kind) (os : List Offer) → AllSuit k os → found_of os ≡ []
  suit_found k [] h = refl
  suit_found k (o ∷ os) h = rw h.0 (suit_found k os h.1)

  -- the joins of what the operator gives are that type
  module _ (bases : Bases) (first : (k : Kind) → join_or_object bases Never (gives k) ≡ gives k)
      (same : (k : Kind) → join_or_object bases (gives k) (gives k) ≡ gives k) where
    suit_onto : (k : Kind) (os : List Offer) → AllSuit k os → join_onto bases (gives k) (map (λ o. o.gives) os)
        ≡ gives k
    suit_onto k [] h = refl
    suit_onto k (o ∷ os) h = ap (λ (x : Offer). join_onto bases (join_or_object bases (gives k) x.gives)
        (map (λ p. p.gives) os)) h.0 ∙ ap (λ (x : Tree). join_onto bases x (map (λ p. p.gives) os)) (same k)
        ∙ suit_onto k os h.1

    suit_join : (k : Kind) (o : Offer) (os : List Offer) → AllSuit k (o ∷ os)
        → join_all bases (map (λ p. p.gives) (o ∷ os)) ≡ gives k
    suit_join k o os h = ap (λ (x : Offer). join_onto bases (join_or_object bases Never x.gives)
        (map (λ p. p.gives) os)) h.0 ∙ ap (λ (x : Tree). join_onto bases x (map (λ p. p.gives) os)) (first k)
        ∙ suit_onto k os h.1

    pub pairs_right : (m n : Tree) (ms ns : List Tree) (k : Kind) → meet (common (m ∷ ms)) (common (n ∷ ns)) ≡ Some k
        → takes k ≡ true → brief (offers_label bases (pair_offers takes gives (m ∷ ms) (n ∷ ns))) ≡ clean (gives k)
    pairs_right m n ms ns k e t =
        let os = pair_offers takes gives (m ∷ ms) (n ∷ ns) in
        let both = meet_both (common (m ∷ ms)) (common (n ∷ ns)) k e in
        let all = suit_pairs k (m ∷ ms) (n ∷ ns) t (all_of (m ∷ ms) k both.0) (all_of (n ∷ ns) k both.1) in
        let found = suit_found k os all in
        (λ j. record {
          type = (if has_error (found j) then Any else join_all bases (map (λ o. o.gives) os));
          codes =
              once (found j);
        }) ∙ ap clean (suit_join k _ _ all)

    -- the label of all pairs, each code once, is that of the kind that all members have in common
    pub pairs_common : (m n : Tree) (ms ns : List Tree) → brief
        (offers_label bases (pair_offers takes gives (m ∷ ms) (n ∷ ns))) ≡ kind_label takes gives
        (meet (common (m ∷ ms)) (common (n ∷ ns)))
    pairs_common m n ms ns = go (meet (common (m ∷ ms)) (common (n ∷ ns))) refl
      where
        by_test : (k : Kind) (b : Test) → takes k ≡ b → meet (common (m ∷ ms)) (common (n ∷ ns)) ≡ Some k
            → brief (offers_label bases (pair_offers takes gives (m ∷ ms) (n ∷ ns)))
            ≡ (if b then clean (gives k) else in_error E13)
        by_test k true t e = pairs_right m n ms ns k e t
        by_test k false t e = pairs_wrong bases m n ms ns (ap (kind_taken takes) e ∙ t)

        go : (c : Option Kind) → meet (common (m ∷ ms)) (common (n ∷ ns)) ≡ c
            → brief (offers_label bases (pair_offers takes gives (m ∷ ms) (n ∷ ns))) ≡ kind_label takes gives c
        go None e = pairs_wrong bases m n ms ns (ap (kind_taken takes) e)
        go (Some k) e = by_test k (takes k) refl e
