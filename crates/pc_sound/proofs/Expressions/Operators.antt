-- Unary minus, binary operators and comparisons are safe if their operands are.
use Rattle.std.proofs.Common.{◌≡◌, ℕ, List, [], ◌∷◌, ◌++◌, map, refl, sym, ap, ◌∙◌, subst, inl, inr, arith}
use Rattle.std.specs.Prelude.{Bool as Test, true, false, not, ◌||◌, if◌then◌else◌, Option, Some, None, ℤ}
use Rattle.std.proofs.lemmas.Grind.{flat_map-append}
use Rattle.std.proofs.lemmas.Bool.{false≢true}
use Rattle.pc_source.specs.declared.place.Place.{Place}
use Rattle.pc_tree.specs.declared.tree.BinaryOperator.{BinaryOperator}
use Rattle.pc_tree.specs.declared.tree.BinaryOperator.TheVariants.{Add, Sub, Mul, FloorDiv, Mod}
use Rattle.pc_tree.specs.declared.tree.ComparisonOperator.{ComparisonOperator}
use Rattle.pc_tree.specs.declared.tree.ComparisonOperator.TheVariants.{Equal, NotEqual, Less, LessEqual, Greater}
use Rattle.pc_tree.specs.declared.tree.ComparisonOperator.TheVariants.{GreaterEqual, In, NotIn}
use Rattle.pc_tree.specs.declared.code.Code.TheVariants.{A2, E13}
use Rattle.pc_tree.specs.Tree.{Expr, negative, binary, compare}
use Rattle.pc_tree.specs.Depth.{place_of}
use Rattle.pc_types.specs.Tree.{Tree, Any, Never, Int, Bool, Str, NoneType, ListOf, DictOf, TupleOf, Union}
use Rattle.pc_types.specs.Below.{Bases, AreSmaller}
use Rattle.pc_types.specs.Shape.{members}
use Rattle.pc_class.specs.Facts.{ClassFacts}
use Rattle.pc_flow.specs.Environment.{Env}
use Rattle.pc_rules.specs.Operations.{Label, Offer, clean, in_error, found_of, offers_label, negative_member, Kind}
use Rattle.pc_rules.specs.Operations.{whole_kind, text_kind, kind_of, kind_type, takes_kind, row_of_kinds, pair_found}
use Rattle.pc_rules.specs.Operations.{pair_offers, pairs_label, is_never, is_any, is_dynamic, binary_label}
use Rattle.pc_rules.specs.Operations.{contain_member}
use Rattle.pc_rules.specs.Context.{Context, FlowsInto}
use Rattle.pc_rules.specs.Labels.{Labels, whole_label, type_of, Finds}
use Rattle.pc_rules.specs.Lawful.{Lawful, compare_label, compare_types}
use Rattle.pc_value.specs.Value as value
use Rattle.pc_value.specs.Value.{Value, Out, whole, boolean, string, Values, tuple_of, location, DictEntry, Seen, a_number}
use Rattle.pc_value.specs.Value.{a_text, Heap, seen}
use Rattle.pc_value.specs.Actions as action
use Rattle.pc_value.specs.Actions.{Outcome, Free}
use Rattle.pc_value.specs.Numbers.{is_zero}
use Rattle.pc_value.specs.Containers.{contains_key}
use Rattle.pc_value.specs.Operators.{negative_of, binary_outcome, compare_outcome, opposite, membership_of, is_equal}
use Rattle.pc_machine.specs.Steps.{Parts, value_out}
use Rattle.pc_machine.specs.Evaluation.{eval_node}
use Rattle.pc_machine.specs.Free.{Step, free}
use Rattle.pc_sound.specs.Values.{HeapTyping, HasType, IsWell}
use Rattle.pc_sound.specs.Ends.{EndsWell}
use Rattle.pc_sound.proofs.Steps.Judgment.{Around, IsSafe, IsContextOf}
use Rattle.pc_sound.proofs.Lists.{front_empty, not_empty, rest_empty}
use Rattle.pc_sound.proofs.Values.ValuesFlow.{later}
use Rattle.pc_sound.proofs.Steps.SafeSteps.{bind_safe, emits_safe, act_safe}
use Rattle.pc_sound.proofs.Regular.KeyedLabels.{Keyed}
use Rattle.pc_sound.proofs.Expressions.SimpleExpressions.{Covered, GoodEval, allowed, part}
use Rattle.pc_sound.proofs.Values.Flows.{Evaluates}
use Rattle.pc_sound.proofs.Values.Narrowing.{HasSome, to_members}
use Rattle.pc_sound.proofs.Heap.SeenValues.{sees_list, sees_dict}
use Rattle.pc_sound.proofs.Values.UnionMembers.{HasEach, each_later, chosen, one_offer_ends, offers_end}
use Rattle.pc_sound.proofs.Values.SeveralFlows.{flows_safe}

-- values of a kind are seen in this form
abbrev IsSeen : Kind → Seen → Type 0
IsSeen whole_kind (a_number n) = Unit {0}
IsSeen text_kind (a_text cs) = Unit {0}
IsSeen c s = ⊥

found_both : (os ps : List Offer) → found_of (os ++ ps) ≡ [] → found_of os ++ found_of ps ≡ []
found_both os ps e = sym (flat_map-append (λ o. o.found) os ps) ∙ e

found_left : (os ps : List Offer) → found_of (os ++ ps) ≡ [] → found_of os ≡ []
found_left os ps e = front_empty (found_of os) (found_of ps) (found_both os ps e)

found_right : (os ps : List Offer) → found_of (os ++ ps) ≡ [] → found_of ps ≡ []
found_right os ps e = rest_empty (found_of os) (found_of ps) (found_both os ps e)

-- the offer of an operator on a pair of members
abbrev Pair : (Kind → Test) → (Kind → Tree) → Tree → Tree → Offer
Pair takes result m n = pair_found (row_of_kinds takes result (kind_of m) (kind_of n))

module _ (bases : Bases) (k : HeapTyping) (heap : Heap) where
  -- ---- kinds

  kind_seen : (m : Tree) (c : Kind) → kind_of m ≡ Some c → (v : Value) → HasType bases k m v → IsSeen c (seen heap v)
  kind_seen Int whole_kind e (whole n) h = tt
  kind_seen Int whole_kind e (boolean b) h = tt
  kind_seen Int whole_kind e _ h = absurd h
  kind_seen Bool whole_kind e (boolean b) h = tt
  kind_seen Bool whole_kind e _ h = absurd h
  kind_seen Str text_kind e (string cs) h = tt
  kind_seen Str text_kind e _ h = absurd h
  kind_seen _ _ e v h = absurd (grind (arith, e))

  -- ---- unary minus

  negative_ends : (m : Tree) (v : Value) → HasType bases k m v → (negative_member m).found ≡ []
      → EndsWell (λ w. HasType bases k (negative_member m).gives w) (value_out (negative_of (seen heap v)))
  negative_ends Int (whole n) h e = tt
  negative_ends Int (boolean b) h e = tt
  negative_ends Int _ h e = absurd h
  negative_ends Bool (boolean b) h e = tt
  negative_ends Bool _ h e = absurd h
  negative_ends _ v h e = absurd (not_empty e)

  -- ---- binary operators

  by_zero : (z : Test) (n : ℤ) → EndsWell (λ w. HasType bases k Int w)
      (value_out (if z then action.stops value.Other else action.gives (whole n)))
  by_zero true n = tt
  by_zero false n = tt

  whole_ends : (o : BinaryOperator) (s t : Seen) → IsSeen whole_kind s → IsSeen whole_kind t
      → EndsWell (λ w. HasType bases k Int w) (value_out (binary_outcome o s t))
  whole_ends Add (a_number x) (a_number y) a b = tt
  whole_ends Sub (a_number x) (a_number y) a b = tt
  whole_ends Mul (a_number x) (a_number y) a b = tt
  whole_ends FloorDiv (a_number x) (a_number y) a b = by_zero (is_zero y) _
  whole_ends Mod (a_number x) (a_number y) a b = by_zero (is_zero y) _
  whole_ends o (a_number x) _ a b = absurd b
  whole_ends o _ t a b = absurd a

  text_ends : (o : BinaryOperator) (s t : Seen) → IsSeen text_kind s → IsSeen text_kind t
      → (pair_found (if takes_kind o text_kind then Some (kind_type text_kind) else None)).found ≡ []
      → EndsWell (λ w. HasType bases k (pair_found (if takes_kind o text_kind then Some (kind_type text_kind)
      else None)).gives w) (value_out (binary_outcome o s t))
  text_ends Add (a_text x) (a_text y) a b e = tt
  text_ends Add (a_text x) _ a b e = absurd b
  text_ends Add _ t a b e = absurd a
  text_ends Sub s t a b e = absurd (not_empty e)
  text_ends Mul s t a b e = absurd (not_empty e)
  text_ends FloorDiv s t a b e = absurd (not_empty e)
  text_ends Mod s t a b e = absurd (not_empty e)

  binary_ends : (o : BinaryOperator) (m n : Tree) (v w : Value) → HasType bases k m v → HasType bases k n w
      → (Pair (takes_kind o) kind_type m n).found ≡ [] → EndsWell
      (λ x. HasType bases k (Pair (takes_kind o) kind_type m n).gives x)
      (value_out (binary_outcome o (seen heap v) (seen heap w)))
  binary_ends o m n v w h g = go (kind_of m) (kind_of n) refl refl
    where
      go : (c d : Option Kind) → kind_of m ≡ c → kind_of n ≡ d
          → (pair_found (row_of_kinds (takes_kind o) kind_type c d)).found ≡ []
          → EndsWell (λ x. HasType bases k (pair_found (row_of_kinds (takes_kind o) kind_type c d)).gives x)
          (value_out (binary_outcome o (seen heap v) (seen heap w)))
      go (Some whole_kind) (Some whole_kind) a b e = whole_ends o (seen heap v) (seen heap w)
          (kind_seen m whole_kind a v h) (kind_seen n whole_kind b w g)
      go (Some text_kind) (Some text_kind) a b e = text_ends o (seen heap v) (seen heap w) (kind_seen m text_kind a v h)
          (kind_seen n text_kind b w g) e
      go _ _ a b e = absurd (not_empty e)

  -- ---- comparisons by order

  -- the operators that compare by order
  abbrev IsOrder : ComparisonOperator → Type 0
  IsOrder Less = Unit {0}
  IsOrder LessEqual = Unit {0}
  IsOrder Greater = Unit {0}
  IsOrder GreaterEqual = Unit {0}
  IsOrder _ = ⊥

  numbers_ordered : (answers : Free) (o : ComparisonOperator) → IsOrder o → (s t : Seen) → IsSeen whole_kind s
      → IsSeen whole_kind t → EndsWell (λ w. HasType bases k Bool w) (value_out (compare_outcome answers o s t))
  numbers_ordered answers Less i (a_number x) (a_number y) a b = tt
  numbers_ordered answers LessEqual i (a_number x) (a_number y) a b = tt
  numbers_ordered answers Greater i (a_number x) (a_number y) a b = tt
  numbers_ordered answers GreaterEqual i (a_number x) (a_number y) a b = tt
  numbers_ordered answers Equal i s t a b = absurd i
  numbers_ordered answers NotEqual i s t a b = absurd i
  numbers_ordered answers In i s t a b = absurd i
  numbers_ordered answers NotIn i s t a b = absurd i
  numbers_ordered answers o i (a_number x) _ a b = absurd b
  numbers_ordered answers o i _ t a b = absurd a

  texts_ordered : (answers : Free) (o : ComparisonOperator) → IsOrder o → (s t : Seen) → IsSeen text_kind s
      → IsSeen text_kind t → EndsWell (λ w. HasType bases k Bool w) (value_out (compare_outcome answers o s t))
  texts_ordered answers Less i (a_text x) (a_text y) a b = tt
  texts_ordered answers LessEqual i (a_text x) (a_text y) a b = tt
  texts_ordered answers Greater i (a_text x) (a_text y) a b = tt
  texts_ordered answers GreaterEqual i (a_text x) (a_text y) a b = tt
  texts_ordered answers Equal i s t a b = absurd i
  texts_ordered answers NotEqual i s t a b = absurd i
  texts_ordered answers In i s t a b = absurd i
  texts_ordered answers NotIn i s t a b = absurd i
  texts_ordered answers o i (a_text x) _ a b = absurd b
  texts_ordered answers o i _ t a b = absurd a

  order_ends : (answers : Free) (o : ComparisonOperator) → IsOrder o → (m n : Tree) (v w : Value) → HasType bases k m v
      → HasType bases k n w → (Pair (λ c. true) (λ c. Bool) m n).found ≡ []
      → EndsWell (λ x. HasType bases k (Pair (λ c. true) (λ c. Bool) m n).gives x)
      (value_out (compare_outcome answers o (seen heap v) (seen heap w)))
  order_ends answers o i m n v w h g = go (kind_of m) (kind_of n) refl refl
    where
      go : (c d : Option Kind) → kind_of m ≡ c → kind_of n ≡ d
          → (pair_found (row_of_kinds (λ c. true) (λ c. Bool) c d)).found ≡ []
          → EndsWell (λ x. HasType bases k (pair_found (row_of_kinds (λ c. true) (λ c. Bool) c d)).gives x)
          (value_out (compare_outcome answers o (seen heap v) (seen heap w)))
      go (Some whole_kind) (Some whole_kind) a b e = numbers_ordered answers o i (seen heap v) (seen heap w)
          (kind_seen m whole_kind a v h) (kind_seen n whole_kind b w g)
      go (Some text_kind) (Some text_kind) a b e = texts_ordered answers o i (seen heap v) (seen heap w)
          (kind_seen m text_kind a v h) (kind_seen n text_kind b w g)
      go _ _ a b e = absurd (not_empty e)

  -- ---- pairs of members

  given_left : (os ps : List Offer) (w : Value) → HasSome bases k (map (λ o. o.gives) os) w
      → HasSome bases k (map (λ o. o.gives) (os ++ ps)) w
  given_left [] ps w h = absurd h
  given_left (o ∷ os) ps w h = elim h [ inl x ↦ inl x | inr y ↦ inr (given_left os ps w y) ]

  given_right : (os ps : List Offer) (w : Value) → HasSome bases k (map (λ o. o.gives) ps) w
      → HasSome bases k (map (λ o. o.gives) (os ++ ps)) w
  given_right [] ps w h = h
  given_right (o ∷ os) ps w h = inr (given_right os ps w h)

  -- the pair of members that two values are of, where nothing is found on any pair
  record ChosenPair (takes : Kind → Test) (result : Kind → Tree) (ms ns : List Tree) (v w : Value) : Type 0 where
    left : Tree
    right : Tree
    has_left : HasType bases k left v
    has_right : HasType bases k right w
    none : (Pair takes result left right).found ≡ []
    among : (x : Value) → HasType bases k (Pair takes result left right).gives x
        → HasSome bases k (map (λ o. o.gives) (pair_offers takes result ms ns)) x

  chosen_pair : (takes : Kind → Test) (result : Kind → Tree) (ms ns : List Tree) (v w : Value) → HasSome bases k ms v
      → HasSome bases k ns w → found_of (pair_offers takes result ms ns) ≡ [] → ChosenPair takes result ms ns v w
  chosen_pair takes result [] ns v w h g e = absurd h
  chosen_pair takes result (m ∷ ms) ns v w h g e =
      let front = map (Pair takes result m) ns in
      let rest = pair_offers takes result ms ns in
      elim h [
        | inl x ↦ let c = chosen bases k (Pair takes result m) ns w g (found_left front rest e) in record {
          left = m;
          right = c.member;
          has_left = x;
          has_right = c.has;
          none = c.clean;
          among = λ y a. given_left front rest y (c.gives y a);
        }
        | inr x ↦ let c = chosen_pair takes result ms ns v w x g (found_right front rest e) in record {
          left = c.left;
          right = c.right;
          has_left = c.has_left;
          has_right = c.has_right;
          none = c.none;
          among = λ y a. given_right front rest y (c.among y a);
        }
      ]

  not_never : (t : Tree) (v : Value) → is_never t ≡ true → HasType bases k t v → ⊥
  not_never Never v e h = h
  not_never _ v e h = absurd (false≢true e)

  either_never : (s t : Tree) (v w : Value) → (is_never s || is_never t) ≡ true → HasType bases k s v
      → HasType bases k t w → ⊥
  either_never s t v w e h g = go (is_never s) refl e
    where
      go : (x : Test) → is_never s ≡ x → (x || is_never t) ≡ true → ⊥
      go true is e = not_never s v is h
      go false is e = not_never t w e g

  -- an operator that ends well on each pair of members on which nothing is found ends well on the types
  pub pairs_end : (ordered : AreSmaller bases) (m : Label) (takes : Kind → Test) (result : Kind → Tree)
      (dynamic s t : Tree) (v w : Value) → m ≡ pairs_label bases takes result dynamic s t → m.codes ≡ []
      → HasType bases k s v → HasType bases k t w → (out : Out Value)
      → ((a b : Tree) → HasType bases k a v → HasType bases k b w → (Pair takes result a b).found ≡ []
      → EndsWell (λ x. HasType bases k (Pair takes result a b).gives x) out) → EndsWell (λ x. HasType bases k m.type x)
      out
  pairs_end ordered m takes result dynamic s t v w is none h g out ends = go (is_never s || is_never t)
      (is_dynamic takes s t) (is_any s || is_any t) refl is
    where
      go : (x y z : Test) → (is_never s || is_never t) ≡ x
          → m ≡ (if x then clean Never else (if y then record { type = dynamic; codes = A2 ∷ [] }
          else (if z then in_error E13 else offers_label bases (pair_offers takes result (members s) (members t)))))
          → EndsWell (λ x. HasType bases k m.type x) out
      go true y z never is = absurd (either_never s t v w never h g)
      go false true z never is = absurd (not_empty (ap (λ x. x.codes) (sym is) ∙ none))
      go false false true never is = absurd (not_empty (ap (λ x. x.codes) (sym is) ∙ none))
      go false false false never is =
          let offers = pair_offers takes result (members s) (members t) in
          let c = chosen_pair takes result (members s) (members t) v w (to_members bases k s v h)
          (to_members bases k t w g) (ap (λ x. x.codes) (sym is) ∙ none) in
          one_offer_ends bases k ordered m offers is none (Pair takes result c.left c.right).gives c.among out
          (ends c.left c.right c.has_left c.has_right c.none)

  -- ---- `in`

  module _ (classes : List ClassFacts) (well : IsWell bases classes k heap) (answers : Free) where
    -- an outcome is a truth value, and so is its opposite
    abbrev HoldsTruth : Outcome → Type 0
    HoldsTruth o = EndsWell (λ x. HasType bases k Bool x) (value_out o)
        × EndsWell (λ x. HasType bases k Bool x) (value_out (opposite o))

    key_contained : (v : Value) (entries : List DictEntry) → HasType bases k (Union Int (Union Str NoneType)) v
        → HoldsTruth (contains_key (seen heap v) entries)
    key_contained (whole n) entries h = (tt, tt)
    key_contained (boolean b) entries h = (tt, tt)
    key_contained (string cs) entries h = (tt, tt)
    key_contained value.none entries h = (tt, tt)
    key_contained (tuple_of vs) entries h = elim h [
      | inl a ↦ absurd a
      | inr b ↦
          elim b [ inl c ↦ absurd c | inr d ↦ absurd d ]
    ]
    key_contained (location l) entries h = elim h [
      | inl a ↦ absurd a
      | inr b ↦
          elim b [ inl c ↦ absurd c | inr d ↦ absurd d ]
    ]

    in_list : (s : Seen) (l : ℕ) (items : List Value) → HoldsTruth (membership_of answers s (value.a_list l items))
    in_list (a_text cs) l items = (tt, tt)
    in_list _ l items = (tt, tt)

    in_tuple : (s : Seen) (items : Values) → HoldsTruth (membership_of answers s (value.a_tuple items))
    in_tuple (a_text cs) items = (tt, tt)
    in_tuple _ items = (tt, tt)

    in_dict : (s : Seen) (l : ℕ) (entries : List DictEntry) → HoldsTruth (contains_key s entries)
        → HoldsTruth (membership_of answers s (value.a_dict l entries))
    in_dict (a_text cs) l entries h = h
    in_dict _ l entries h = h

    member_truth : (n : Tree) (v w : Value) → HasType bases k n w → (contain_member n).found ≡ []
        → HasEach bases k (contain_member n).takes v → HoldsTruth (membership_of answers (seen heap v) (seen heap w))
        × ((contain_member n).gives ≡ Bool)
    member_truth Str (string ds) (string cs) h e t = ((tt, tt), refl)
    member_truth Str _ (string cs) h e t = absurd t.0
    member_truth Str v _ h e t = absurd h
    member_truth (ListOf u) v (location l) h e t = let c = sees_list bases classes k heap well l u h in (
      subst (λ s. HoldsTruth (membership_of answers (seen heap v) s)) (sym c.seen_as)
          (in_list (seen heap v) l c.items),
      refl,
    )
    member_truth (ListOf u) v _ h e t = absurd h
    member_truth (DictOf s u) v (location l) h e t = let c = sees_dict bases classes k heap well l s u h in (
      subst (λ x. HoldsTruth (membership_of answers (seen heap v) x)) (sym c.seen_as)
          (in_dict (seen heap v) l c.entries (key_contained v c.entries t.0)),
      refl,
    )
    member_truth (DictOf s u) v _ h e t = absurd h
    member_truth (TupleOf us) v (tuple_of ws) h e t = (in_tuple (seen heap v) ws, refl)
    member_truth (TupleOf us) v _ h e t = absurd h
    member_truth _ v w h e t = absurd (not_empty e)

    in_ends : (n : Tree) (v w : Value) → HasType bases k n w → (contain_member n).found ≡ []
        → HasEach bases k (contain_member n).takes v → EndsWell (λ x. HasType bases k (contain_member n).gives x)
        (value_out (membership_of answers (seen heap v) (seen heap w)))
    in_ends n v w h e t = let c = member_truth n v w h e t in subst
        (λ u. EndsWell (λ x. HasType bases k u x) (value_out (membership_of answers (seen heap v) (seen heap w))))
        (sym c.1) c.0.0

    not_in_ends : (n : Tree) (v w : Value) → HasType bases k n w → (contain_member n).found ≡ []
        → HasEach bases k (contain_member n).takes v → EndsWell (λ x. HasType bases k (contain_member n).gives x)
        (value_out (opposite (membership_of answers (seen heap v) (seen heap w))))
    not_in_ends n v w h e t = let c = member_truth n v w h e t in
        subst (λ u. EndsWell (λ x. HasType bases k u x) (value_out
        (opposite (membership_of answers (seen heap v) (seen heap w))))) (sym c.1) c.0.1

    -- ---- comparisons

    compare_ends : (ordered : AreSmaller bases) (o : ComparisonOperator) (m : Label) (s t : Tree) (v w : Value)
        → m ≡ compare_label bases o s t → m.codes ≡ [] → HasType bases k s v → HasType bases k t w
        → HasEach bases k (compare_types o t) v → EndsWell (λ x. HasType bases k m.type x)
        (value_out (compare_outcome answers o (seen heap v) (seen heap w)))
    compare_ends ordered Equal m s t v w is none h g each = subst
        (λ u. HasType bases k u (boolean (is_equal answers (seen heap v) (seen heap w)))) (ap (λ x. x.type) (sym is)) tt
    compare_ends ordered NotEqual m s t v w is none h g each = subst
        (λ u. HasType bases k u (boolean (not (is_equal answers (seen heap v) (seen heap w)))))
        (ap (λ x. x.type) (sym is)) tt
    compare_ends ordered In m s t v w is none h g each = offers_end bases k ordered m contain_member t w is none g
        (value_out (membership_of answers (seen heap v) (seen heap w))) λ n x e takes. in_ends n v w x e (takes v each)
    compare_ends ordered NotIn m s t v w is none h g each = offers_end bases k ordered m contain_member t w is none g
        (value_out (opposite (membership_of answers (seen heap v) (seen heap w)))) λ n x e takes. not_in_ends n v w x e
        (takes v each)
    compare_ends ordered Less m s t v w is none h g each = pairs_end ordered m (λ c. true) (λ c. Bool) Bool s t v w is
        none h g (value_out (compare_outcome answers Less (seen heap v) (seen heap w))) λ a b x y e. order_ends answers
        Less tt a b v w x y e
    compare_ends ordered LessEqual m s t v w is none h g each = pairs_end ordered m (λ c. true) (λ c. Bool) Bool s t v w
        is none h g (value_out (compare_outcome answers LessEqual (seen heap v) (seen heap w))) λ a b x y e.
        order_ends answers LessEqual tt a b v w x y e
    compare_ends ordered Greater m s t v w is none h g each = pairs_end ordered m (λ c. true) (λ c. Bool) Bool s t v w
        is none h g (value_out (compare_outcome answers Greater (seen heap v) (seen heap w))) λ a b x y e.
        order_ends answers Greater tt a b v w x y e
    compare_ends ordered GreaterEqual m s t v w is none h g each = pairs_end ordered m (λ c. true) (λ c. Bool) Bool s t
        v w is none h g (value_out (compare_outcome answers GreaterEqual (seen heap v) (seen heap w))) λ a b x y e.
        order_ends answers GreaterEqual tt a b v w x y e

module _ (around : Around) (ctx : Context) (fits : IsContextOf around ctx) (parts : Parts Step)
    (good : GoodEval around ctx parts.eval) (env : Env) where
  pub negative_safe : (want : Option Tree) (p : Place) (e : Expr) (m : Labels (negative p e))
      → Lawful ctx around.declared env want (negative p e) m → Covered around (Finds (negative p e) m)
      → Keyed (negative p e) m → IsSafe around env (λ k. Unit {0}) (eval_node Step free parts (negative p e))
      (λ k v. HasType around.bases k m.here.type v)
  negative_safe want p e m law covered keyed =
      let here : m.here ≡ offers_label around.bases (map negative_member (members (type_of e m.operand))) =
      subst (λ b. m.here ≡ offers_label b (map negative_member (members (type_of e m.operand)))) (sym fits.bases)
      law.here in
      bind_safe around env _ _ _ (λ k v. HasType around.bases k (type_of e m.operand) v) _ (λ k k' x h. tt)
      (part around ctx parts good env _ None e m.operand law.operand (λ f h. covered f (inr h)) keyed.1)
      λ v. bind_safe around env _ _ _ (λ k u. m.here.codes ≡ []) _
      (λ k k' x h. (tt, later around.bases x (type_of e m.operand) v h.1))
      (emits_safe around env _ p m.here.codes (allowed around p m.here.codes (λ f h. covered f (inl h))))
      λ u. act_safe around env _ value_out (action.negative v) _ λ f k s h st. (
        refl,
        offers_end around.bases k fits.smaller m.here negative_member (type_of e m.operand) v here h.1 h.0.1
            (value_out (negative_of (seen s.heap v))) λ n x e takes. negative_ends around.bases k s.heap n v x e,
      )

  pub binary_safe : (want : Option Tree) (p : Place) (o : BinaryOperator) (l r : Expr) (m : Labels (binary p o l r))
      → Lawful ctx around.declared env want (binary p o l r) m → Covered around (Finds (binary p o l r) m)
      → Keyed (binary p o l r) m → IsSafe around env (λ k. Unit {0}) (eval_node Step free parts (binary p o l r))
      (λ k v. HasType around.bases k m.here.type v)
  binary_safe want p o l r m law covered keyed =
      let here : m.here ≡ binary_label around.bases o (type_of l m.left) (type_of r m.right) =
      subst (λ b. m.here ≡ binary_label b o (type_of l m.left) (type_of r m.right)) (sym fits.bases) law.here in
      bind_safe around env _ _ _ (λ k v. HasType around.bases k (type_of l m.left) v) _ (λ k k' x h. tt)
      (part around ctx parts good env _ None l m.left law.left (λ f h. covered f (inr (inl h))) keyed.1.0)
      λ v. bind_safe around env _ _ _ (λ k w. HasType around.bases k (type_of r m.right) w) _
      (λ k k' x h. (tt, later around.bases x (type_of l m.left) v h.1))
      (part around ctx parts good env _ None r m.right law.right (λ f h. covered f (inr (inr h))) keyed.1.1)
      λ w. bind_safe around env _ _ _ (λ k u. m.here.codes ≡ []) _
      (λ k k' x h. (
        (tt, later around.bases x (type_of l m.left) v h.0.1),
        later around.bases x (type_of r m.right)
            w h.1,
      ))
      (emits_safe around env _ p m.here.codes (allowed around p m.here.codes (λ f h. covered f (inl h))))
      λ u. act_safe around env _ value_out (action.binary o v w) _ λ f k s h st. (
        refl,
        pairs_end around.bases k s.heap fits.smaller m.here (takes_kind o) kind_type Any (type_of l m.left)
            (type_of r m.right) v w here h.1 h.0.0.1 h.0.1 (value_out
            (binary_outcome o (seen s.heap v) (seen s.heap w)))
            λ a b x y e. binary_ends around.bases k s.heap o a b v w x y e,
      )

  pub compare_safe : (evaluates : (e : Expr) → Evaluates (place_of e) (parts.eval e)) (want : Option Tree) (p : Place)
      (o : ComparisonOperator) (l r : Expr) (m : Labels (compare p o l r))
      → Lawful ctx around.declared env want (compare p o l r) m → Covered around (Finds (compare p o l r) m)
      → Keyed (compare p o l r) m → IsSafe around env (λ k. Unit {0}) (eval_node Step free parts (compare p o l r))
      (λ k v. HasType around.bases k m.here.type v)
  compare_safe evaluates want p o l r m law covered keyed =
      let types = compare_types o (type_of r m.right) in
      let here : m.here ≡ compare_label around.bases o (type_of l m.left) (type_of r m.right) =
      subst (λ b. m.here ≡ compare_label b o (type_of l m.left) (type_of r m.right)) (sym fits.bases) law.here in
      bind_safe around env _ _ _ (λ k v. HasType around.bases k (type_of l m.left) v × HasEach around.bases k types v) _
      (λ k k' x h. tt)
      (flows_safe around ctx parts.eval good evaluates env _ None l m.left types m.flows law.left
      (λ f h. covered f (inr (inr (inl h)))) (subst (λ b. FlowsInto b (whole_label l m.left) types m.flows)
      (sym fits.bases) law.flows) (λ f h. covered f (inr (inl h))) keyed.1.0)
      λ v. bind_safe around env _ _ _ (λ k w. HasType around.bases k (type_of r m.right) w) _
      (λ k k' x h. (tt, (later around.bases x (type_of l m.left) v h.1.0, each_later around.bases x types v h.1.1)))
      (part around ctx parts good env _ None r m.right law.right (λ f h. covered f (inr (inr (inr h)))) keyed.1.1)
      λ w. bind_safe around env _ _ _ (λ k u. m.here.codes ≡ []) _
      (λ k k' x h. (
        (tt, (later around.bases x (type_of l m.left) v h.0.1.0, each_later around.bases x types v h.0.1.1)),
        later around.bases x (type_of r m.right) w h.1,
      ))
      (emits_safe around env _ p m.here.codes (allowed around p m.here.codes (λ f h. covered f (inl h))))
      λ u. act_safe around env _ value_out (action.compare o v w) _ λ f k s h st. (
        refl,
        compare_ends around.bases k s.heap around.classes st.well f fits.smaller o m.here (type_of l m.left)
            (type_of r m.right) v w here h.1 h.0.0.1.0 h.0.1 h.0.0.1.1,
      )
