-- Two types whose members put together are those of the first.
use Rattle.std.proofs.Common.{◌≡◌, ◌≤◌, Bool as Test, true, false, List, [], ◌∷◌, Option, Some, None, refl, sym, ap}
use Rattle.std.proofs.Common.{◌∙◌, ◌⊎◌, inl, inr, arith, ◌++◌, ◌+◌, ◌<◌, ℕ, length, get_or, take, subst}
use Rattle.std.proofs.lemmas.List.{take_more, take_all}
use Rattle.std.specs.Prelude.{if◌then◌else◌}
use Rattle.std.specs.Option.{option_map}
use Rattle.pc_types.specs.Tree.{Tree, Trees, Any, Object, Never, Int, ListOf, TupleOf, Union, end, more}
use Rattle.pc_types.specs.Below.{Bases}
use Rattle.pc_types.specs.Shape.{nodes, node_limit, ahead, union}
use Rattle.pc_types.specs.Normal.{IsAfter, IsMember, IsNormal, IsOfMembers}
use Rattle.pc_types.specs.Join.{same_tree, same_trees, is_absorbed, unabsorbed_members, is_before, put_all, one_of}
use Rattle.pc_types.specs.Join.{equal_one, parts_of, join_each, kept_with, ahead_of, one_with, IsSplit, by_rule, join}
use Rattle.pc_types.specs.Join.{join_of, within_limit}
use Rattle.pc_types.proofs.Together.{Behind, together, first_left, first_right, first_both}
use Rattle.pc_types.specs.Boxed.{tree_of, trees_in}
use Rattle.pc_types.specs.declared.boxed.BoxType.{BoxType}
use Rattle.pc_types.proofs.Joined.{same_join, JoinsTo, joins_more, joins_all, one_tuple}
use Rattle.pc_types.proofs.JoinNormal.{within_is}

-- a member ahead of those that stand after it
ahead_after : (a b : Tree) → IsAfter a b → ahead a b ≡ Union a b
ahead_after a Never h = absurd h.0
ahead_after a _ h = refl

-- a type is its first member ahead of the others
split_ahead : (t a rest : Tree) → IsSplit t a rest → IsOfMembers t → ahead a rest ≡ t
split_ahead (Union c d) a rest e n = (λ i. ahead (e.0 i) (e.1 i)) ∙ ahead_after c d n.3
split_ahead Never a rest e n = absurd e
split_ahead Any a rest e n = absurd n
split_ahead Object a rest e n = absurd n
split_ahead t a rest e n = (λ i. ahead (e.0 i) (e.1 i))

-- equal members of one head are one
pub one_equal : (bases : Bases) (a b : Tree) → same_tree a b ≡ true → one_of bases a b ≡ Some a
one_equal bases (TupleOf ss) (TupleOf ts) e = ap (option_map TupleOf) (same_join bases ss ts e)
one_equal bases (TupleOf ss) _ e = cc
one_equal bases a b e = ap (λ x. if x then Some a else None) e

module _ (bases : Bases) (left right : Tree) where
  -- the members of two types put together are those of the first
  abbrev pub Stays : Tree → Tree → Type 0
  Stays s t = option_map union (together bases left right s t) ≡ Some s

  ahead_kept : (x : Test) (s a rest : Tree) (o : Option Tree) → x ≡ false → o ≡ Some rest → ahead a rest ≡ s
      → (if x then o else option_map (ahead a) o) ≡ Some s
  ahead_kept x s a rest o e f g = rw (e, f) (ap Some g)

  pub kept_first : (s t a rest : Tree) → IsSplit s a rest → IsOfMembers s → IsOfMembers t → Behind a t
      → is_absorbed bases a right ≡ false → Stays rest t → Stays s t
  kept_first s t a rest e n m h k f =
      first_left bases left right s t a rest e n m h
      ∙ ahead_kept (is_absorbed bases a right) s a rest (option_map union (together bases left right rest t)) k f
      (split_ahead s a rest e n)

  dropped : (x : Test) (s b : Tree) (o : Option Tree) → x ≡ true → o ≡ Some s
      → (if x then o else option_map (ahead b) o) ≡ Some s
  dropped x s b o e f = rw e f

  pub dropped_first : (s t b rest : Tree) → IsSplit t b rest → IsOfMembers t → Behind b s
      → is_absorbed bases b left ≡ true → Stays s rest → Stays s t
  dropped_first s t b rest e m h k f =
      first_right bases left right s t b rest e m h
      ∙ dropped (is_absorbed bases b left) s b (option_map union (together bases left right s rest)) k f

  both_kept : (x y : Test) (s a b rest : Tree) (o p : Option Tree) → (x ≡ true) ⊎ (p ≡ Some a) → y ≡ false
      → o ≡ Some rest → ahead a rest ≡ s
      → (if x then (if y then o else option_map (ahead a) o) else (if y then option_map (ahead b) o else ahead_of p o))
      ≡ Some s
  both_kept true y s a b rest o p d e f g = ahead_kept y s a rest o e f g
  both_kept false y s a b rest o p (inl d) e f g = cc
  both_kept false y s a b rest o p (inr d) e f g = rw (e, d, f) (ap Some g)

  pub kept_both : (s t a as' b bs : Tree) → IsSplit s a as' → IsOfMembers s → IsSplit t b bs → IsOfMembers t
      → is_before a b ≡ false → is_before b a ≡ false → (is_absorbed bases b left ≡ true) ⊎ (one_of bases a b ≡ Some a)
      → is_absorbed bases a right ≡ false → Stays as' bs → Stays s t
  kept_both s t a as' b bs e n f m h k d g j =
      first_both bases left right s t a as' b bs e n f m h k
      ∙ both_kept (is_absorbed bases b left) (is_absorbed bases a right) s a b as'
      (option_map union (together bases left right as' bs)) (one_of bases a b) d g j (split_ahead s a as' e n)

  pub nothing_stays : (s t : Tree) → s ≡ Never → t ≡ Never → Stays s t
  nothing_stays s t e f = rw (e, f) refl

-- types with members are joined member by member
members_rule : (s t : Tree) (o : Option Tree) → IsOfMembers s → (s ≡ Never → ⊥) → IsOfMembers t → (t ≡ Never → ⊥)
    → by_rule s t o ≡ o
members_rule Never t o n a m b = absurd (a refl)
members_rule Any t o n a m b = absurd n
members_rule Object t o n a m b = absurd n
members_rule s Never o n a m b = absurd (b refl)
members_rule s Any o n a m b = absurd m
members_rule s Object o n a m b = absurd m
members_rule _ _ o n a m b = refl

same_either : (x : Test) (s : Tree) (o : Option Tree) → o ≡ Some s → (if x then Some s else o) ≡ Some s
same_either true s o e = refl
same_either false s o e = e

-- the join of two types whose members together are those of the first is the first, whatever its size
pub join_of_stays : (bases : Bases) (s t : Tree) → IsOfMembers s → (s ≡ Never → ⊥) → IsOfMembers t → (t ≡ Never → ⊥)
    → Stays bases s t s t → join_of bases s t ≡ Some s
join_of_stays bases s t n a m b h =
    let o = option_map union (put_all bases t s (unabsorbed_members bases t s)) in
    same_either (same_tree s t) s (by_rule s t o) (members_rule s t o n a m b ∙ h)

pub join_stays : (bases : Bases) (s t : Tree) → IsOfMembers s → (s ≡ Never → ⊥) → IsOfMembers t → (t ≡ Never → ⊥)
    → nodes s ≤ node_limit → Stays bases s t s t → join bases s t ≡ Some s
join_stays bases s t n a m b l h = ap within_limit (join_of_stays bases s t n a m b h) ∙ within_is s l

-- the join of equal types is the first
pub join_of_same : (bases : Bases) (s t : Tree) → same_tree s t ≡ true → join_of bases s t ≡ Some s
join_of_same bases s t e = ap (λ b. if b then Some s
    else by_rule s t (option_map union (put_all bases t s (unabsorbed_members bases t s)))) e

module _ (bases : Bases) (ss ts : List BoxType) where
  -- one more part of a tuple stays
  pub stays_more : (i : ℕ) (s t : BoxType) → JoinsTo bases ss ts i (take i ss) → i < length ss → i < length ts
      → s ≡ get_or ss i s → t ≡ get_or ts i t → join_of bases (tree_of s) (tree_of t) ≡ Some (tree_of s)
      → JoinsTo bases ss ts (i + 1) (take (i + 1) ss)
  stays_more i s t j h k e f g =
      let m : take i ss ++ s ∷ [] ≡ take (i + 1) ss = ap (λ x. take i ss ++ x ∷ []) e ∙ sym (take_more ss i s h) in
      subst (JoinsTo bases ss ts (i + 1)) m (joins_more bases ss ts (take i ss) i s t s j h k e f (sym g))

  -- all parts of a tuple stay
  pub stays_all : (i : ℕ) → JoinsTo bases ss ts i (take i ss) → length ss ≤ i → length ts ≤ i
      → join_each bases (trees_in ss) (trees_in ts) ≡ Some (trees_in ss)
  stays_all i j h k =
      sym (joins_all bases ss ts (take i ss) i j h k) ∙ ap (λ l. Some (trees_in l)) (take_all i ss h)

-- a tuple whose parts stay is the two as one
pub tuple_stays : (bases : Bases) (a : Tree) (ss : Trees) (b : Tree) (p q : Trees) → a ≡ TupleOf ss → p ≡ ss
    → q ≡ parts_of b → join_each bases p q ≡ Some p → one_of bases a b ≡ Some a
tuple_stays bases a ss b p q e f g h =
    one_tuple bases a ss b p q e f g ∙ ap (option_map TupleOf) h ∙ ap (λ x. Some (TupleOf x)) f ∙ ap Some (sym e)
