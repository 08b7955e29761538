-- The parts of two tuples joined one by one, and the join of equal tuples.
use Rattle.std.proofs.Common.{◌≡◌, ◌+◌, ◌<◌, ◌≤◌, ◌++◌, ℕ, zero, suc, Bool as Test, true, false, length, get_or, drop}
use Rattle.std.proofs.Common.{List, [], ◌∷◌, Option, Some, None, Result, Ok, Err, IfOk, MatchResult, Vec, Global}
use Rattle.std.proofs.Common.{refl, sym, ap, ◌∙◌, subst}
use Rattle.std.proofs.Common.{arith, drop-cons, add-one}
use Rattle.std.proofs.lemmas.Bool.Decides.{nat_tests}
use Rattle.std.specs.Prelude.{if◌then◌else◌}
use Rattle.std.specs.Option.{option_map}
use Rattle.pc_types.specs.Tree.{Tree, Trees, Any, Object, Never, TupleOf, end, more}
use Rattle.pc_types.specs.Below.{Bases}
use Rattle.pc_types.specs.Shape.{count, union, ahead}
use Rattle.pc_types.specs.Normal.{IsNormal, AreNormal, IsOfMembers}
use Rattle.pc_types.specs.Join.{same_tree, same_trees, is_before, both_parts, parts_of, put_all, unabsorbed_members}
use Rattle.pc_types.specs.Join.{by_rule, one_of, join_each, join_of, is_absorbed, ahead_of, kept_with, one_with}
use Rattle.pc_types.specs.Boxed.{tree_of, trees_in}
use Rattle.pc_types.specs.declared.boxed.BoxType.{BoxType}
use Rattle.pc_types.specs.declared.boxed.BoxType.TheVariants as ty
use Rattle.pc_types.proofs.Tuples.{both_true}
use Rattle.pc_types.proofs.Together.{put_same}

-- if a call's value maps to a, it maps to every b that equals a
pub ok_as : {X Y E : Type 0} (f : X → Y) (r : Result X E) (a b : Y) → a ≡ b → IfOk r (λ o. f o ≡ a)
    → IfOk r (λ o. f o ≡ b)
ok_as f r a b e h = subst (λ x. IfOk r (λ o. f o ≡ x)) e h

-- the value of a call that was given the result of another call, which has a value if the call has one
pub after_ok : {E : Type 0} (k : Option Tree → Option Tree) (r s : Result (Option BoxType) E) (a b : Option Tree)
    → k a ≡ b → IfOk r (λ o. option_map tree_of o ≡ a)
    → IfOk s (λ o. MatchResult r (λ p. option_map tree_of o ≡ k (option_map tree_of p)) (λ _. ⊥))
    → IfOk s (λ o. option_map tree_of o ≡ b)
after_ok k (Ok p) (Ok o) a b e h g = g ∙ ap k h ∙ e
after_ok k (Err d) (Ok o) a b e h g = absurd g
after_ok k r (Err d) a b e h g = tt

-- parts that are joined, ahead of the others
abbrev pub prefixed : List BoxType → Option Trees → Option Trees
prefixed [] o = o
prefixed (x ∷ xs) o = both_parts (Some (tree_of x)) (prefixed xs o)

pub prefixed_none : (xs : List BoxType) → prefixed xs None ≡ None
prefixed_none [] = refl
prefixed_none (x ∷ xs) = ap (both_parts (Some (tree_of x))) (prefixed_none xs)

pub prefixed_push : (xs : List BoxType) (x : BoxType) (o : Option Trees)
    → prefixed (xs ++ x ∷ []) o ≡ prefixed xs (both_parts (Some (tree_of x)) o)
prefixed_push [] x o = refl
prefixed_push (y ∷ ys) x o = ap (both_parts (Some (tree_of y))) (prefixed_push ys x o)

pub prefixed_end : (xs : List BoxType) → prefixed xs (Some end) ≡ Some (trees_in xs)
prefixed_end [] = refl
prefixed_end (x ∷ xs) = ap (both_parts (Some (tree_of x))) (prefixed_end xs)

no_parts : (o : Option Tree) → None ≡ both_parts o None
no_parts None = refl
no_parts (Some t) = refl

no_first : (p : Option Trees) → both_parts None p ≡ None
no_first None = refl
no_first (Some ts) = refl

module _ (bases : Bases) where
  abbrev pub each : List BoxType → List BoxType → Option Trees
  each ss ts = join_each bases (trees_in ss) (trees_in ts)

  -- tuples of different lengths have no join
  pub each_lengths : (ss ts : List BoxType) → (length ss ≡ length ts → ⊥) → None ≡ each ss ts
  each_lengths [] [] h = absurd (h refl)
  each_lengths [] (t ∷ ts) h = refl
  each_lengths (s ∷ ss) [] h = refl
  each_lengths (s ∷ ss) (t ∷ ts) h =
      no_parts (join_of bases (tree_of s) (tree_of t)) ∙ ap (both_parts (join_of bases (tree_of s) (tree_of t)))
      (each_lengths ss ts (λ e. h (ap suc e)))

  -- the parts so far are joined
  abbrev pub JoinsTo : List BoxType → List BoxType → ℕ → List BoxType → Type 0
  JoinsTo ss ts i out = each ss ts ≡ prefixed out (each (drop i ss) (drop i ts))

  each_at : (ss ts : List BoxType) (i : ℕ) (s t : BoxType) → i < length ss → i < length ts → s ≡ get_or ss i s
      → t ≡ get_or ts i t → each (drop i ss) (drop i ts) ≡ both_parts (join_of bases (tree_of s) (tree_of t))
      (each (drop (i + 1) ss) (drop (i + 1) ts))
  each_at ss ts i s t h k e f =
      let p : drop i ss ≡ s ∷ drop (i + 1) ss = rw add-one (drop-cons ss i s h
      ∙ ap (λ x. x ∷ drop (suc i) ss) (sym e)) in
      let q : drop i ts ≡ t ∷ drop (i + 1) ts = rw add-one (drop-cons ts i t k
      ∙ ap (λ x. x ∷ drop (suc i) ts) (sym f)) in
      λ j. each (p j) (q j)

  pub joins_more : (ss ts out : List BoxType) (i : ℕ) (s t x : BoxType) → JoinsTo ss ts i out → i < length ss
      → i < length ts → s ≡ get_or ss i s → t ≡ get_or ts i t → Some (tree_of x) ≡ join_of bases (tree_of s) (tree_of t)
      → JoinsTo ss ts (i + 1) (out ++ x ∷ [])
  joins_more ss ts out i s t x j h k e f g =
      j ∙ ap (prefixed out) (each_at ss ts i s t h k e f
      ∙ ap (λ o. both_parts o (each (drop (i + 1) ss) (drop (i + 1) ts))) (sym g))
      ∙ sym (prefixed_push out x (each (drop (i + 1) ss) (drop (i + 1) ts)))

  pub joins_none : (ss ts out : List BoxType) (i : ℕ) (s t : BoxType) → JoinsTo ss ts i out → i < length ss
      → i < length ts → s ≡ get_or ss i s → t ≡ get_or ts i t → None ≡ join_of bases (tree_of s) (tree_of t)
      → None ≡ each ss ts
  joins_none ss ts out i s t j h k e f g =
      sym (j ∙ ap (prefixed out) (each_at ss ts i s t h k e f
      ∙ ap (λ o. both_parts o (each (drop (i + 1) ss) (drop (i + 1) ts))) (sym g)
      ∙ no_first (each (drop (i + 1) ss) (drop (i + 1) ts))) ∙ prefixed_none out)

  drop_end : (ss : List BoxType) (i : ℕ) → length ss ≤ i → drop i ss ≡ []
  drop_end [] zero h = refl
  drop_end [] (suc i) h = refl
  drop_end (s ∷ ss) zero h = absurd (omega arith)
  drop_end (s ∷ ss) (suc i) h = drop_end ss i (omega arith)

  pub joins_all : (ss ts out : List BoxType) (i : ℕ) → JoinsTo ss ts i out → length ss ≤ i → length ts ≤ i
      → Some (trees_in out) ≡ each ss ts
  joins_all ss ts out i j h k =
      let p = drop_end ss i h in
      let q = drop_end ts i k in
      sym (j ∙ ap (prefixed out) (λ n. each (p n) (q n)) ∙ prefixed_end out)

-- equal tuples join to themselves
pub same_join : (bases : Bases) (ss ts : Trees) → same_trees ss ts ≡ true → join_each bases ss ts ≡ Some ss
same_join bases end end e = refl
same_join bases end (more t ts) e = cc
same_join bases (more s ss) end e = cc
same_join bases (more s ss) (more t ts) e =
    let r = both_true (same_tree s t) (same_trees ss ts) e in
    ap (λ b. both_parts (if b then Some s else by_rule s t (option_map union
    (put_all bases t s (unabsorbed_members bases t s)))) (join_each bases ss ts)) r.0
    ∙ ap (both_parts (Some s)) (same_join bases ss ts r.1)

same_counts : (ss ts : Trees) → same_trees ss ts ≡ true → count ss ≡ count ts
same_counts end end e = refl
same_counts end (more t ts) e = cc
same_counts (more s ss) end e = cc
same_counts (more s ss) (more t ts) e = ap (λ n. n + 1) (same_counts ss ts
    (both_true (same_tree s t) (same_trees ss ts) e).1)

equal_before : (ss ts : Trees) → count ss ≡ count ts → is_before (TupleOf ss) (TupleOf ts) ≡ false
equal_before ss ts e = grind (arith, nat_tests)

tuple_case : (bases : Bases) (ss ts : Trees) (x : Test) → same_trees ss ts ≡ x
    → option_map union (put_all bases (TupleOf ts) (TupleOf ss) (unabsorbed_members bases (TupleOf ts) (TupleOf ss)))
    ≡ if x then Some (TupleOf ss) else option_map union (put_all bases (TupleOf ts) (TupleOf ss)
    (unabsorbed_members bases (TupleOf ts) (TupleOf ss)))
tuple_case bases ss ts true e =
    let c = same_counts ss ts e in
    ap (option_map union) (put_same bases (TupleOf ss) (TupleOf ts) (TupleOf ss) (TupleOf ts)
    (λ n. option_map TupleOf (join_each bases ss (parts_of n))) [] (equal_before ss ts c)
    (equal_before ts ss (sym c)))
    ∙ ap (λ o. option_map union (option_map (λ f. f ∷ []) (option_map TupleOf o))) (same_join bases ss ts e)
tuple_case bases ss ts false e = refl

-- the join of a tuple and another type is their join by rule, whether the two are equal or not
pub tuple_rule : (bases : Bases) (ss : Trees) (t : Tree) → by_rule (TupleOf ss) t
    (option_map union (put_all bases t (TupleOf ss) (unabsorbed_members bases t (TupleOf ss)))) ≡ join_of bases
    (TupleOf ss) t
tuple_rule bases ss (TupleOf ts) = tuple_case bases ss ts (same_trees ss ts) refl
tuple_rule bases ss Never = refl
tuple_rule bases ss _ = refl

-- parts of types in normal form
pub normal_item : (ts : List BoxType) (k : ℕ) (x : BoxType) → AreNormal (trees_in ts) → k < length ts
    → x ≡ get_or ts k x → IsNormal (tree_of x)
normal_item ts k x n h e = subst (λ y. IsNormal (tree_of y)) (sym e) (go ts k x n h)
  where
    go : (ts : List BoxType) (k : ℕ) (d : BoxType) → AreNormal (trees_in ts) → k < length ts
        → IsNormal (tree_of (get_or ts k d))
    go [] k d n h = absurd (omega arith)
    go (t ∷ ts) zero d n h = n.0
    go (t ∷ ts) (suc k) d n h = go ts k d n.1 (omega arith)

pub normal_parts : (t : Tree) → IsNormal t → AreNormal (parts_of t)
normal_parts (TupleOf ts) n = n
normal_parts _ n = tt

-- a type that no rule names has members
pub listed_of : (t : BoxType) → (t ≡ ty.Any → ⊥) → (t ≡ ty.Object → ⊥) → IsNormal (tree_of t) → IsOfMembers (tree_of t)
listed_of ty.Any a o n = a refl
listed_of ty.Object a o n = o refl
listed_of _ a o n = n

pub ordinary_rule : (s t : BoxType) (o : Option Tree) → (s ≡ ty.Never → ⊥) → (s ≡ ty.Any → ⊥) → (s ≡ ty.Object → ⊥)
    → (t ≡ ty.Never → ⊥) → (t ≡ ty.Any → ⊥) → (t ≡ ty.Object → ⊥) → by_rule (tree_of s) (tree_of t) o ≡ o
ordinary_rule ty.Never t o a b c d e f = absurd (a refl)
ordinary_rule ty.Any t o a b c d e f = absurd (b refl)
ordinary_rule ty.Object t o a b c d e f = absurd (c refl)
ordinary_rule s ty.Never o a b c d e f = absurd (d refl)
ordinary_rule s ty.Any o a b c d e f = absurd (e refl)
ordinary_rule s ty.Object o a b c d e f = absurd (f refl)
ordinary_rule _ _ o a b c d e f = refl

-- the join by rule where a type is Any, object or Never
pub any_left : (t : Tree) (o : Option Tree) → Some Any ≡ by_rule Any t o
any_left Never o = refl
any_left _ o = refl

pub object_left : (t : BoxType) (o : Option Tree) → (t ≡ ty.Any → ⊥) → Some Object ≡ by_rule Object (tree_of t) o
object_left ty.Any o n = absurd (n refl)
object_left _ o n = refl

pub never_right : (s : Tree) (o : Option Tree) → Some s ≡ by_rule s Never o
never_right Never o = refl
never_right _ o = refl

pub any_right : (s : BoxType) (o : Option Tree) → (s ≡ ty.Never → ⊥) → Some Any ≡ by_rule (tree_of s) Any o
any_right ty.Never o n = absurd (n refl)
any_right _ o n = refl

pub object_right : (s : BoxType) (o : Option Tree) → (s ≡ ty.Never → ⊥) → (s ≡ ty.Any → ⊥)
    → Some Object ≡ by_rule (tree_of s) Object o
object_right ty.Never o n m = absurd (n refl)
object_right ty.Any o n m = absurd (m refl)
object_right _ o n m = refl

-- the join of two types, given whether they are equal
pub equal_join : (bases : Bases) (s t : Tree) (b : Test) → b ≡ same_tree s t → b ≡ true → Some s ≡ join_of bases s t
equal_join bases s t b e f = sym (ap (λ x. if x then Some s else by_rule s t (option_map union
    (put_all bases t s (unabsorbed_members bases t s)))) (sym e ∙ f))

pub rule_join : (bases : Bases) (s t : Tree) (b : Test) → b ≡ same_tree s t → b ≡ false
    → by_rule s t (option_map union (put_all bases t s (unabsorbed_members bases t s))) ≡ join_of bases s t
rule_join bases s t b e f = sym (ap (λ x. if x then Some s else by_rule s t (option_map union
    (put_all bases t s (unabsorbed_members bases t s)))) (sym e ∙ f))

-- two members of one head that no other side absorbs
pub one_unabsorbed : (bases : Bases) (left right a b : Tree) (rest : Option Tree) → is_absorbed bases b left ≡ false
    → is_absorbed bases a right ≡ false → ahead_of (one_of bases a b) rest ≡ one_with bases left right a b rest
one_unabsorbed bases left right a b rest e f =
    sym (ap (λ x. if x then kept_with bases a right rest else (if is_absorbed bases a right
    then option_map (ahead b) rest else ahead_of (one_of bases a b) rest)) e
    ∙ ap (λ x. if x then option_map (ahead b) rest else ahead_of (one_of bases a b) rest) f)

pub one_kept : (bases : Bases) (left right a b : Tree) (rest : Option Tree) → is_absorbed bases b left ≡ true
    → kept_with bases a right rest ≡ one_with bases left right a b rest
one_kept bases left right a b rest e =
    sym (ap (λ x. if x then kept_with bases a right rest else (if is_absorbed bases a right
    then option_map (ahead b) rest else ahead_of (one_of bases a b) rest)) e)

pub one_other : (bases : Bases) (left right a b : Tree) (rest : Option Tree) → is_absorbed bases b left ≡ false
    → is_absorbed bases a right ≡ true → option_map (ahead b) rest ≡ one_with bases left right a b rest
one_other bases left right a b rest e f =
    sym (ap (λ x. if x then kept_with bases a right rest else (if is_absorbed bases a right
    then option_map (ahead b) rest else ahead_of (one_of bases a b) rest)) e
    ∙ ap (λ x. if x then option_map (ahead b) rest else ahead_of (one_of bases a b) rest) f)

pub tuple_rule_at : (bases : Bases) (s : Tree) (ss : Trees) (t : Tree) → s ≡ TupleOf ss
    → by_rule s t (option_map union (put_all bases t s (unabsorbed_members bases t s))) ≡ join_of bases s t
tuple_rule_at bases s ss t e =
    subst (λ x. by_rule x t (option_map union (put_all bases t x (unabsorbed_members bases t x))) ≡ join_of bases x t)
    (sym e) (tuple_rule bases ss t)

-- the trees of a vector of boxed types, as the parts of a tuple
abbrev pub parts_tree : Vec BoxType Global → Trees
parts_tree v = trees_in v.items

pub one_tuple : (bases : Bases) (a : Tree) (ss : Trees) (b : Tree) (x y : Trees) → a ≡ TupleOf ss → x ≡ ss
    → y ≡ parts_of b → one_of bases a b ≡ option_map TupleOf (join_each bases x y)
one_tuple bases a ss b x y e f g = ap (λ z. one_of bases z b) e
    ∙ (λ i. option_map TupleOf (join_each bases (sym f i) (sym g i)))
