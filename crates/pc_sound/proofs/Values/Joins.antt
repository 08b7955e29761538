-- A value of either side of a join is one of the join, for any two types; of classes it is needed that each base has a
-- smaller number.
use Rattle.std.proofs.Common.{◌≡◌, ◌<◌, ◌≤◌, ℕ, zero, suc, List, [], ◌∷◌, filter, refl, sym, ap, ◌∙◌, subst, inl, inr}
use Rattle.std.proofs.Common.{arith}
use Rattle.std.specs.Prelude.{◌⊎◌, Bool as Test, true, false, ◌==◌, ◌||◌, not, if◌then◌else◌, Option, Some, None}
use Rattle.std.specs.Prelude.{unwrap_or, nat_le, slice_get}
use Rattle.std.specs.List.{list_any}
use Rattle.std.specs.Option.{option_map, option_map_or, option_and_then}
use Rattle.std.proofs.lemmas.Bool.Decides.{nat_tests, eqb_tells}
use Rattle.std.proofs.lemmas.Option.{none-some, same_Some}
use Rattle.std.proofs.lemmas.Bool.{and_parts, false≢true}
use Rattle.pc_types.specs.Tree.{Tree, Trees, Any, Object, Never, Int, Bool, Str, NoneType, Class, ListOf, DictOf}
use Rattle.pc_types.specs.Tree.{TupleOf, Union, end, more}
use Rattle.pc_types.specs.Below.{Bases, Below, AreSmaller, base_of, bool_int}
use Rattle.pc_types.specs.Shape.{members, union, nodes, node_limit}
use Rattle.pc_types.specs.Normal.{member_rank}
use Rattle.pc_types.specs.Join.{same_tree, same_trees, reaches, absorbs, is_absorbed, unabsorbed_members, is_before}
use Rattle.pc_types.specs.Join.{put_among, equal_one, both_parts, by_rule, put_all, join_each, one_of, join_of}
use Rattle.pc_types.specs.Join.{within_limit, join}
use Rattle.pc_types.proofs.Descent.{reaches_below}
use Rattle.pc_flow.specs.Environment.{join_or_object, join_onto, join_all}
use Rattle.pc_value.specs.Value.{Value, Values, tuple_of, no_values, more_values}
use Rattle.pc_sound.specs.Values.{HeapTyping, HasType, HaveTypes}
use Rattle.pc_types.proofs.Together.{same_rank}
use Rattle.pc_sound.proofs.Values.ValuesFlow.{of_below}
use Rattle.pc_sound.proofs.Values.Narrowing.{HasSome, to_members, of_members}

-- types that are told equal are equal
mutual
  pub same_types : (s t : Tree) → same_tree s t ≡ true → s ≡ t
  same_types Any Any e = refl
  same_types Object Object e = refl
  same_types Never Never e = refl
  same_types Int Int e = refl
  same_types Bool Bool e = refl
  same_types Str Str e = refl
  same_types NoneType NoneType e = refl
  same_types (Class c) (Class d) e = let is : c ≡ d = grind (arith, nat_tests) in ap Class is
  same_types (ListOf s) (ListOf t) e = ap ListOf (same_types s t e)
  same_types (DictOf j v) (DictOf k w) e = let h = and_parts (same_tree j k) (same_tree v w) e in
      λ i. DictOf (same_types j k h.0 i) (same_types v w h.1 i)
  same_types (TupleOf ss) (TupleOf ts) e = ap TupleOf (same_each ss ts e)
  same_types (Union a b) (Union c d) e = let h = and_parts (same_tree a c) (same_tree b d) e in
      λ i. Union (same_types a c h.0 i) (same_types b d h.1 i)
  same_types _ _ e = absurd (false≢true e)

  same_each : (ss ts : Trees) → same_trees ss ts ≡ true → ss ≡ ts
  same_each end end e = refl
  same_each (more s ss) (more t ts) e = let h = and_parts (same_tree s t) (same_trees ss ts) e in
      λ i. more (same_types s t h.0 i) (same_each ss ts h.1 i)
  same_each _ _ e = absurd (false≢true e)

-- ---- absorption

-- the weight of a type: an absorbing one weighs less than those that it absorbs
abbrev weight : Tree → ℕ
weight Bool = 1
weight (Class c) = suc c
weight _ = 0

reaches_smaller : (bases : Bases) → AreSmaller bases → (n c d : ℕ) → reaches bases n c d ≡ true → d ≤ c
reaches_smaller bases ordered zero c d e = let is : c ≡ d = grind (arith, nat_tests) in omega (arith, is)
reaches_smaller bases ordered (suc n) c d e = elim (eqb_tells c d) [
  | inl h ↦ omega (arith, h.1)
  | inr h ↦ go (λ b e'. reaches_smaller bases ordered n b d e') (base_of bases c) refl
      (ap (λ x. x || option_map_or (λ b. reaches bases n b d) (base_of bases c) false) (sym h.0) ∙ e)
]
  where
    go : ((b : ℕ) → reaches bases n b d ≡ true → d ≤ b) → (o : Option ℕ) → base_of bases c ≡ o
        → (false || option_map_or (λ b. reaches bases n b d) o false) ≡ true → d ≤ c
    go f None is e = absurd (false≢true e)
    go f (Some b) is e = let l = ordered c b is in let m = f b e in omega arith

-- a member that absorbs: int, or a class
abbrev IsAbsorber : Tree → Type 0
IsAbsorber Int = Unit {0}
IsAbsorber (Class c) = Unit {0}
IsAbsorber _ = ⊥

absorber : (bases : Bases) (n m : Tree) → absorbs bases n m ≡ true → IsAbsorber n
absorber bases Int m e = tt
absorber bases (Class d) m e = tt
absorber bases _ m e = absurd (false≢true e)

module _ (bases : Bases) (ordered : AreSmaller bases) where
  lighter : (n m : Tree) → absorbs bases n m ≡ true → weight n < weight m
  lighter Int Bool e = omega arith
  lighter (Class d) (Class c) e =
      let h = and_parts (not (c == d)) (reaches bases c c d) e in
      let l = reaches_smaller bases ordered c c d h.1 in
      let n : (c ≡ d → ⊥) = λ f. grind (arith, nat_tests, h.0, f) in
      omega (arith, n)
  lighter _ _ e = absurd (false≢true e)

  below_absorber : (n m : Tree) → absorbs bases n m ≡ true → Below bases m n
  below_absorber Int Bool e = bool_int
  below_absorber (Class d) (Class c) e = reaches_below bases c c d (and_parts (not (c == d)) (reaches bases c c d) e).1
  below_absorber _ _ e = absurd (false≢true e)

-- ---- members

-- a member of a list
abbrev IsIn : Tree → List Tree → Type 0
IsIn m [] = ⊥
IsIn m (n ∷ ns) = (m ≡ n) ⊎ IsIn m ns

record Absorbing (bases : Bases) (m : Tree) (ns : List Tree) : Type 0 where
  by : Tree
  among : IsIn by ns
  absorbs : absorbs bases by m ≡ true

absorbing : (bases : Bases) (m : Tree) (ns : List Tree) → list_any (λ n. absorbs bases n m) ns ≡ true
    → Absorbing bases m ns
absorbing bases m [] e = absurd (false≢true e)
absorbing bases m (n ∷ ns) e = go (λ e. absorbing bases m ns e) (absorbs bases n m) refl e
  where
    go : (list_any (λ n. absorbs bases n m) ns ≡ true → Absorbing bases m ns) → (x : Test) → absorbs bases n m ≡ x
        → (x || list_any (λ n. absorbs bases n m) ns) ≡ true → Absorbing bases m (n ∷ ns)
    go others true is e = record { by = n; among = inl refl; absorbs = is }
    go others false is e = let r = others e in record { by = r.by; among = inr r.among; absorbs = r.absorbs }

-- a part of a type that is no union
abbrev IsLeaf : Tree → Tree → Type 0
IsLeaf m (Union a b) = IsLeaf m a ⊎ IsLeaf m b
IsLeaf m t = m ≡ t

leaf_itself : (n : Tree) → IsAbsorber n → IsLeaf n n
leaf_itself Int a = refl
leaf_itself (Class c) a = refl
leaf_itself _ a = absurd a

member_leaf : (n s : Tree) → IsAbsorber n → IsIn n (members s) → IsLeaf n s
member_leaf n (Union a b) k i = elim i [
  | inl e ↦ inl (subst (λ x. IsLeaf n x) e (leaf_itself n k))
  | inr r ↦
      inr (member_leaf n b k r)
]
member_leaf n Never k i = absurd i
member_leaf n Any k i = elim i [ inl e ↦ e | inr r ↦ absurd r ]
member_leaf n Object k i = elim i [ inl e ↦ e | inr r ↦ absurd r ]
member_leaf n Int k i = elim i [ inl e ↦ e | inr r ↦ absurd r ]
member_leaf n Bool k i = elim i [ inl e ↦ e | inr r ↦ absurd r ]
member_leaf n Str k i = elim i [ inl e ↦ e | inr r ↦ absurd r ]
member_leaf n NoneType k i = elim i [ inl e ↦ e | inr r ↦ absurd r ]
member_leaf n (Class c) k i = elim i [ inl e ↦ e | inr r ↦ absurd r ]
member_leaf n (ListOf t) k i = elim i [ inl e ↦ e | inr r ↦ absurd r ]
member_leaf n (DictOf s t) k i = elim i [ inl e ↦ e | inr r ↦ absurd r ]
member_leaf n (TupleOf ts) k i = elim i [ inl e ↦ e | inr r ↦ absurd r ]

module _ (bases : Bases) (k : HeapTyping) where
  abbrev Has : Tree → Value → Type 0
  Has t v = HasType bases k t v

  abbrev Some_has : List Tree → Value → Type 0
  Some_has ms v = HasSome bases k ms v

  record HasLeaf (t : Tree) (v : Value) : Type 0 where
    part : Tree
    leaf : IsLeaf part t
    has : Has part v

  leaf_of : (t : Tree) (v : Value) → Has t v → HasLeaf t v
  leaf_of (Union a b) v h = elim h [
    | inl x ↦ let l = leaf_of a v x in record { part = l.part; leaf = inl l.leaf; has = l.has }
    | inr y ↦ let l = leaf_of b v y in record { part = l.part; leaf = inr l.leaf; has = l.has }
  ]
  leaf_of Any v h = record { part = Any; leaf = refl; has = h }
  leaf_of Object v h = record { part = Object; leaf = refl; has = h }
  leaf_of Never v h = record { part = Never; leaf = refl; has = h }
  leaf_of Int v h = record { part = Int; leaf = refl; has = h }
  leaf_of Bool v h = record { part = Bool; leaf = refl; has = h }
  leaf_of Str v h = record { part = Str; leaf = refl; has = h }
  leaf_of NoneType v h = record { part = NoneType; leaf = refl; has = h }
  leaf_of (Class c) v h = record { part = Class c; leaf = refl; has = h }
  leaf_of (ListOf t) v h = record { part = ListOf t; leaf = refl; has = h }
  leaf_of (DictOf s t) v h = record { part = DictOf s t; leaf = refl; has = h }
  leaf_of (TupleOf ts) v h = record { part = TupleOf ts; leaf = refl; has = h }

  record HasMember (ms : List Tree) (v : Value) : Type 0 where
    part : Tree
    among : IsIn part ms
    has : Has part v

  member_of : (ms : List Tree) (v : Value) → Some_has ms v → HasMember ms v
  member_of [] v h = absurd h
  member_of (m ∷ ms) v h = elim h [
    | inl x ↦ record { part = m; among = inl refl; has = x }
    | inr y ↦ let r = member_of ms v y in record { part = r.part; among = inr r.among; has = r.has }
  ]

  kept : (p : Tree → Test) (n : Tree) (v : Value) → p n ≡ true → Has n v → (ms : List Tree) → IsIn n ms
      → Some_has (filter p ms) v
  kept p n v e h [] i = absurd i
  kept p n v e h (m ∷ ms) i = elim i [
    | inl is ↦ first (p m) (ap p (sym is) ∙ e) (subst (λ x. Has x v) is h)
    | inr r ↦ rest (p m) (kept p n v e h ms r)
  ]
    where
      first : (x : Test) → x ≡ true → Has m v → Some_has (if x then m ∷ filter p ms else filter p ms) v
      first true e h = inl h
      first false e h = absurd (false≢true e)

      rest : (x : Test) → Some_has (filter p ms) v → Some_has (if x then m ∷ filter p ms else filter p ms) v
      rest true h = inr h
      rest false h = h

  -- ---- one member put among others

  module _ (m : Tree) (one : Tree → Option Tree) (v : Value) (makes : (n f : Tree) → member_rank m ≡ member_rank n
      → one n ≡ Some f → Has m v ⊎ Has n v → Has f v) where
    put_made : (n : Tree) (ns l : List Tree) → member_rank m ≡ member_rank n → (o : Option Tree) → one n ≡ o
        → option_map (λ f. f ∷ ns) o ≡ Some l → Has m v ⊎ Some_has (n ∷ ns) v → Some_has l v
    put_made n ns l r None q e h = absurd (none-some _ e)
    put_made n ns l r (Some f) q e h = subst (λ x. Some_has x v) (same_Some _ _ e) (elim h [
      | inl a ↦ inl (makes n f r q (inl a))
      | inr b ↦ elim b [ inl a ↦ inl (makes n f r q (inr a)) | inr c ↦ inr c ]
    ])

    put_rest : (n : Tree) (ns l : List Tree) → ((q : List Tree) → put_among m one ns ≡ Some q → Has m v ⊎ Some_has ns v
        → Some_has q v) → (o : Option (List Tree)) → put_among m one ns ≡ o → option_map (λ q. n ∷ q) o ≡ Some l
        → Has m v ⊎ Some_has (n ∷ ns) v → Some_has l v
    put_rest n ns l g None q e h = absurd (none-some _ e)
    put_rest n ns l g (Some r) q e h = subst (λ x. Some_has x v) (same_Some _ _ e) (elim h [
      | inl a ↦ inr (g r q (inl a))
      | inr b ↦ elim b [ inl a ↦ inl a | inr c ↦ inr (g r q (inr c)) ]
    ])

    put_behind : (n : Tree) (ns l : List Tree) → is_before m n ≡ false
        → ((q : List Tree) → put_among m one ns ≡ Some q → Has m v ⊎ Some_has ns v → Some_has q v) → (x : Test)
        → is_before n m ≡ x → (if x then option_map (λ q. n ∷ q) (put_among m one ns) else option_map (λ f. f ∷ ns)
        (one n)) ≡ Some l → Has m v ⊎ Some_has (n ∷ ns) v → Some_has l v
    put_behind n ns l h g true b e = put_rest n ns l g (put_among m one ns) refl e
    put_behind n ns l h g false b e = put_made n ns l (same_rank m n h b) (one n) refl e

    put_before : (n : Tree) (ns l : List Tree) → ((q : List Tree) → put_among m one ns ≡ Some q → Has m v
        ⊎ Some_has ns v → Some_has q v) → (x : Test) → is_before m n ≡ x
        → (if x then Some (m ∷ n ∷ ns) else (if is_before n m then option_map (λ q. n ∷ q) (put_among m one ns)
        else option_map (λ f. f ∷ ns) (one n))) ≡ Some l → Has m v ⊎ Some_has (n ∷ ns) v → Some_has l v
    put_before n ns l g true b e h = subst (λ x. Some_has x v) (same_Some _ _ e) h
    put_before n ns l g false b e h = put_behind n ns l b g (is_before n m) refl e h

    put_holds : (ms l : List Tree) → put_among m one ms ≡ Some l → Has m v ⊎ Some_has ms v → Some_has l v
    put_holds [] l e h = subst (λ x. Some_has x v) (same_Some _ _ e) h
    put_holds (n ∷ ns) l e h = put_before n ns l (λ q f g. put_holds ns q f g) (is_before m n) refl e h

  -- a member put among others, but for one that the other type absorbs
  tested_keeps : (x : Test) (ms l : List Tree) (p : Option (List Tree)) (v : Value)
      → (p ≡ Some l → Some_has ms v → Some_has l v) → (if x then Some ms else p) ≡ Some l → Some_has ms v → Some_has l v
  tested_keeps true ms l p v g e h = subst (λ x. Some_has x v) (same_Some _ _ e) h
  tested_keeps false ms l p v g e h = g e h

  tested_adds : (x : Test) (ms l : List Tree) (p : Option (List Tree)) (v : Value) → x ≡ false
      → (p ≡ Some l → Some_has l v) → (if x then Some ms else p) ≡ Some l → Some_has l v
  tested_adds true ms l p v f g e = absurd (false≢true (sym f))
  tested_adds false ms l p v f g e = g e

  record BothSome (f : List Tree → Option (List Tree)) (o : Option (List Tree)) (l : List Tree) : Type 0 where
    first : List Tree
    is : o ≡ Some first
    then_is : f first ≡ Some l

  both_some : (f : List Tree → Option (List Tree)) (o : Option (List Tree)) (l : List Tree)
      → option_and_then f o ≡ Some l → BothSome f o l
  both_some f None l e = absurd (none-some _ e)
  both_some f (Some q) l e = record { first = q; is = refl; then_is = e }

  equal_makes : (m : Tree) (v : Value) (n f : Tree) → equal_one m n ≡ Some f → Has m v ⊎ Has n v → Has f v
  equal_makes m v n f e h = go (same_tree m n) refl e
    where
      go : (x : Test) → same_tree m n ≡ x → (if x then Some m else None) ≡ Some f → Has f v
      go true is e = subst (λ t. Has t v) (same_Some _ _ e)
          (elim h [ inl a ↦ a | inr b ↦ subst (λ t. Has t v) (sym (same_types m n is)) b ])
      go false is e = absurd (none-some _ e)

  tuple_makes : (bases' : Bases) (ss : Trees) → ((ts us : Trees) → join_each bases' ss ts ≡ Some us → (vs : Values)
      → HaveTypes bases k ss vs ⊎ HaveTypes bases k ts vs → HaveTypes bases k us vs) → (v : Value) (n f : Tree)
      → member_rank (TupleOf ss) ≡ member_rank n → one_of bases' (TupleOf ss) n ≡ Some f → Has (TupleOf ss) v ⊎ Has n v
      → Has f v
  tuple_makes bases' ss each v (TupleOf ts) f r e h = go (join_each bases' ss ts) refl e v h
    where
      go : (o : Option Trees) → join_each bases' ss ts ≡ o → option_map TupleOf o ≡ Some f → (v : Value)
          → Has (TupleOf ss) v ⊎ Has (TupleOf ts) v → Has f v
      go None is e v h = absurd (none-some _ e)
      go (Some us) is e (tuple_of vs) h = subst (λ t. Has t (tuple_of vs)) (same_Some _ _ e) (each ts us is vs h)
      go (Some us) is e _ h = elim h [ inl a ↦ absurd a | inr b ↦ absurd b ]
  tuple_makes bases' ss each v _ f r e h = absurd (grind (arith, ap (λ p. p.0) r))

-- a join within the limit of nodes is the join
pub within_is : (o : Option Tree) (u : Tree) → within_limit o ≡ Some u → o ≡ Some u
within_is None u e = absurd (none-some _ e)
within_is (Some t) u e = go (nat_le (nodes t) node_limit) e
  where
    go : (x : Test) → (if x then Some t else None) ≡ Some u → Some t ≡ Some u
    go true e = e
    go false e = absurd (none-some _ e)

-- ---- the members of one type put among those of another

module _ (bases : Bases) (ordered : AreSmaller bases) (k : HeapTyping) where
  -- values of the members before are values of the list, and so are those of each part of the type that nothing absorbs
  abbrev Keeps : (other s : Tree) → List Tree → List Tree → Type 0
  Keeps other s ms l = (v : Value) → HasSome bases k ms v → HasSome bases k l v

  abbrev Adds : (other s : Tree) → List Tree → Type 0
  Adds other s l = (n : Tree) → IsLeaf n s → is_absorbed bases n other ≡ false → (v : Value) → HasType bases k n v
      → HasSome bases k l v

  module _ (s t : Tree) (l : List Tree) (v : Value) (keeps : HasSome bases k (unabsorbed_members bases t s) v
      → HasSome bases k l v) (adds : (n : Tree) → IsLeaf n s → is_absorbed bases n t ≡ false → HasType bases k n v
      → HasSome bases k l v) where
    -- where a member was left out, one of less weight on the other side has its values
    abbrev Chased : ℕ → Type 0
    Chased w = ((n : Tree) → weight n < w → IsLeaf n s → HasType bases k n v → HasSome bases k l v)
        × ((n : Tree) → weight n < w → IsIn n (members t) → HasType bases k n v → HasSome bases k l v)

    chase_left : (w : ℕ) → Chased w → (n : Tree) → weight n < suc w → IsLeaf n s → HasType bases k n v → (x : Test)
        → is_absorbed bases n t ≡ x → HasSome bases k l v
    chase_left w c n small leaf h false e = adds n leaf e h
    chase_left w c n small leaf h true e =
        let a = absorbing bases n (members t) e in
        let less = lighter bases ordered a.by n a.absorbs in
        c.1 a.by (omega arith) a.among (of_below k (below_absorber bases ordered a.by n a.absorbs) v h)

    chase_right : (w : ℕ) → Chased w → (n : Tree) → weight n < suc w → IsIn n (members t) → HasType bases k n v
        → (x : Test) → is_absorbed bases n s ≡ x → HasSome bases k l v
    chase_right w c n small among h false e = keeps (kept bases k (λ m. not (is_absorbed bases m s)) n v (ap not e) h
        (members t) among)
    chase_right w c n small among h true e =
        let a = absorbing bases n (members s) e in
        let less = lighter bases ordered a.by n a.absorbs in
        c.0 a.by (omega arith) (member_leaf a.by s (absorber bases a.by n a.absorbs) a.among)
        (of_below k (below_absorber bases ordered a.by n a.absorbs) v h)

    chase : (w : ℕ) → Chased w
    chase zero = (λ n less leaf h. absurd (omega arith), λ n less among h. absurd (omega arith))
    chase (suc w) = (
      λ n less leaf h. chase_left w (chase w) n less leaf h (is_absorbed bases n t) refl,
      λ n less among h. chase_right w (chase w) n less among h (is_absorbed bases n s) refl,
    )

    members_hold : HasType bases k s v ⊎ HasType bases k t v → HasSome bases k l v
    members_hold (inl h) = let a = leaf_of bases k s v h in (chase (suc (weight a.part))).0 a.part (omega arith) a.leaf
        a.has
    members_hold (inr h) = let a = member_of bases k (members t) v (to_members bases k t v h) in
        (chase (suc (weight a.part))).1 a.part (omega arith) a.among a.has

  rule_holds : (s t u : Tree) (o : Option Tree) (v : Value) → by_rule s t o ≡ Some u
      → (o ≡ Some u → HasType bases k s v ⊎ HasType bases k t v → HasType bases k u v) → HasType bases k s v
      ⊎ HasType bases k t v → HasType bases k u v
  rule_holds Never t u o v e g h = elim h [
    | inl a ↦ absurd a
    | inr b ↦ subst (λ x. HasType bases k x v)
        (same_Some _ _ e) b
  ]
  rule_holds s Never u o v e g h = elim h [
    | inl a ↦ subst (λ x. HasType bases k x v) (same_Some _ _ e) a
    | inr b ↦
        absurd b
  ]
  rule_holds Any t u o v e g h = subst (λ x. HasType bases k x v) (same_Some _ _ e) tt
  rule_holds s Any u o v e g h = subst (λ x. HasType bases k x v) (same_Some _ _ e) tt
  rule_holds Object t u o v e g h = subst (λ x. HasType bases k x v) (same_Some _ _ e) tt
  rule_holds s Object u o v e g h = subst (λ x. HasType bases k x v) (same_Some _ _ e) tt
  rule_holds s t u o v e g h = g e h

  regular_holds : (s t u : Tree) → ((l : List Tree) → put_all bases t s (unabsorbed_members bases t s) ≡ Some l
      → Keeps t s (unabsorbed_members bases t s) l) → ((l : List Tree)
      → put_all bases t s (unabsorbed_members bases t s) ≡ Some l → Adds t s l) → join_of bases s t ≡ Some u
      → (v : Value) → HasType bases k s v ⊎ HasType bases k t v → HasType bases k u v
  regular_holds s t u keeps adds e v h = go (same_tree s t) refl e
    where
      by_members : (o : Option (List Tree)) → put_all bases t s (unabsorbed_members bases t s) ≡ o
          → option_map union o ≡ Some u → HasType bases k s v ⊎ HasType bases k t v → HasType bases k u v
      by_members None is e h = absurd (none-some _ e)
      by_members (Some l) is e h = subst (λ x. HasType bases k x v) (same_Some _ _ e)
          (of_members bases k l v (members_hold s t l v (keeps l is v) (λ n leaf f. adds l is n leaf f v) h))

      go : (x : Test) → same_tree s t ≡ x → (if x then Some s else by_rule s t
          (option_map union (put_all bases t s (unabsorbed_members bases t s)))) ≡ Some u → HasType bases k u v
      go true is e = subst (λ x. HasType bases k x v) (same_Some _ _ e)
          (elim h [ inl a ↦ a | inr b ↦ subst (λ x. HasType bases k x v) (sym (same_types s t is)) b ])
      go false is e = rule_holds s t u (option_map union (put_all bases t s (unabsorbed_members bases t s))) v e
          (by_members (put_all bases t s (unabsorbed_members bases t s)) refl) h

  record BothParts (o : Option Tree) (p : Option Trees) (us : Trees) : Type 0 where
    first : Tree
    rest : Trees
    is_first : o ≡ Some first
    is_rest : p ≡ Some rest
    is : more first rest ≡ us

  both_are : (o : Option Tree) (p : Option Trees) (us : Trees) → both_parts o p ≡ Some us → BothParts o p us
  both_are None p us e = absurd (none-some _ e)
  both_are (Some t) None us e = absurd (none-some _ e)
  both_are (Some t) (Some ts) us e = record {
    first = t;
    rest = ts;
    is_first = refl;
    is_rest = refl;
    is =
        same_Some _ _ e;
  }

  mutual
    put_all_keeps : (other s : Tree) (ms l : List Tree) → put_all bases other s ms ≡ Some l → Keeps other s ms l
    put_all_keeps other Never ms l e v h = subst (λ x. HasSome bases k x v) (same_Some _ _ e) h
    put_all_keeps other (Union a b) ms l e v h =
        let w = both_some bases k (λ l. put_all bases other a l) (put_all bases other b ms) l e in
        put_all_keeps other a w.first l w.then_is v (put_all_keeps other b ms w.first w.is v h)
    put_all_keeps other (TupleOf ss) ms l e v h =
        tested_keeps bases k (is_absorbed bases (TupleOf ss) other) ms l
        (put_among (TupleOf ss) (one_of bases (TupleOf ss)) ms) v
        (λ f g. put_holds bases k (TupleOf ss) (one_of bases (TupleOf ss)) v
        (tuple_makes bases k bases ss (λ ts us q. each_holds ss ts us q) v) ms l f (inr g))
        e h
    put_all_keeps other m ms l e v h =
        tested_keeps bases k (is_absorbed bases m other) ms l (put_among m (equal_one m) ms) v
        (λ f g. put_holds bases k m (equal_one m) v (λ n f r. equal_makes bases k m v n f) ms l f (inr g))
        e h

    put_all_adds : (other s : Tree) (ms l : List Tree) → put_all bases other s ms ≡ Some l → Adds other s l
    put_all_adds other Never ms l e n leaf f v h = absurd (subst (λ x. HasType bases k x v) leaf h)
    put_all_adds other (Union a b) ms l e n leaf f v h =
        let w = both_some bases k (λ l. put_all bases other a l) (put_all bases other b ms) l e in
        elim leaf [
          | inl x ↦ put_all_adds other a w.first l w.then_is n x f v h
          | inr y ↦ put_all_keeps other a w.first l w.then_is v (put_all_adds other b ms w.first w.is n y f v h)
        ]
    put_all_adds other (TupleOf ss) ms l e n leaf f v h =
        tested_adds bases k (is_absorbed bases (TupleOf ss) other) ms l
        (put_among (TupleOf ss) (one_of bases (TupleOf ss)) ms) v (ap (λ x. is_absorbed bases x other) (sym leaf)
        ∙ f)
        (λ g. put_holds bases k (TupleOf ss) (one_of bases (TupleOf ss)) v
        (tuple_makes bases k bases ss (λ ts us q. each_holds ss ts us q) v) ms l g
        (inl (subst (λ x. HasType bases k x v) leaf h)))
        e
    put_all_adds other m ms l e n leaf f v h =
        tested_adds bases k (is_absorbed bases m other) ms l (put_among m (equal_one m) ms) v
        (ap (λ x. is_absorbed bases x other) (sym leaf) ∙ f)
        (λ g. put_holds bases k m (equal_one m) v (λ n f r. equal_makes bases k m v n f) ms l g
        (inl (subst (λ x. HasType bases k x v) leaf h)))
        e

    each_holds : (ss ts us : Trees) → join_each bases ss ts ≡ Some us → (vs : Values) → HaveTypes bases k ss vs
        ⊎ HaveTypes bases k ts vs → HaveTypes bases k us vs
    each_holds end end us e vs h = subst (λ x. HaveTypes bases k x vs) (same_Some _ _ e)
        (elim h [ inl a ↦ a | inr b ↦ b ])
    each_holds end (more t ts) us e vs h = absurd (none-some _ e)
    each_holds (more s ss) end us e vs h = absurd (none-some _ e)
    each_holds (more s ss) (more t ts) us e no_values h = elim h [ inl a ↦ absurd a | inr b ↦ absurd b ]
    each_holds (more s ss) (more t ts) us e (more_values v vs) h =
        let w = both_are (join_of bases s t) (join_each bases ss ts) us e in
        subst (λ x. HaveTypes bases k x (more_values v vs)) w.is (
          regular_holds s t w.first (λ l f. put_all_keeps t s (unabsorbed_members bases t s) l f)
              (λ l f. put_all_adds t s (unabsorbed_members bases t s) l f) w.is_first v
              (elim h [ inl a ↦ inl a.0 | inr b ↦ inr b.0 ]),
          each_holds ss ts w.rest w.is_rest vs (elim h [ inl a ↦ inl a.1 | inr b ↦ inr b.1 ]),
        )

  -- a value of either type is one of their join
  pub joined_holds : (s t u : Tree) → join_of bases s t ≡ Some u → (v : Value) → HasType bases k s v
      ⊎ HasType bases k t v → HasType bases k u v
  joined_holds s t u e v h = regular_holds s t u (λ l f. put_all_keeps t s (unabsorbed_members bases t s) l f)
      (λ l f. put_all_adds t s (unabsorbed_members bases t s) l f) e v h

  pub join_holds : (s t u : Tree) → join bases s t ≡ Some u → (v : Value) → HasType bases k s v ⊎ HasType bases k t v
      → HasType bases k u v
  join_holds s t u e v h = joined_holds s t u (within_is (join_of bases s t) u e) v h

  -- where there is no join, another type takes its place
  pub join_or_holds : (s t d : Tree) (v : Value) → HasType bases k s v ⊎ HasType bases k t v → HasType bases k d v
      → HasType bases k (unwrap_or (join bases s t) d) v
  join_or_holds s t d v h always = go (join bases s t) refl
    where
      go : (o : Option Tree) → join bases s t ≡ o → HasType bases k (unwrap_or o d) v
      go None e = always
      go (Some u) e = join_holds s t u e v h

  pub either_holds : (s t : Tree) (v : Value) → HasType bases k s v ⊎ HasType bases k t v
      → HasType bases k (join_or_object bases s t) v
  either_holds s t v h = join_or_holds s t Object v h tt

  -- several types joined from the left
  pub onto_holds : (s : Tree) (ts : List Tree) (v : Value) → HasType bases k s v ⊎ HasSome bases k ts v
      → HasType bases k (join_onto bases s ts) v
  onto_holds s [] v h = elim h [ inl a ↦ a | inr b ↦ absurd b ]
  onto_holds s (t ∷ ts) v h = onto_holds (join_or_object bases s t) ts v (elim h [
    | inl a ↦ inl (either_holds s t v (inl a))
    | inr b ↦ elim b [ inl c ↦ inl (either_holds s t v (inr c)) | inr d ↦ inr d ]
  ])

  pub all_hold : (ts : List Tree) (v : Value) → HasSome bases k ts v → HasType bases k (join_all bases ts) v
  all_hold ts v h = onto_holds Never ts v (inr h)

  -- a value of a type that is among several
  pub among_has : (ts : List Tree) (i : ℕ) (t : Tree) (v : Value) → slice_get ts i ≡ Some t → HasType bases k t v
      → HasSome bases k ts v
  among_has [] i t v e h = absurd (none-some _ e)
  among_has (s ∷ ts) zero t v e h = inl (subst (λ x. HasType bases k x v) (sym (same_Some _ _ e)) h)
  among_has (s ∷ ts) (suc i) t v e h = inr (among_has ts i t v e h)
