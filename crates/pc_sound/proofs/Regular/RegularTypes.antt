-- Joins, tests and environments keep that each dict in a type has int or str as its key, and that each class is as
-- asked.
use Rattle.std.proofs.Common.{◌≡◌, ℕ, List, [], ◌∷◌, filter, refl, sym, subst, inl, inr}
use Rattle.std.specs.Prelude.{Bool as Test, true, false, not, if◌then◌else◌, Option, Some, None, unwrap_or, filter_map}
use Rattle.std.specs.List.{cons_option}
use Rattle.std.specs.Option.{option_map, option_and_then}
use Rattle.std.proofs.lemmas.Option.{none-some, same_Some}
use Rattle.pc_tree.specs.Tree.{Expr, name, negation, is_none, is_not_none, conjunction, disjunction, call}
use Rattle.pc_scope.specs.declared.resolution.Builtin.TheVariants as builtin
use Rattle.pc_scope.specs.declared.resolution.NameMeaning.{NameMeaning}
use Rattle.pc_scope.specs.declared.resolution.NameMeaning.TheVariants as meaning
use Rattle.pc_scope.specs.Expressions.{is_instance_test}
use Rattle.pc_types.specs.Tree.{Tree, Trees, Any, Object, Never, NoneType, ListOf, TupleOf, Union, end, more}
use Rattle.pc_types.specs.Below.{Bases}
use Rattle.pc_types.specs.Shape.{members, ahead, union}
use Rattle.pc_types.specs.Join.{same_tree, absorbs, is_absorbed, unabsorbed_members, is_before, put_among, parts_of}
use Rattle.pc_types.specs.Join.{equal_one, both_parts, by_rule, put_all, join_each, one_of, join_of, join}
use Rattle.pc_types.proofs.Together.{equal_is}
use Rattle.pc_flow.specs.Environment.{Env, current, declared_type, assign, join_or_object, join_onto, join_all}
use Rattle.pc_flow.specs.Environment.{join_env}
use Rattle.pc_flow.specs.Narrowing.{Tested, for_none, for_type, for_list, is_at_or_below, member_passing, member_failing}
use Rattle.pc_flow.specs.Narrowing.{tested_as, narrow_current, narrow_local, test_named, test_of, test_of_argument}
use Rattle.pc_flow.specs.Narrowing.{local_of_argument, first_argument, second_argument, local_named, narrow_instance}
use Rattle.pc_flow.specs.Narrowing.{narrow}
use Rattle.pc_sound.proofs.Regular.RegularParts.{Asked, ClassAsked, IsRegular, AreRegular, NamesAsked, regular_members}
use Rattle.pc_sound.proofs.Values.UnionMembers.{AllOf}
use Rattle.pc_sound.proofs.Values.Joins.{within_is}
use Rattle.pc_sound.proofs.Steps.JoinedLocals.{met}
use Rattle.pc_sound.proofs.Steps.Frames.{assigned_cases}

module _ (asked : Asked) where
  -- ---- members

  ahead_regular : (m t : Tree) → IsRegular asked m → IsRegular asked t → IsRegular asked (ahead m t)
  ahead_regular m Never h k = h
  ahead_regular m _ h k = (h, k)

  pub union_regular : (ms : List Tree) → AllOf (IsRegular asked) ms → IsRegular asked (union ms)
  union_regular [] h = tt
  union_regular (m ∷ ms) h = ahead_regular m (union ms) h.0 (union_regular ms h.1)

  abbrev pub EachRegular : List Tree → Type 0
  EachRegular ms = AllOf (IsRegular asked) ms

  filter_regular : (p : Tree → Test) (ms : List Tree) → EachRegular ms → EachRegular (filter p ms)
  filter_regular p [] h = tt
  filter_regular p (m ∷ ms) h = go (p m) (filter_regular p ms h.1)
    where
      go : (x : Test) → EachRegular (filter p ms) → EachRegular (if x then m ∷ filter p ms else filter p ms)
      go true k = (h.0, k)
      go false k = k

  -- ---- joins

  module _ (m : Tree) (one : Tree → Option Tree) (regular : IsRegular asked m) (makes : (n f : Tree) → IsRegular asked n
      → one n ≡ Some f → IsRegular asked f) where
    made_regular : (n : Tree) (ns l : List Tree) → EachRegular (n ∷ ns) → (o : Option Tree) → one n ≡ o
        → option_map (λ f. f ∷ ns) o ≡ Some l → EachRegular l
    made_regular n ns l h None q e = absurd (none-some _ e)
    made_regular n ns l h (Some f) q e = subst EachRegular (same_Some _ _ e) (makes n f h.0 q, h.1)

    rest_regular : (n : Tree) (ns l : List Tree) → EachRegular (n ∷ ns) → (o : Option (List Tree))
        → ((q : List Tree) → o ≡ Some q → EachRegular q) → option_map (λ q. n ∷ q) o ≡ Some l → EachRegular l
    rest_regular n ns l h None g e = absurd (none-some _ e)
    rest_regular n ns l h (Some q) g e = subst EachRegular (same_Some _ _ e) (h.0, g q refl)

    put_regular : (ms l : List Tree) → EachRegular ms → put_among m one ms ≡ Some l → EachRegular l
    put_regular [] l h e = subst EachRegular (same_Some _ _ e) (regular, tt)
    put_regular (n ∷ ns) l h e = go (λ q f. put_regular ns q h.1 f) (is_before m n) (is_before n m) e
      where
        go : ((q : List Tree) → put_among m one ns ≡ Some q → EachRegular q) → (x y : Test)
            → (if x then Some (m ∷ n ∷ ns) else (if y then option_map (λ q. n ∷ q) (put_among m one ns) else option_map
            (λ f. f ∷ ns) (one n))) ≡ Some l → EachRegular l
        go g true y e = subst EachRegular (same_Some _ _ e) (regular, h)
        go g false true e = rest_regular n ns l h (put_among m one ns) g e
        go g false false e = made_regular n ns l h (one n) refl e

  tested_regular : (x : Test) (ms l : List Tree) (p : Option (List Tree)) → EachRegular ms
      → (p ≡ Some l → EachRegular l) → (if x then Some ms else p) ≡ Some l → EachRegular l
  tested_regular true ms l p h g e = subst EachRegular (same_Some _ _ e) h
  tested_regular false ms l p h g e = g e

  bound_regular : (f : List Tree → Option (List Tree)) (o : Option (List Tree)) (l : List Tree)
      → ((q : List Tree) → o ≡ Some q → EachRegular q) → ((q : List Tree) → EachRegular q → f q ≡ Some l
      → EachRegular l) → option_and_then f o ≡ Some l → EachRegular l
  bound_regular f None l g h e = absurd (none-some _ e)
  bound_regular f (Some q) l g h e = h q (g q refl) e

  mapped_regular : (o : Option (List Tree)) (u : Tree) → ((l : List Tree) → o ≡ Some l → EachRegular l)
      → option_map union o ≡ Some u → IsRegular asked u
  mapped_regular None u h e = absurd (none-some _ e)
  mapped_regular (Some l) u h e = subst (IsRegular asked) (same_Some _ _ e) (union_regular l (h l refl))

  rule_regular : (s t u : Tree) (o : Option Tree) → IsRegular asked s → IsRegular asked t
      → (o ≡ Some u → IsRegular asked u) → by_rule s t o ≡ Some u → IsRegular asked u
  rule_regular Never t u o h k g e = subst (IsRegular asked) (same_Some _ _ e) k
  rule_regular s Never u o h k g e = subst (IsRegular asked) (same_Some _ _ e) h
  rule_regular Any t u o h k g e = subst (IsRegular asked) (same_Some _ _ e) tt
  rule_regular s Any u o h k g e = subst (IsRegular asked) (same_Some _ _ e) tt
  rule_regular Object t u o h k g e = subst (IsRegular asked) (same_Some _ _ e) tt
  rule_regular s Object u o h k g e = subst (IsRegular asked) (same_Some _ _ e) tt
  rule_regular s t u o h k g e = g e

  whole_regular : (s t u : Tree) (o : Option (List Tree)) (x : Test) → IsRegular asked s → IsRegular asked t
      → ((l : List Tree) → o ≡ Some l → EachRegular l) → (if x then Some s else by_rule s t (option_map union o))
      ≡ Some u → IsRegular asked u
  whole_regular s t u o true h k g e = subst (IsRegular asked) (same_Some _ _ e) h
  whole_regular s t u o false h k g e = rule_regular s t u (option_map union o) h k (mapped_regular o u g) e

  both_regular : (o : Option Tree) (p : Option Trees) (us : Trees) → ((u : Tree) → o ≡ Some u → IsRegular asked u)
      → ((vs : Trees) → p ≡ Some vs → AreRegular asked vs) → both_parts o p ≡ Some us → AreRegular asked us
  both_regular None p us g h e = absurd (none-some _ e)
  both_regular (Some t) None us g h e = absurd (none-some _ e)
  both_regular (Some t) (Some ts) us g h e = subst (AreRegular asked) (same_Some _ _ e) (g t refl, h ts refl)

  parts_regular : (n : Tree) → IsRegular asked n → AreRegular asked (parts_of n)
  parts_regular (TupleOf ts) h = h
  parts_regular _ h = tt

  tuple_regular : (bases : Bases) (ss : Trees) → ((ts us : Trees) → AreRegular asked ts
      → join_each bases ss ts ≡ Some us → AreRegular asked us) → (n f : Tree) → IsRegular asked n
      → one_of bases (TupleOf ss) n ≡ Some f → IsRegular asked f
  tuple_regular bases ss each n f h e = go (join_each bases ss (parts_of n)) refl e
    where
      go : (o : Option Trees) → join_each bases ss (parts_of n) ≡ o → option_map TupleOf o ≡ Some f → IsRegular asked f
      go None is e = absurd (none-some _ e)
      go (Some us) is e = subst (IsRegular asked) (same_Some _ _ e) (each (parts_of n) us (parts_regular n h) is)

  mutual
    put_all_regular : (bases : Bases) (other s : Tree) (ms l : List Tree) → IsRegular asked s → EachRegular ms
        → put_all bases other s ms ≡ Some l → EachRegular l
    put_all_regular bases other Never ms l k h e = subst EachRegular (same_Some _ _ e) h
    put_all_regular bases other (Union a b) ms l k h e =
        bound_regular (λ l. put_all bases other a l) (put_all bases other b ms) l
        (λ q f. put_all_regular bases other b ms q k.1 h f) (λ q g f. put_all_regular bases other a q l k.0 g f) e
    put_all_regular bases other (TupleOf ss) ms l k h e =
        tested_regular (is_absorbed bases (TupleOf ss) other) ms l
        (put_among (TupleOf ss) (one_of bases (TupleOf ss)) ms) h
        (put_regular (TupleOf ss) (one_of bases (TupleOf ss)) k (tuple_regular bases ss
        (λ ts us g f. each_regular bases ss ts us k g f)) ms l h)
        e
    put_all_regular bases other m ms l k h e =
        tested_regular (is_absorbed bases m other) ms l (put_among m (equal_one m) ms) h
        (put_regular m (equal_one m) k (λ n f g r. subst (IsRegular asked) (sym (equal_is m n f r)) k) ms l h) e

    each_regular : (bases : Bases) (ss ts us : Trees) → AreRegular asked ss → AreRegular asked ts
        → join_each bases ss ts ≡ Some us → AreRegular asked us
    each_regular bases end end us k h e = subst (AreRegular asked) (same_Some _ _ e) tt
    each_regular bases end (more t ts) us k h e = absurd (none-some _ e)
    each_regular bases (more s ss) end us k h e = absurd (none-some _ e)
    each_regular bases (more s ss) (more t ts) us k h e =
        both_regular (join_of bases s t) (join_each bases ss ts) us
        (λ u f. whole_regular s t u (put_all bases t s (unabsorbed_members bases t s)) (same_tree s t) k.0 h.0
        (λ l g. put_all_regular bases t s (unabsorbed_members bases t s) l k.0
        (filter_regular (λ m. not (is_absorbed bases m s)) (members t) (regular_members asked t h.0)) g) f)
        (λ vs f. each_regular bases ss ts vs k.1 h.1 f)
        e

  module _ (bases : Bases) where
    pub joined_regular : (s t u : Tree) → IsRegular asked s → IsRegular asked t → join_of bases s t ≡ Some u
        → IsRegular asked u
    joined_regular s t u k h e = whole_regular s t u (put_all bases t s (unabsorbed_members bases t s)) (same_tree s t)
        k h (λ l g. put_all_regular bases t s (unabsorbed_members bases t s) l k
        (filter_regular (λ m. not (is_absorbed bases m s)) (members t) (regular_members asked t h)) g) e

    pub join_or_regular : (s t d : Tree) → IsRegular asked s → IsRegular asked t → IsRegular asked d
        → IsRegular asked (unwrap_or (join bases s t) d)
    join_or_regular s t d k h i = go (join bases s t) refl
      where
        go : (o : Option Tree) → join bases s t ≡ o → IsRegular asked (unwrap_or o d)
        go None e = i
        go (Some u) e = joined_regular s t u k h (within_is (join_of bases s t) u e)

    pub either_regular : (s t : Tree) → IsRegular asked s → IsRegular asked t
        → IsRegular asked (join_or_object bases s t)
    either_regular s t k h = join_or_regular s t Object k h tt

    pub onto_regular : (s : Tree) (ts : List Tree) → IsRegular asked s → AllOf (IsRegular asked) ts
        → IsRegular asked (join_onto bases s ts)
    onto_regular s [] k h = k
    onto_regular s (t ∷ ts) k h = onto_regular (join_or_object bases s t) ts (either_regular s t k h.0) h.1

    pub all_regular : (ts : List Tree) → AllOf (IsRegular asked) ts → IsRegular asked (join_all bases ts)
    all_regular ts h = onto_regular Never ts tt h

  -- ---- tests

  -- the type that is tested for is regular
  abbrev pub IsRegularTest : Tested → Type 0
  IsRegularTest for_none = Unit {0}
  IsRegularTest (for_type c) = IsRegular asked c
  IsRegularTest for_list = Unit {0}

  abbrev pub OptionRegular : Option Tree → Type 0
  OptionRegular None = Unit {0}
  OptionRegular (Some t) = IsRegular asked t

  module _ (bases : Bases) where
    within_regular : (c m : Tree) → IsRegular asked c → IsRegular asked m → (x y : Test)
        → OptionRegular (if x then Some m else (if y then Some c else None))
    within_regular c m k h true y = h
    within_regular c m k h false true = k
    within_regular c m k h false false = tt

    outside_regular : (m : Tree) → IsRegular asked m → (x : Test) → OptionRegular (if x then None else Some m)
    outside_regular m h true = tt
    outside_regular m h false = h

    passing_member : (test : Tested) → IsRegularTest test → (m : Tree) → IsRegular asked m
        → OptionRegular (member_passing bases test m)
    passing_member for_none k (Union a b) h = h
    passing_member for_none k _ h = tt
    passing_member (for_type c) k Any h = k
    passing_member (for_type c) k Object h = k
    passing_member (for_type c) k (Union a b) h = h
    passing_member (for_type c) k m h = within_regular c m k h (is_at_or_below bases c m) (absorbs bases m c)
    passing_member for_list k (ListOf t) h = h
    passing_member for_list k (Union a b) h = h
    passing_member for_list k _ h = tt

    failing_member : (test : Tested) (m : Tree) → IsRegular asked m → OptionRegular (member_failing bases test m)
    failing_member for_none NoneType h = tt
    failing_member for_none m h = h
    failing_member for_list (ListOf t) h = tt
    failing_member for_list m h = h
    failing_member (for_type c) Any h = tt
    failing_member (for_type c) Object h = tt
    failing_member (for_type c) (Union a b) h = h
    failing_member (for_type c) m h = outside_regular m h (is_at_or_below bases c m)

    kept_regular : (f : Tree → Option Tree) → ((m : Tree) → IsRegular asked m → OptionRegular (f m)) → (ms : List Tree)
        → AllOf (IsRegular asked) ms → AllOf (IsRegular asked) (filter_map f ms)
    kept_regular f each [] h = tt
    kept_regular f each (m ∷ ms) h = go (f m) (each m h.0) (kept_regular f each ms h.1)
      where
        go : (o : Option Tree) → OptionRegular o → AllOf (IsRegular asked) (filter_map f ms)
            → AllOf (IsRegular asked) (cons_option o (filter_map f ms))
        go None k r = r
        go (Some t) k r = (k, r)

    tested_as_regular : (holds : Test) (test : Tested) → IsRegularTest test → (t : Tree) → IsRegular asked t
        → IsRegular asked (tested_as bases holds test t)
    tested_as_regular true test k t h = union_regular (filter_map (member_passing bases test) (members t))
        (kept_regular (member_passing bases test) (passing_member test k) (members t) (regular_members asked t h))
    tested_as_regular false test k t h = union_regular (filter_map (member_failing bases test) (members t))
        (kept_regular (member_failing bases test) (failing_member test) (members t) (regular_members asked t h))

  -- ---- environments

  -- each current type is regular, and the declared type of each assigned local
  abbrev pub EnvRegular : List Tree → Env → Type 0
  EnvRegular declared env = (x : ℕ) (t : Tree) → current env x ≡ Some t → IsRegular asked t
      × IsRegular asked (declared_type declared x)

  pub assign_regular : (declared : List Tree) (env : Env) (x : ℕ) (t : Tree) → EnvRegular declared env
      → IsRegular asked t → IsRegular asked (declared_type declared x) → EnvRegular declared (assign env x t)
  assign_regular declared env x t h k d y u e = elim (assigned_cases env x t y u e) [
    | inl a ↦ (subst (IsRegular asked) (sym a.1) k, subst (λ z. IsRegular asked (declared_type declared z)) (sym a.0) d)
    | inr o ↦ h y u o.is
  ]

  abbrev TestOptionRegular : Option Tested → Type 0
  TestOptionRegular None = Unit {0}
  TestOptionRegular (Some test) = IsRegularTest test

  test_named_regular : (r : NameMeaning) → ((c : ℕ) → r ≡ meaning.Class c → ClassAsked asked c) → TestOptionRegular (test_named r)
  test_named_regular (meaning.Class c) h = h c refl
  test_named_regular (meaning.Builtin builtin.Int) h = tt
  test_named_regular (meaning.Builtin builtin.Str) h = tt
  test_named_regular (meaning.Builtin builtin.Bool) h = tt
  test_named_regular (meaning.Builtin builtin.List) h = tt
  test_named_regular _ h = tt

  pub join_env_regular : (bases : Bases) (declared : List Tree) (left right : Env) → EnvRegular declared left
      → EnvRegular declared right → EnvRegular declared (join_env bases declared left right)
  join_env_regular bases declared left right h k x t e =
      let m = met bases declared left right x t e in
      let l = h x m.first m.is_left in
      let r = k x m.second m.is_right in (
        subst (IsRegular asked) m.is (join_or_regular bases m.first m.second (declared_type declared x) l.0 r.0 l.1),
        l.1,
      )

  module _ (bases : Bases) (declared : List Tree) (resolve : List ℕ → NameMeaning) (meant : NamesAsked asked resolve) where
    test_regular : (e : Expr) → TestOptionRegular (test_of resolve e)
    test_regular (name n) = test_named_regular (resolve n.text) (meant n.text)
    test_regular _ = tt

    argument_regular : (o : Option Expr) → TestOptionRegular (test_of_argument resolve o)
    argument_regular None = tt
    argument_regular (Some e) = test_regular e

    narrow_local_regular : (holds : Test) (test : Tested) → IsRegularTest test → (x : Option ℕ) (env : Env)
        → EnvRegular declared env → EnvRegular declared (narrow_local bases holds test x env)
    narrow_local_regular holds test k None env h = h
    narrow_local_regular holds test k (Some x) env h = go (current env x) refl
      where
        go : (o : Option Tree) → current env x ≡ o → EnvRegular declared (narrow_current bases holds test x env o)
        go None e = h
        go (Some t) e = assign_regular declared env x (tested_as bases holds test t) h
            (tested_as_regular bases holds test k t (h x t e).0) (h x t e).1

    narrow_instance_regular : (holds is_test : Test) (x : Option ℕ) (test : Option Tested) → TestOptionRegular test
        → (env : Env) → EnvRegular declared env → EnvRegular declared
        (narrow_instance bases declared resolve holds is_test x test env)
    narrow_instance_regular holds false x test k env h = h
    narrow_instance_regular holds true x None k env h = h
    narrow_instance_regular holds true x (Some test) k env h = narrow_local_regular holds test k x env h

    pub narrow_regular : (holds : Test) (e : Expr) (env : Env) → EnvRegular declared env
        → EnvRegular declared (narrow bases declared resolve holds e env)
    narrow_regular holds (is_none p e) env h = narrow_local_regular holds for_none tt (local_named resolve e) env h
    narrow_regular holds (is_not_none p e) env h = narrow_local_regular (not holds) for_none tt (local_named resolve e)
        env h
    narrow_regular holds (negation p e) env h = narrow_regular (not holds) e env h
    narrow_regular true (conjunction p a b) env h = narrow_regular true b (narrow bases declared resolve true a env)
        (narrow_regular true a env h)
    narrow_regular false (conjunction p a b) env h =
        join_env_regular bases declared (narrow bases declared resolve false a env)
        (narrow bases declared resolve false b (narrow bases declared resolve true a env))
        (narrow_regular false a env h) (narrow_regular false b (narrow bases declared resolve true a env)
        (narrow_regular true a env h))
    narrow_regular true (disjunction p a b) env h =
        join_env_regular bases declared (narrow bases declared resolve true a env)
        (narrow bases declared resolve true b (narrow bases declared resolve false a env))
        (narrow_regular true a env h) (narrow_regular true b (narrow bases declared resolve false a env)
        (narrow_regular false a env h))
    narrow_regular false (disjunction p a b) env h = narrow_regular false b (narrow bases declared resolve false a env)
        (narrow_regular false a env h)
    narrow_regular holds (call p callee arguments by_name) env h =
        narrow_instance_regular holds (is_instance_test callee arguments by_name)
        (local_of_argument resolve (first_argument arguments)) (test_of_argument resolve
        (second_argument arguments)) (argument_regular (second_argument arguments)) env h
    narrow_regular holds _ env h = h
