-- The join of two types without absorbed members has none.
use Rattle.std.proofs.Common.{◌≡◌, not, Bool as Test, true, false, List, [], ◌∷◌, filter, Option, Some, None, refl, sym}
use Rattle.std.proofs.Common.{subst}
use Rattle.std.proofs.lemmas.Bool.{or_parts}
use Rattle.std.specs.List.{list_any}
use Rattle.std.specs.Prelude.{if◌then◌else◌}
use Rattle.std.specs.Option.{option_map, option_and_then}
use Rattle.pc_types.specs.Tree.{Tree, Trees, Any, Object, Never, TupleOf, Union, end, more}
use Rattle.pc_types.specs.Below.{Bases, AreSmaller}
use Rattle.pc_types.specs.Shape.{members, union}
use Rattle.pc_types.specs.Normal.{IsMember, IsNormal, AreNormal, IsOfMembers, IsReduced, AreReduced}
use Rattle.pc_types.specs.Join.{same_tree, absorbs, is_absorbed, unabsorbed_members, is_before, put_among, parts_of}
use Rattle.pc_types.specs.Join.{equal_one, both_parts, by_rule, put_all, join_each, one_of, join_of}
use Rattle.pc_types.specs.WellFormed.{JoinsAreWellFormed}
use Rattle.pc_types.proofs.Together.{equal_is, mapped}
use Rattle.pc_types.proofs.Joined.{normal_parts}
use Rattle.pc_types.proofs.JoinNormal.{put_all_order, unabsorbed_order, joined_normal, within_nodes}
use Rattle.pc_types.proofs.Incomparable.{Incomparable, IncomparableToEach, IsNormalReduced, ArePairwiseIncomparable}
use Rattle.pc_types.proofs.Incomparable.{incomparable_to_tuple, members_incomparable, union_reduced}
use Rattle.pc_types.proofs.Incomparable.{filter_incomparable}

-- where a member was put
data Put (m : Tree) (one : Tree → Option Tree) : List Tree → List Tree → Type 0 where
  p_end : Put m one [] (m ∷ [])
  p_before : {n : Tree} {ns : List Tree} → Put m one (n ∷ ns) (m ∷ n ∷ ns)
  p_behind : {n : Tree} {ns l : List Tree} → Put m one ns l → Put m one (n ∷ ns) (n ∷ l)
  p_made : {n f : Tree} {ns : List Tree} → one n ≡ Some f → Put m one (n ∷ ns) (f ∷ ns)

module _ (m : Tree) (one : Tree → Option Tree) where
  made_is : (n : Tree) (ns l : List Tree) (o : Option Tree) → one n ≡ o → option_map (λ f. f ∷ ns) o ≡ Some l
      → Put m one (n ∷ ns) l
  made_is n ns l None q e = cc
  made_is n ns l (Some f) q e = let p : f ∷ ns ≡ l = cc in subst (Put m one (n ∷ ns)) p (p_made q)

  behind_is : (n : Tree) (ns l : List Tree) (o : Option (List Tree)) → ((k : List Tree) → o ≡ Some k → Put m one ns k)
      → option_map (λ k. n ∷ k) o ≡ Some l → Put m one (n ∷ ns) l
  behind_is n ns l None g e = cc
  behind_is n ns l (Some k) g e = let p : n ∷ k ≡ l = cc in subst (Put m one (n ∷ ns)) p (p_behind (g k refl))

  rest_is : (n : Tree) (ns l : List Tree) (x : Test) → ((k : List Tree) → put_among m one ns ≡ Some k → Put m one ns k)
      → (if x then option_map (λ k. n ∷ k) (put_among m one ns) else option_map (λ f. f ∷ ns) (one n)) ≡ Some l
      → Put m one (n ∷ ns) l
  rest_is n ns l true g e = behind_is n ns l (put_among m one ns) g e
  rest_is n ns l false g e = made_is n ns l (one n) refl e

  before_is : (n : Tree) (ns l : List Tree) (x : Test) → ((k : List Tree) → put_among m one ns ≡ Some k
      → Put m one ns k)
      → (if x then Some (m ∷ n ∷ ns) else (if is_before n m then option_map (λ k. n ∷ k) (put_among m one ns)
      else option_map (λ f. f ∷ ns) (one n))) ≡ Some l → Put m one (n ∷ ns) l
  before_is n ns l true g e = let p : m ∷ n ∷ ns ≡ l = cc in subst (Put m one (n ∷ ns)) p p_before
  before_is n ns l false g e = rest_is n ns l (is_before n m) g e

  put_is : (ms l : List Tree) → put_among m one ms ≡ Some l → Put m one ms l
  put_is [] l e = let p : m ∷ [] ≡ l = cc in subst (Put m one []) p p_end
  put_is (n ∷ ns) l e = before_is n ns l (is_before m n) (λ k f. put_is ns k f) e

-- members put among others, the last first
data PutAll (bases : Bases) : List Tree → List Tree → List Tree → Type 0 where
  a_none : {ms : List Tree} → PutAll bases [] ms ms
  a_one : {m : Tree} {ns ms k l : List Tree} → PutAll bases ns ms k → Put m (one_of bases m) k l
      → PutAll bases (m ∷ ns) ms l

-- a member put after others, unless it is absorbed
tested_is : (bases : Bases) (m : Tree) (x : Test) (ns ms k l : List Tree) → PutAll bases ns ms k
    → (if x then Some k else put_among m (one_of bases m) k) ≡ Some l → PutAll bases (if not x then m ∷ ns else ns) ms l
tested_is bases m true ns ms k l p e = let q : k ≡ l = cc in subst (PutAll bases ns ms) q p
tested_is bases m false ns ms k l p e = a_one p (put_is m (one_of bases m) k l e)

member_is : (bases : Bases) (other m : Tree) (ns ms k l : List Tree) → IsMember m → PutAll bases ns ms k
    → put_all bases other m k ≡ Some l → PutAll bases (if not (is_absorbed bases m other) then m ∷ ns else ns) ms l
member_is bases other Any ns ms k l h p e = absurd h
member_is bases other Object ns ms k l h p e = absurd h
member_is bases other Never ns ms k l h p e = absurd h
member_is bases other (Union a b) ns ms k l h p e = absurd h
member_is bases other (TupleOf ss) ns ms k l h p e = tested_is bases (TupleOf ss) (is_absorbed bases (TupleOf ss) other)
    ns ms k l p e
member_is bases other m ns ms k l h p e = tested_is bases m (is_absorbed bases m other) ns ms k l p e

bound_is : (f : List Tree → Option (List Tree)) (o : Option (List Tree)) (l : List Tree) → option_and_then f o ≡ Some l
    → (k : List Tree) × (o ≡ Some k) × (f k ≡ Some l)
bound_is f None l e = cc
bound_is f (Some k) l e = (k, refl, e)

listed_of : (a t : Tree) → IsNormal (Union a t) → IsOfMembers t
listed_of a Any n = n.3.0
listed_of a Object n = n.3.0
listed_of a _ n = n.2

all_is : (bases : Bases) (other s : Tree) (ms l : List Tree) → IsOfMembers s → put_all bases other s ms ≡ Some l
    → PutAll bases (unabsorbed_members bases s other) ms l
all_is bases other Never ms l n e = let q : ms ≡ l = cc in subst (PutAll bases [] ms) q a_none
all_is bases other (Union c d) ms l n e =
    let r = bound_is (λ k. put_all bases other c k) (put_all bases other d ms) l e in
    member_is bases other c (unabsorbed_members bases d other) ms r.0 l n.0
    (all_is bases other d ms r.0 (listed_of c d n) r.1) r.2
all_is bases other Any ms l n e = absurd n
all_is bases other Object ms l n e = absurd n
all_is bases other (TupleOf ss) ms l n e = member_is bases other (TupleOf ss) [] ms ms l tt a_none e
all_is bases other s ms l n e = member_is bases other s [] ms ms l tt a_none e

-- of two types of one head as one: it has the heads of both, and what is free of one is free of it
one_incomparable : (bases : Bases) (m n f x : Tree) → one_of bases m n ≡ Some f → Incomparable bases x m
    → Incomparable bases x f
one_incomparable bases (TupleOf ss) n f x e h = let r = mapped TupleOf (join_each bases ss (parts_of n)) f e in
    subst (Incomparable bases x) (sym r.2) (incomparable_to_tuple bases x r.0)
one_incomparable bases m n f x e h = subst (Incomparable bases x) (sym (equal_is m n f e)) h

-- one of a member and another one, if there is one, is in normal form and without absorbed members
abbrev Makes : Bases → Tree → Type 0
Makes bases m = (n f : Tree) → IsNormalReduced bases n → one_of bases m n ≡ Some f → IsNormalReduced bases f

put_incomparable : (bases : Bases) {m : Tree} {ns l : List Tree} (x : Tree) → Put m (one_of bases m) ns l
    → Incomparable bases x m → IncomparableToEach bases x ns → IncomparableToEach bases x l
put_incomparable bases x p_end h k = (h, tt)
put_incomparable bases x p_before h k = (h, k)
put_incomparable bases x (p_behind p) h k = (k.0, put_incomparable bases x p h k.1)
put_incomparable bases {m} x (p_made {n = n} {f = f} e) h k = (one_incomparable bases m n f x e h, k.1)

made_incomparable : (bases : Bases) (m n f : Tree) (l : List Tree) → one_of bases m n ≡ Some f
    → IncomparableToEach bases m l → IncomparableToEach bases f l
made_incomparable bases m n f [] e h = tt
made_incomparable bases m n f (x ∷ xs) e h = let g = one_incomparable bases m n f x e (h.0.1, h.0.0) in
    ((g.1, g.0), made_incomparable bases m n f xs e h.1)

put_pairwise : (bases : Bases) {m : Tree} {ns l : List Tree} → Put m (one_of bases m) ns l → IsNormalReduced bases m
    → Makes bases m → IncomparableToEach bases m ns → ArePairwiseIncomparable bases ns → ArePairwiseIncomparable bases l
put_pairwise bases p_end w g h a = (w, (tt, tt))
put_pairwise bases p_before w g h a = (w, (h, a))
put_pairwise bases (p_behind {n = n} p) w g h a =
    (a.0, (put_incomparable bases n p (h.0.1, h.0.0) a.1.0, put_pairwise bases p w g h.1 a.1.1))
put_pairwise bases {m} (p_made {n = n} {f = f} {ns = ns} e) w g h a =
    (g n f a.0 e, (made_incomparable bases m n f ns e h.1, a.1.1))

all_incomparable : (bases : Bases) {ns ms l : List Tree} (x : Tree) → PutAll bases ns ms l
    → IncomparableToEach bases x ns → IncomparableToEach bases x ms → IncomparableToEach bases x l
all_incomparable bases x a_none h k = k
all_incomparable bases x (a_one p q) h k = put_incomparable bases x q h.0 (all_incomparable bases x p h.1 k)

-- merging each of several members with another keeps normal forms without absorbed members
abbrev AllMake : Bases → List Tree → Type 0
AllMake bases [] = Unit {0}
AllMake bases (m ∷ ms) = Makes bases m × AllMake bases ms

-- each of the first is free of the second
abbrev Across : Bases → List Tree → List Tree → Type 0
Across bases [] ms = Unit {0}
Across bases (n ∷ ns) ms = IncomparableToEach bases n ms × Across bases ns ms

all_pairwise : (bases : Bases) {ns ms l : List Tree} → PutAll bases ns ms l → AllMake bases ns
    → ArePairwiseIncomparable bases ns → Across bases ns ms → ArePairwiseIncomparable bases ms
    → ArePairwiseIncomparable bases l
all_pairwise bases a_none g h c a = a
all_pairwise bases (a_one {m = m} p q) g h c a = put_pairwise bases q h.0 g.0 (all_incomparable bases m p h.1.0 c.0)
    (all_pairwise bases p g.1 h.1.1 c.1 a)

-- the members that one side keeps are incomparable to those that the other side keeps
module _ (bases : Bases) (s : Tree) where
  across_tested : (m k : Tree) (ks : List Tree) (x : Test) → absorbs bases k m ≡ false
      → (x ≡ false → absorbs bases m k ≡ false) → IncomparableToEach bases m ks
      → IncomparableToEach bases m (if not x then k ∷ ks else ks)
  across_tested m k ks true h g f = f
  across_tested m k ks false h g f = ((g refl, h), f)

  across_one : (m : Tree) (l : List Tree) → ((k : Tree) → is_absorbed bases k s ≡ false → absorbs bases m k ≡ false)
      → list_any (λ k. absorbs bases k m) l ≡ false → IncomparableToEach bases m
      (filter (λ k. not (is_absorbed bases k s)) l)
  across_one m [] h e = tt
  across_one m (k ∷ ks) h e =
      let p = or_parts (absorbs bases k m) (list_any (λ n. absorbs bases n m) ks) e in
      across_tested m k (filter (λ n. not (is_absorbed bases n s)) ks) (is_absorbed bases k s) p.0 (h k)
      (across_one m ks h p.1)

  module _ (t : Tree) where
    across_kept : (m : Tree) (ms : List Tree) (x : Test) → (x ≡ false
        → IncomparableToEach bases m (unabsorbed_members bases t s)) → Across bases ms (unabsorbed_members bases t s)
        → Across bases (if not x then m ∷ ms else ms) (unabsorbed_members bases t s)
    across_kept m ms true h c = c
    across_kept m ms false h c = (h refl, c)

    across_all : (l : List Tree) → ((k : Tree) → is_absorbed bases k s ≡ false → list_any (λ n. absorbs bases n k) l
        ≡ false) → Across bases (filter (λ m. not (is_absorbed bases m t)) l) (unabsorbed_members bases t s)
    across_all [] h = tt
    across_all (m ∷ ms) h =
        across_kept m (filter (λ n. not (is_absorbed bases n t)) ms) (is_absorbed bases m t)
        (λ e. across_one m (members t) (λ k f. (or_parts (absorbs bases m k) (list_any (λ n. absorbs bases n k) ms)
        (h k f)).0) e)
        (across_all ms (λ k f. (or_parts (absorbs bases m k) (list_any (λ n. absorbs bases n k) ms) (h k f)).1))

across : (bases : Bases) (s t : Tree) → Across bases (unabsorbed_members bases s t) (unabsorbed_members bases t s)
across bases s t = across_all bases s t (members s) (λ k f. f)

kept_make : (bases : Bases) (m : Tree) (x : Test) (ms : List Tree) → Makes bases m → AllMake bases ms
    → AllMake bases (if x then m ∷ ms else ms)
kept_make bases m true ms h g = (h, g)
kept_make bases m false ms h g = g

filter_make : (bases : Bases) (p : Tree → Test) (l : List Tree) → AllMake bases l → AllMake bases (filter p l)
filter_make bases p [] g = tt
filter_make bases p (m ∷ ms) g = kept_make bases m (p m) (filter p ms) g.0 (filter_make bases p ms g.1)

-- the join, where each tuple of the first joins well
together_reduced : (bases : Bases) (s t : Tree) (l : List Tree) → AreSmaller bases → IsOfMembers s → IsOfMembers t
    → IsReduced bases s → IsReduced bases t → AllMake bases (members s)
    → put_all bases t s (unabsorbed_members bases t s) ≡ Some l → IsReduced bases (union l)
together_reduced bases s t l o n k r q g e =
    let p = all_is bases t s (unabsorbed_members bases t s) l n e in
    let a = all_pairwise bases p (filter_make bases (λ m. not (is_absorbed bases m t)) (members s) g)
    (filter_incomparable bases (λ m. not (is_absorbed bases m t)) (members s) (members_incomparable bases s n r))
    (across bases s t) (filter_incomparable bases (λ m. not (is_absorbed bases m s)) (members t)
    (members_incomparable bases t k q)) in
    union_reduced bases l o (put_all_order bases t s (unabsorbed_members bases t s) l n (unabsorbed_order bases t s k)
    e) a

mapped_reduced : (bases : Bases) (o : Option (List Tree)) (u : Tree)
    → ((l : List Tree) → o ≡ Some l → IsReduced bases (union l)) → option_map union o ≡ Some u → IsReduced bases u
mapped_reduced bases None u h e = cc
mapped_reduced bases (Some l) u h e = let q : union l ≡ u = cc in subst (IsReduced bases) q (h l refl)

this_reduced : (bases : Bases) (t u : Tree) → IsReduced bases t → Some t ≡ Some u → IsReduced bases u
this_reduced bases t u r e = let q : t ≡ u = cc in subst (IsReduced bases) q r

rule_reduced : (bases : Bases) (s t u : Tree) (o : Option Tree) → IsNormal s → IsNormal t → IsReduced bases s
    → IsReduced bases t → (IsOfMembers s → IsOfMembers t → o ≡ Some u → IsReduced bases u) → by_rule s t o ≡ Some u
    → IsReduced bases u
rule_reduced bases Never t u o n m r q h e = this_reduced bases t u q e
rule_reduced bases s Never u o n m r q h e = this_reduced bases s u r e
rule_reduced bases Any t u o n m r q h e = this_reduced bases Any u tt e
rule_reduced bases s Any u o n m r q h e = this_reduced bases Any u tt e
rule_reduced bases Object t u o n m r q h e = this_reduced bases Object u tt e
rule_reduced bases s Object u o n m r q h e = this_reduced bases Object u tt e
rule_reduced bases s t u o n m r q h e = h n m e

settled_reduced : (bases : Bases) (s t u : Tree) (o : Option (List Tree)) (x : Test) → IsNormal s → IsNormal t
    → IsReduced bases s → IsReduced bases t → (IsOfMembers s → IsOfMembers t → (l : List Tree) → o ≡ Some l
    → IsReduced bases (union l)) → (if x then Some s else by_rule s t (option_map union o)) ≡ Some u → IsReduced bases u
settled_reduced bases s t u o true n m r q h e = this_reduced bases s u r e
settled_reduced bases s t u o false n m r q h e = rule_reduced bases s t u (option_map union o) n m r q
    (λ a b f. mapped_reduced bases o u (h a b) f) e

with_members : (bases : Bases) (s t u : Tree) → AreSmaller bases → IsNormal s → IsNormal t → IsReduced bases s
    → IsReduced bases t → (IsOfMembers s → AllMake bases (members s)) → join_of bases s t ≡ Some u → IsReduced bases u
with_members bases s t u o n m r q g e =
    settled_reduced bases s t u (put_all bases t s (unabsorbed_members bases t s)) (same_tree s t) n m r q
    (λ a b l f. together_reduced bases s t l o a b r q (g a) f) e

equal_well : (bases : Bases) (m n f : Tree) → IsNormalReduced bases m → equal_one m n ≡ Some f → IsNormalReduced bases f
equal_well bases m n f w e = subst (IsNormalReduced bases) (sym (equal_is m n f e)) w

reduced_parts : (bases : Bases) (t : Tree) → IsReduced bases t → AreReduced bases (parts_of t)
reduced_parts bases (TupleOf ts) r = r
reduced_parts bases _ r = tt

tuple_well : (bases : Bases) (ss : Trees) → ((ts us : Trees) → AreNormal ts → AreReduced bases ts
    → join_each bases ss ts ≡ Some us → AreNormal us × AreReduced bases us) → Makes bases (TupleOf ss)
tuple_well bases ss h n f w e =
    let r = mapped TupleOf (join_each bases ss (parts_of n)) f e in
    subst (IsNormalReduced bases) (sym r.2) (h (parts_of n) r.0 (normal_parts n w.0) (reduced_parts bases n w.1) r.1)

both_well : (bases : Bases) (o : Option Tree) (p : Option Trees) (us : Trees)
    → ((u : Tree) → o ≡ Some u → IsNormalReduced bases u) → ((vs : Trees) → p ≡ Some vs → AreNormal vs
    × AreReduced bases vs) → both_parts o p ≡ Some us → AreNormal us × AreReduced bases us
both_well bases None p us g h e = cc
both_well bases (Some t) None us g h e = cc
both_well bases (Some t) (Some ts) us g h e =
    let q : more t ts ≡ us = cc in
    let a = g t refl in
    let b = h ts refl in
    subst (λ x. AreNormal x × AreReduced bases x) q ((a.0, b.0), (a.1, b.1))

module _ (bases : Bases) (o : AreSmaller bases) where
  mutual
    makes : (m : Tree) → IsNormal m → IsReduced bases m → Makes bases m
    makes (TupleOf ss) n r = tuple_well bases ss (λ ts us a b e. each_well ss ts us n r a b e)
    makes m n r = λ k f w e. equal_well bases m k f (n, r) e

    members_make : (s : Tree) → IsOfMembers s → IsReduced bases s → AllMake bases (members s)
    members_make Never n r = tt
    members_make Any n r = absurd n
    members_make Object n r = absurd n
    members_make (Union c d) n r = (makes c n.1 r.0, members_make d (listed_of c d n) r.1)
    members_make (TupleOf ss) n r = (tuple_well bases ss (λ ts us a b e. each_well ss ts us n r a b e), tt)
    members_make m n r = (λ k f w e. equal_well bases m k f (n, r) e, tt)

    each_well : (ss ts us : Trees) → AreNormal ss → AreReduced bases ss → AreNormal ts → AreReduced bases ts
        → join_each bases ss ts ≡ Some us → AreNormal us × AreReduced bases us
    each_well end end us n r m q e = let p : end ≡ us = cc in subst (λ x. AreNormal x × AreReduced bases x) p (tt, tt)
    each_well end (more t ts) us n r m q e = cc
    each_well (more s ss) end us n r m q e = cc
    each_well (more s ss) (more t ts) us n r m q e =
        both_well bases (join_of bases s t) (join_each bases ss ts) us
        (λ u f. (
          joined_normal bases s t u n.0 m.0 f,
          with_members bases s t u o n.0 m.0 r.0 q.0
              (λ l. members_make s l r.0) f,
        ))
        (λ vs f. each_well ss ts vs n.1 r.1 m.1 q.1 f)
        e

-- the join keeps types in normal form free of absorbed members
pub joined_reduced : (bases : Bases) (s t u : Tree) → AreSmaller bases → IsNormal s → IsNormal t → IsReduced bases s
    → IsReduced bases t → join_of bases s t ≡ Some u → IsReduced bases u
joined_reduced bases s t u o n m r q e = with_members bases s t u o n m r q (λ l. members_make bases o s l r) e

-- and a join within the limit is a type that may be kept
pub join_well_formed : JoinsAreWellFormed
join_well_formed bases s t u o n m r q e =
    let w = within_nodes (join_of bases s t) u e in
    (joined_normal bases s t u n m w.1, joined_reduced bases s t u o n m r q w.1, w.0)
