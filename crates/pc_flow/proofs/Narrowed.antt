-- The parts of a well-formed type that pass and fail a test are well-formed.
use Rattle.std.proofs.Common.{◌≡◌, ◌⊎◌, ◌+◌, ◌≤◌, ◌||◌, ◌==◌, ℕ, not, Bool as Test, true, false, List, [], ◌∷◌, Option}
use Rattle.std.proofs.Common.{Some, None, refl, sym, ◌∙◌, subst, arith, inl, inr, ⊎_elim}
use Rattle.std.proofs.lemmas.Bool.{false≢true, true≢false, and_parts, or_parts, or_cases, not-true, cond_both}
use Rattle.std.proofs.lemmas.Bool.{cond-false, cases_Bool, ne_eqb, false_from_ne_true, and_from, eq-eqb, not_from_false}
use Rattle.std.specs.List.{list_any, filter_map}
use Rattle.std.specs.Prelude.{if◌then◌else◌}
use Rattle.pc_types.specs.Tree.{Tree, Any, Object, Never, Int, Bool, Str, NoneType, Class, ListOf, Union}
use Rattle.pc_types.specs.Below.{Bases, Below, AreSmaller, through}
use Rattle.pc_types.specs.Shape.{nodes, node_limit, members, ahead, union}
use Rattle.pc_types.specs.Normal.{member_rank, IsRankBefore, IsMember, IsOfMembers, IsReduced}
use Rattle.pc_types.specs.Join.{absorbs, reaches}
use Rattle.pc_types.specs.WellFormed.{IsWellFormed}
use Rattle.pc_types.proofs.Structural.{Chain, here, up, chain_below}
use Rattle.pc_types.proofs.Together.{AllBehind, listed_rest}
use Rattle.pc_types.proofs.JoinNormal.{InOrder, union_normal, members_order}
use Rattle.pc_types.proofs.Descent.{reaches_below, below_reaches, chain_of, comparable}
use Rattle.pc_types.proofs.Incomparable.{Incomparable, IncomparableToEach, ArePairwiseIncomparable}
use Rattle.pc_types.proofs.Incomparable.{members_incomparable, union_reduced}
use Rattle.pc_flow.specs.WellFormed.{IsTestable, PassingIsWellFormed, FailingIsWellFormed}
use Rattle.pc_flow.specs.Narrowing.{Tested, for_none, for_type, for_list, is_at_or_below, member_within, member_passing}
use Rattle.pc_flow.specs.Narrowing.{member_failing, type_where_true, type_where_false}

-- some of the members
data IsSublist : List Tree → List Tree → Type 0 where
  k_none : IsSublist [] []
  k_keep : {m : Tree} {ms ns : List Tree} → IsSublist ms ns → IsSublist (m ∷ ms) (m ∷ ns)
  k_drop : {m : Tree} {ms ns : List Tree} → IsSublist ms ns → IsSublist (m ∷ ms) ns

some_behind : {ms ns : List Tree} (a : Tree) → IsSublist ms ns → AllBehind a ms → AllBehind a ns
some_behind a k_none b = tt
some_behind a (k_keep k) b = (b.0, some_behind a k b.1)
some_behind a (k_drop k) b = some_behind a k b.1

some_order : {ms ns : List Tree} → IsSublist ms ns → InOrder ms → InOrder ns
some_order k_none o = tt
some_order (k_keep {m = m} k) o = (o.0, (o.1.0, (some_behind m k o.1.1.0, some_order k o.1.1.1)))
some_order (k_drop k) o = some_order k o.1.1.1

some_incomparable_to : (bases : Bases) {ms ns : List Tree} (x : Tree) → IsSublist ms ns → IncomparableToEach bases x ms
    → IncomparableToEach bases x ns
some_incomparable_to bases x k_none f = tt
some_incomparable_to bases x (k_keep k) f = (f.0, some_incomparable_to bases x k f.1)
some_incomparable_to bases x (k_drop k) f = some_incomparable_to bases x k f.1

some_incomparable : (bases : Bases) {ms ns : List Tree} → IsSublist ms ns → ArePairwiseIncomparable bases ms
    → ArePairwiseIncomparable bases ns
some_incomparable bases k_none a = tt
some_incomparable bases (k_keep {m = m} k) a =
    (a.0, (some_incomparable_to bases m k a.1.0, some_incomparable bases k a.1.1))
some_incomparable bases (k_drop k) a = some_incomparable bases k a.1.1

-- the nodes of the members, and one for each
abbrev total : List Tree → ℕ
total [] = 0
total (m ∷ ms) = 1 + nodes m + total ms

some_total : {ms ns : List Tree} → IsSublist ms ns → total ns ≤ total ms
some_total k_none = omega arith
some_total (k_keep k) = omega (arith, some_total k)
some_total (k_drop k) = omega (arith, some_total k)

ahead_nodes : (m t : Tree) → nodes (ahead m t) ≤ 1 + nodes m + nodes t
ahead_nodes m Never = omega arith
ahead_nodes m t = omega arith

union_nodes : (m : Tree) (ms : List Tree) → nodes (union (m ∷ ms)) + 1 ≤ total (m ∷ ms)
union_nodes m [] = omega arith
union_nodes m (n ∷ ns) = omega (arith, ahead_nodes m (union (n ∷ ns)), union_nodes n ns)

members_total : (t : Tree) → IsOfMembers t → total (members t) ≤ nodes t + 1
members_total (Union c d) n = omega (arith, members_total d (listed_rest c d n.2 n.3))
members_total Never n = omega arith
members_total Any n = absurd n
members_total Object n = absurd n
members_total t n = omega arith

some_nodes : (t : Tree) (l : List Tree) → IsOfMembers t → nodes t ≤ node_limit → IsSublist (members t) l
    → nodes (union l) ≤ node_limit
some_nodes t [] n h k = omega arith
some_nodes t (m ∷ ms) n h k = omega (arith, h, union_nodes m ms, some_total k, members_total t n)

some_well_formed : (bases : Bases) (t : Tree) (l : List Tree) → AreSmaller bases → IsOfMembers t → IsReduced bases t
    → nodes t ≤ node_limit → IsSublist (members t) l → IsWellFormed bases (union l)
some_well_formed bases t l o n r h k =
    let i = some_order k (members_order t n) in (
      union_normal l i,
      union_reduced bases l o i (some_incomparable bases k (members_incomparable bases t n r)),
      some_nodes t l n h k,
    )

-- each member stays, or goes
abbrev Stays : (Tree → Option Tree) → Tree → Type 0
Stays h m = (h m ≡ None) ⊎ (h m ≡ Some m)

-- each of several members stays, or goes
abbrev AllStay : (Tree → Option Tree) → List Tree → Type 0
AllStay h [] = Unit {0}
AllStay h (m ∷ ms) = Stays h m × AllStay h ms

stay_some : (h : Tree → Option Tree) (l : List Tree) → AllStay h l → IsSublist l (filter_map h l)
stay_some h [] s = k_none
stay_some h (m ∷ ms) s =
    let k = stay_some h ms s.1 in
    ⊎_elim (λ e. rw e (k_drop k)) (λ e. rw e (k_keep k)) s.0

order_stay : (h : Tree → Option Tree) (l : List Tree) → ((m : Tree) → IsMember m → Stays h m) → InOrder l → AllStay h l
order_stay h [] g o = tt
order_stay h (m ∷ ms) g o = (g m o.0, order_stay h ms g o.1.1.1)

listed_well_formed : (bases : Bases) (h : Tree → Option Tree) (t : Tree) → AreSmaller bases → IsOfMembers t
    → IsReduced bases t → nodes t ≤ node_limit → ((m : Tree) → IsMember m → Stays h m)
    → IsWellFormed bases (union (filter_map h (members t)))
listed_well_formed bases h t o n r k g = some_well_formed bases t (filter_map h (members t)) o n r k
    (stay_some h (members t) (order_stay h (members t) g (members_order t n)))

-- where a test fails
tested_stays : (m : Tree) (x : Test) → ((if x then None else Some m) ≡ None) ⊎ ((if x then None else Some m) ≡ Some m)
tested_stays m true = inl refl
tested_stays m false = inr refl

failing_stays : (bases : Bases) (test : Tested) (m : Tree) → Stays (member_failing bases test) m
failing_stays bases for_none NoneType = inl refl
failing_stays bases for_none _ = inr refl
failing_stays bases for_list (ListOf t) = inl refl
failing_stays bases for_list _ = inr refl
failing_stays bases (for_type c) Any = inr refl
failing_stays bases (for_type c) Object = inr refl
failing_stays bases (for_type c) (Union a b) = inr refl
failing_stays bases (for_type c) m = tested_stays m (is_at_or_below bases c m)

any_fails : (bases : Bases) (test : Tested) → IsWellFormed bases (type_where_false bases test Any)
any_fails bases for_none = (tt, tt, omega arith)
any_fails bases for_list = (tt, tt, omega arith)
any_fails bases (for_type c) = (tt, tt, omega arith)

object_fails : (bases : Bases) (test : Tested) → IsWellFormed bases (type_where_false bases test Object)
object_fails bases for_none = (tt, tt, omega arith)
object_fails bases for_list = (tt, tt, omega arith)
object_fails bases (for_type c) = (tt, tt, omega arith)

pub failing_well_formed : FailingIsWellFormed
failing_well_formed bases test Any o k = any_fails bases test
failing_well_formed bases test Object o k = object_fails bases test
failing_well_formed bases test t o k = listed_well_formed bases (member_failing bases test) t o k.0 k.1 k.2
    (λ m h. failing_stays bases test m)

-- where a test is true
chain_least : {bases : Bases} {c d : ℕ} → AreSmaller bases → Chain bases c d → d ≤ c
chain_least o here = omega arith
chain_least o (up {c = c} {b = b} e k) = omega (arith, o c b e, chain_least o k)

absorbs_above : (bases : Bases) (c d : ℕ) → absorbs bases (Class d) (Class c) ≡ true → Below bases (Class c) (Class d)
absorbs_above bases c d e = reaches_below bases c c d (and_parts (not (c == d)) (reaches bases c c d) e).1

absorbs_apart : (bases : Bases) (c d : ℕ) → absorbs bases (Class d) (Class c) ≡ true → d ≡ c → ⊥
absorbs_apart bases c d e q = true≢false (sym (eq-eqb c d (sym q))
    ∙ not-true (c == d) (and_parts (not (c == d)) (reaches bases c c d) e).0)

above_absorbs : (bases : Bases) (c d : ℕ) → AreSmaller bases → (d ≡ c → ⊥) → Below bases (Class c) (Class d)
    → absorbs bases (Class d) (Class c) ≡ true
above_absorbs bases c d o n h = and_from (not (c == d)) (reaches bases c c d)
    (not_from_false (c == d) (ne_eqb c d (λ q. n (sym q)))) (below_reaches o h)

-- a member that does not absorb the tested type stays, or goes
within_stays : (bases : Bases) (c m : Tree) → absorbs bases m c ≡ false → Stays (member_within bases c) m
within_stays bases c m e =
    cond_both (is_at_or_below bases c m) (Some m) (if absorbs bases m c then Some c else None)
    (λ o. (o ≡ None) ⊎ (o ≡ Some m)) (λ f. inr refl) (λ f. inl (cond-false (absorbs bases m c) (Some c) None e))

-- by the three tests of a member
goes_by : (m c : Tree) (x y z : Test) → x ≡ false → y ≡ false → z ≡ false
    → (if x || y then Some m else (if z then Some c else None)) ≡ None
goes_by m c false false false p q r = refl
goes_by m c false false true p q r = absurd (true≢false r)
goes_by m c false true z p q r = absurd (true≢false q)
goes_by m c true y z p q r = absurd (true≢false p)

becomes_by : (m c : Tree) (x y z : Test) → x ≡ false → y ≡ false → z ≡ true
    → (if x || y then Some m else (if z then Some c else None)) ≡ Some c
becomes_by m c false false true p q r = refl
becomes_by m c false false false p q r = absurd (false≢true r)
becomes_by m c false true z p q r = absurd (true≢false q)
becomes_by m c true y z p q r = absurd (true≢false p)

-- a member that absorbs the tested type becomes that type
itself : (bases : Bases) (c d : ℕ) → AreSmaller bases → absorbs bases (Class d) (Class c) ≡ true
    → member_within bases (Class c) (Class d) ≡ Some (Class c)
itself bases c d o e =
    let n = absorbs_apart bases c d e in
    let f : absorbs bases (Class c) (Class d) ≡ false = false_from_ne_true _
    (λ g. n (antisym (chain_least o (chain_of (absorbs_above bases c d e)))
    (chain_least o (chain_of (absorbs_above bases d c g))))) in
    becomes_by (Class d) (Class c) (d == c) (absorbs bases (Class c) (Class d)) (absorbs bases (Class d) (Class c))
    (ne_eqb d c n) f e
  where
    antisym : {a b : ℕ} → a ≤ b → b ≤ a → a ≡ b
    antisym h k = omega arith

within_itself : (bases : Bases) (m c : Tree) → AreSmaller bases → absorbs bases m c ≡ true
    → member_within bases c m ≡ Some c
within_itself bases Int Bool o e = refl
within_itself bases (Class d) (Class c) o e = itself bases c d o e
within_itself bases _ _ o e = absurd (false≢true e)

-- and a member beside it goes
classes_go : (bases : Bases) (c d f : ℕ) → AreSmaller bases → absorbs bases (Class d) (Class c) ≡ true → (d ≡ f → ⊥)
    → Incomparable bases (Class d) (Class f) → member_within bases (Class c) (Class f) ≡ None
classes_go bases c d f o e n h =
    let b = absorbs_above bases c d e in
    let up_f : Below bases (Class f) (Class d) → ⊥ = λ k. false≢true (sym h.0 ∙ above_absorbs bases f d o n k) in
    let up_d : Below bases (Class d) (Class f) → ⊥ = λ k. false≢true
    (sym h.1 ∙ above_absorbs bases d f o (λ q. n (sym q)) k) in
    let x : (f == c) ≡ false =
    ne_eqb f c (λ q. false≢true (sym (subst (λ y. absorbs bases (Class d) (Class y) ≡ false) q h.0) ∙ e)) in
    let y : absorbs bases (Class c) (Class f) ≡ false = false_from_ne_true _
    (λ g. up_f (through (absorbs_above bases f c g) b)) in
    let z : absorbs bases (Class f) (Class c) ≡ false = false_from_ne_true _
    (λ g. ⊎_elim (λ k. up_d (chain_below k)) (λ k. up_f (chain_below k))
    (comparable (chain_of b) (chain_of (absorbs_above bases c f g)))) in
    goes_by (Class f) (Class c) (f == c) (absorbs bases (Class c) (Class f)) (absorbs bases (Class f) (Class c)) x y z

places_apart : (d f : ℕ) → IsRankBefore (8, d) (8, f) ⊎ IsRankBefore (8, f) (8, d) → d ≡ f → ⊥
places_apart d f h e = grind arith

no_place : (p : ℕ × ℕ) → IsRankBefore p p ⊎ IsRankBefore p p → ⊥
no_place p h = grind arith

-- two members have different places in a union
abbrev HaveOtherPlaces : Tree → Tree → Type 0
HaveOtherPlaces m n = IsRankBefore (member_rank m) (member_rank n) ⊎ IsRankBefore (member_rank n) (member_rank m)

bool_goes : (bases : Bases) (n : Tree) → IsMember n → HaveOtherPlaces Int n → Incomparable bases Int n
    → member_within bases Bool n ≡ None
bool_goes bases Int k d h = absurd (no_place (1, 0) d)
bool_goes bases Bool k d h = absurd (true≢false h.0)
bool_goes bases Any k d h = absurd k
bool_goes bases Object k d h = absurd k
bool_goes bases Never k d h = absurd k
bool_goes bases (Union a b) k d h = absurd k
bool_goes bases _ k d h = refl

class_goes : (bases : Bases) (c d : ℕ) (n : Tree) → AreSmaller bases → absorbs bases (Class d) (Class c) ≡ true
    → IsMember n → HaveOtherPlaces (Class d) n → Incomparable bases (Class d) n → member_within bases (Class c) n ≡ None
class_goes bases c d (Class f) o e k p h = classes_go bases c d f o e (places_apart d f p) h
class_goes bases c d Any o e k p h = absurd k
class_goes bases c d Object o e k p h = absurd k
class_goes bases c d Never o e k p h = absurd k
class_goes bases c d (Union a b) o e k p h = absurd k
class_goes bases c d _ o e k p h = refl

beside_goes : (bases : Bases) (m c n : Tree) → AreSmaller bases → absorbs bases m c ≡ true → IsMember n
    → HaveOtherPlaces m n → Incomparable bases m n → member_within bases c n ≡ None
beside_goes bases Int Bool n o e k p h = bool_goes bases n k p h
beside_goes bases (Class d) (Class c) n o e k p h = class_goes bases c d n o e k p h
beside_goes bases _ _ n o e k p h = absurd (false≢true e)

-- where some member absorbs the type tested for, that type alone is left
module _ (bases : Bases) (c : Tree) (o : AreSmaller bases) where
  all_go : (m : Tree) (l : List Tree) → absorbs bases m c ≡ true → AllBehind m l → IncomparableToEach bases m l
      → InOrder l → filter_map (member_within bases c) l ≡ []
  all_go m [] e b f i = refl
  all_go m (n ∷ ns) e b f i = rw (beside_goes bases m c n o e i.0 (inl b.0) f.0) (all_go m ns e b.1 f.1 i.1.1.1)

  goes_before : (m : Tree) (l : List Tree) → IsMember m → list_any (λ n. absorbs bases n c) l ≡ true → AllBehind m l
      → IncomparableToEach bases m l → member_within bases c m ≡ None
  goes_before m [] k e b f = absurd (false≢true e)
  goes_before m (n ∷ ns) k e b f =
      ⊎_elim (λ g. beside_goes bases n c m o g k (inr b.0) (f.0.1, f.0.0)) (λ g. goes_before m ns k g b.1 f.1)
      (or_cases (absorbs bases n c) (list_any (λ x. absorbs bases x c) ns) e)

  one_left : (l : List Tree) → InOrder l → ArePairwiseIncomparable bases l → list_any (λ n. absorbs bases n c) l ≡ true
      → filter_map (member_within bases c) l ≡ c ∷ []
  one_left [] i a e = absurd (false≢true e)
  one_left (m ∷ ms) i a e =
      ⊎_elim (λ g. rw (within_itself bases m c o g, all_go m ms g i.1.1.0 a.1.0 i.1.1.1) refl)
      (λ g. rw (goes_before m ms i.0 g i.1.1.0 a.1.0) (one_left ms i.1.1.1 a.1.1 g))
      (or_cases (absorbs bases m c) (list_any (λ x. absorbs bases x c) ms) e)

  some_stay : (l : List Tree) → list_any (λ n. absorbs bases n c) l ≡ false → AllStay (member_within bases c) l
  some_stay [] e = tt
  some_stay (m ∷ ms) e = let p = or_parts (absorbs bases m c) (list_any (λ n. absorbs bases n c) ms) e in
      (within_stays bases c m p.0, some_stay ms p.1)

  within_well_formed : (t : Tree) → IsWellFormed bases c → IsOfMembers t → IsReduced bases t → nodes t ≤ node_limit
      → IsWellFormed bases (union (filter_map (member_within bases c) (members t)))
  within_well_formed t w n r h =
      ⊎_elim (λ e. rw (one_left (members t) (members_order t n) (members_incomparable bases t n r) e) w)
      (λ e. some_well_formed bases t (filter_map (member_within bases c) (members t)) o n r h
      (stay_some (member_within bases c) (members t) (some_stay (members t) e)))
      (cases_Bool (list_any (λ n. absorbs bases n c) (members t)))

testable_well_formed : (bases : Bases) (c : Tree) → IsTestable (for_type c) → IsWellFormed bases c
testable_well_formed bases Int h = (tt, tt, omega arith)
testable_well_formed bases Str h = (tt, tt, omega arith)
testable_well_formed bases Bool h = (tt, tt, omega arith)
testable_well_formed bases (Class c) h = (tt, tt, omega arith)
testable_well_formed bases _ h = absurd h

-- of a member, what passes a test of a type is what is within it
passes_within : (bases : Bases) (c m : Tree) → IsMember m → member_passing bases (for_type c) m ≡ member_within bases c
    m
passes_within bases c Any h = absurd h
passes_within bases c Object h = absurd h
passes_within bases c (Union a b) h = absurd h
passes_within bases c _ h = refl

all_within : (bases : Bases) (c : Tree) (l : List Tree) → InOrder l → filter_map (member_passing bases (for_type c)) l
    ≡ filter_map (member_within bases c) l
all_within bases c [] o = refl
all_within bases c (m ∷ ms) o = rw (passes_within bases c m o.0, all_within bases c ms o.1.1.1) refl

none_stays : (bases : Bases) (m : Tree) → IsMember m → Stays (member_passing bases for_none) m
none_stays bases Any h = absurd h
none_stays bases Object h = absurd h
none_stays bases Never h = absurd h
none_stays bases (Union a b) h = absurd h
none_stays bases NoneType h = inr refl
none_stays bases _ h = inl refl

list_stays : (bases : Bases) (m : Tree) → IsMember m → Stays (member_passing bases for_list) m
list_stays bases Any h = absurd h
list_stays bases Object h = absurd h
list_stays bases Never h = absurd h
list_stays bases (Union a b) h = absurd h
list_stays bases (ListOf t) h = inr refl
list_stays bases _ h = inl refl

listed_passes : (bases : Bases) (test : Tested) (t : Tree) → AreSmaller bases → IsTestable test → IsOfMembers t
    → IsReduced bases t → nodes t ≤ node_limit → IsWellFormed bases (type_where_true bases test t)
listed_passes bases for_none t o g n r h = listed_well_formed bases (member_passing bases for_none) t o n r h
    (none_stays bases)
listed_passes bases for_list t o g n r h = listed_well_formed bases (member_passing bases for_list) t o n r h
    (list_stays bases)
listed_passes bases (for_type c) t o g n r h = rw (all_within bases c (members t) (members_order t n))
    (within_well_formed bases c o t (testable_well_formed bases c g) n r h)

any_passes : (bases : Bases) (test : Tested) → IsTestable test → IsWellFormed bases (type_where_true bases test Any)
any_passes bases for_none g = (tt, tt, omega arith)
any_passes bases for_list g = (tt, tt, omega arith)
any_passes bases (for_type c) g = testable_well_formed bases c g

object_passes : (bases : Bases) (test : Tested) → IsTestable test
    → IsWellFormed bases (type_where_true bases test Object)
object_passes bases for_none g = (tt, tt, omega arith)
object_passes bases for_list g = (tt, tt, omega arith)
object_passes bases (for_type c) g = testable_well_formed bases c g

pub passing_well_formed : PassingIsWellFormed
passing_well_formed bases test Any o g k = any_passes bases test g
passing_well_formed bases test Object o g k = object_passes bases test g
passing_well_formed bases test t o g k = listed_passes bases test t o g k.0 k.1 k.2
