-- Members that do not absorb each other, and the members of a reduced type.
use Rattle.std.proofs.Common.{◌≡◌, ◌&&◌, ◌==◌, ℕ, not, Bool as Test, true, false, List, [], ◌∷◌, filter, refl, sym, ap}
use Rattle.std.proofs.Common.{◌∙◌, arith}
use Rattle.std.proofs.lemmas.Bool.{false≢true, true≢false, and_parts, false_from_ne_true}
use Rattle.std.proofs.lemmas.Bool.Decides.{nat_tests}
use Rattle.std.specs.Prelude.{if◌then◌else◌}
use Rattle.pc_types.specs.Tree.{Tree, Trees, Any, Object, Never, Int, Bool, Class, TupleOf, Union}
use Rattle.pc_types.specs.Below.{Bases, Below, AreSmaller}
use Rattle.pc_types.specs.Shape.{members, ahead, union}
use Rattle.pc_types.specs.Normal.{member_rank, IsRankBefore, IsMember, IsNormal, IsOfMembers, IsApart, IsReduced}
use Rattle.pc_types.specs.Join.{reaches, absorbs}
use Rattle.pc_types.proofs.Descent.{reaches_below, below_reaches}
use Rattle.pc_types.proofs.Together.{Behind, AllBehind, after_behind, member_place, listed_rest}
use Rattle.pc_types.proofs.JoinNormal.{InOrder}

-- neither absorbs the other
abbrev pub Incomparable : Bases → Tree → Tree → Type 0
Incomparable bases m n = (absorbs bases m n ≡ false) × (absorbs bases n m ≡ false)

-- a member and each of several others
abbrev pub IncomparableToEach : Bases → Tree → List Tree → Type 0
IncomparableToEach bases x [] = Unit {0}
IncomparableToEach bases x (n ∷ ns) = Incomparable bases x n × IncomparableToEach bases x ns

-- a type in normal form without absorbed members
abbrev pub IsNormalReduced : Bases → Tree → Type 0
IsNormalReduced bases t = IsNormal t × IsReduced bases t

-- members each of which is so, and none of which absorbs another one
abbrev pub ArePairwiseIncomparable : Bases → List Tree → Type 0
ArePairwiseIncomparable bases [] = Unit {0}
ArePairwiseIncomparable bases (m ∷ ms) = IsNormalReduced bases m
    × (IncomparableToEach bases m ms × ArePairwiseIncomparable bases ms)

not_below : (bases : Bases) (c d : ℕ) → (Below bases (Class c) (Class d) → ⊥) → absorbs bases (Class d) (Class c)
    ≡ false
not_below bases c d n = false_from_ne_true _
    (λ e. n (reaches_below bases c c d (and_parts (not (c == d)) (reaches bases c c d) e).1))

-- a type that no member absorbs: neither bool nor a class
abbrev IsNeverAbsorbed : Tree → Type 0
IsNeverAbsorbed Bool = ⊥
IsNeverAbsorbed (Class c) = ⊥
IsNeverAbsorbed _ = Unit {0}

no_absorb : (bases : Bases) (m n : Tree) → IsNeverAbsorbed n → absorbs bases m n ≡ false
no_absorb bases Int Bool h = absurd h
no_absorb bases (Class d) (Class c) h = absurd h
no_absorb bases _ _ h = refl

apart_incomparable : (bases : Bases) (a b : Tree) → IsRankBefore (member_rank a) (member_rank b) → IsApart bases a b
    → Incomparable bases a b
apart_incomparable bases Int Bool h k = absurd k
apart_incomparable bases Bool Int h k = absurd (grind arith)
apart_incomparable bases (Class c) (Class d) h k = (not_below bases d c k.1, not_below bases c d k.0)
apart_incomparable bases Int _ h k = (refl, refl)
apart_incomparable bases Bool _ h k = (refl, refl)
apart_incomparable bases (Class c) _ h k = (refl, refl)
apart_incomparable bases a b h k = (refl, no_absorb bases b a tt)

absorbs_below : (bases : Bases) (c d : ℕ) → AreSmaller bases → (c ≡ d → ⊥) → absorbs bases (Class d) (Class c) ≡ false
    → Below bases (Class c) (Class d) → ⊥
absorbs_below bases c d o n e h =
    let f : (c == d) ≡ false = grind (arith, nat_tests) in
    false≢true (sym e ∙ ap (λ x. not x && reaches bases c c d) f ∙ below_reaches o h)

places_differ : (c d : ℕ) → IsRankBefore (8, c) (8, d) → c ≡ d → ⊥
places_differ c d h e = grind arith

pub incomparable_apart : (bases : Bases) (a b : Tree) → AreSmaller bases → IsMember b
    → IsRankBefore (member_rank a) (member_rank b) → Incomparable bases a b → IsApart bases a b
incomparable_apart bases a (Union c d) o m h k = absurd m
incomparable_apart bases Int Bool o m h k = absurd (true≢false k.0)
incomparable_apart bases (Class c) (Class d) o m h k = (
  absorbs_below bases c d o (places_differ c d h) k.1,
  absorbs_below bases d c o (λ e. places_differ c d h (sym e))
      k.0,
)
incomparable_apart bases _ _ o m h k = tt

-- no tuple is absorbed, and none absorbs
pub incomparable_to_tuple : (bases : Bases) (x : Tree) (ts : Trees) → Incomparable bases x (TupleOf ts)
incomparable_to_tuple bases Int ts = (refl, refl)
incomparable_to_tuple bases (Class c) ts = (refl, refl)
incomparable_to_tuple bases _ ts = (refl, refl)

-- from a type to its members
apart_from_members : (bases : Bases) (m t : Tree) → IsOfMembers t → Behind m t → IsApart bases m t
    → IncomparableToEach bases m (members t)
apart_from_members bases m (Union c d) n h k = (
  apart_incomparable bases m c (member_place m c n.0 h.0) k.0,
  apart_from_members bases m d (listed_rest c d n.2 n.3)
      h.1 k.1,
)
apart_from_members bases m Never n h k = tt
apart_from_members bases m Any n h k = absurd n
apart_from_members bases m Object n h k = absurd n
apart_from_members bases m (TupleOf ts) n h k = (apart_incomparable bases m (TupleOf ts) h.1 k, tt)
apart_from_members bases m t n h k = (apart_incomparable bases m t h.1 k, tt)

pub members_incomparable : (bases : Bases) (t : Tree) → IsOfMembers t → IsReduced bases t
    → ArePairwiseIncomparable bases (members t)
members_incomparable bases (Union c d) n r =
    let l = listed_rest c d n.2 n.3 in
    ((n.1, r.0), (apart_from_members bases c d l (after_behind c d n.3) r.2, members_incomparable bases d l r.1))
members_incomparable bases Never n r = tt
members_incomparable bases Any n r = absurd n
members_incomparable bases Object n r = absurd n
members_incomparable bases t n r = ((n, r), (tt, tt))

-- and back
apart_never : (bases : Bases) (m : Tree) → IsApart bases m Never
apart_never bases Int = tt
apart_never bases (Class c) = tt
apart_never bases _ = tt

ahead_apart : (bases : Bases) (m n t : Tree) → IsApart bases m n → IsApart bases m t → IsApart bases m (ahead n t)
ahead_apart bases m n Never h k = h
ahead_apart bases m n _ h k = (h, k)

union_apart : (bases : Bases) (m : Tree) (l : List Tree) → AreSmaller bases → InOrder l → AllBehind m l
    → IncomparableToEach bases m l → IsApart bases m (union l)
union_apart bases m [] s o b f = apart_never bases m
union_apart bases m (n ∷ ns) s o b f = ahead_apart bases m n (union ns) (incomparable_apart bases m n s o.0 b.0 f.0)
    (union_apart bases m ns s o.1.1.1 b.1 f.1)

ahead_reduced : (bases : Bases) (m t : Tree) → IsReduced bases m → IsReduced bases t → IsApart bases m t
    → IsReduced bases (ahead m t)
ahead_reduced bases m Never r q a = r
ahead_reduced bases m _ r q a = (r, q, a)

pub union_reduced : (bases : Bases) (l : List Tree) → AreSmaller bases → InOrder l → ArePairwiseIncomparable bases l
    → IsReduced bases (union l)
union_reduced bases [] s o f = tt
union_reduced bases (m ∷ ms) s o f =
    ahead_reduced bases m (union ms) f.0.1 (union_reduced bases ms s o.1.1.1 f.1.1)
    (union_apart bases m ms s o.1.1.1 o.1.1.0 f.1.0)

-- some of the members are as free as all
kept_incomparable_to : (bases : Bases) (x n : Tree) (y : Test) (ns : List Tree) → Incomparable bases x n
    → IncomparableToEach bases x ns → IncomparableToEach bases x (if y then n ∷ ns else ns)
kept_incomparable_to bases x n true ns h k = (h, k)
kept_incomparable_to bases x n false ns h k = k

pub filter_incomparable_to : (bases : Bases) (p : Tree → Test) (x : Tree) (l : List Tree) → IncomparableToEach bases x l
    → IncomparableToEach bases x (filter p l)
filter_incomparable_to bases p x [] h = tt
filter_incomparable_to bases p x (n ∷ ns) h = kept_incomparable_to bases x n (p n) (filter p ns) h.0
    (filter_incomparable_to bases p x ns h.1)

kept_incomparable : (bases : Bases) (m : Tree) (y : Test) (ms : List Tree) → IsNormalReduced bases m
    → IncomparableToEach bases m ms → ArePairwiseIncomparable bases ms
    → ArePairwiseIncomparable bases (if y then m ∷ ms else ms)
kept_incomparable bases m true ms w f a = (w, (f, a))
kept_incomparable bases m false ms w f a = a

pub filter_incomparable : (bases : Bases) (p : Tree → Test) (l : List Tree) → ArePairwiseIncomparable bases l
    → ArePairwiseIncomparable bases (filter p l)
filter_incomparable bases p [] a = tt
filter_incomparable bases p (m ∷ ms) a = kept_incomparable bases m (p m) (filter p ms) a.0
    (filter_incomparable_to bases p m ms a.1.0) (filter_incomparable bases p ms a.1.1)
