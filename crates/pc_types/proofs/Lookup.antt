-- The member of a type at a place, which is unique in normal form.
use Rattle.std.proofs.Common.{◌≡◌, ◌⊎◌, ◌&&◌, ℕ, Bool as Test, true, false, cond, nat_eq, Option, Some, None, inl, inr}
use Rattle.std.proofs.Common.{refl, ap, ◌∙◌, arith, ⊎_elim}
use Rattle.std.proofs.lemmas.Bool.Decides.{nat_tests}
use Rattle.pc_types.specs.Tree.{Tree, Any, Object, Never, Class, ListOf, DictOf, TupleOf, Union}
use Rattle.pc_types.specs.Shape.{count}
use Rattle.pc_types.specs.Normal.{member_rank, IsRankBefore, IsMember, IsAfter, IsNormal}

-- whether two places are one
abbrev pub same_place : ℕ × ℕ → ℕ × ℕ → Test
same_place p q = nat_eq p.0 q.0 && nat_eq p.1 q.1

abbrev pub first : Option Tree → Option Tree → Option Tree
first None o = o
first (Some t) o = Some t

-- the member at this place
abbrev pub find : ℕ × ℕ → Tree → Option Tree
find p (Union a b) = first (find p a) (find p b)
find p t = cond (same_place p (member_rank t)) (Some t) None

pub same_itself : (p : ℕ × ℕ) → same_place p p ≡ true
same_itself p = grind (arith, nat_tests)

pub before_differs : (p q : ℕ × ℕ) → IsRankBefore p q → same_place q p ≡ false
before_differs p q h = grind (arith, nat_tests)

pub find_itself : (t : Tree) → IsMember t → find (member_rank t) t ≡ Some t
find_itself (TupleOf ts) m = ap (λ b. cond b (Some (TupleOf ts)) None) (same_itself (7, count ts))
find_itself (Class c) m = ap (λ b. cond b (Some (Class c)) None) (same_itself (8, c))
find_itself (Union a b) m = absurd m
find_itself Any m = absurd m
find_itself Object m = absurd m
find_itself Never m = absurd m
find_itself _ m = refl

pub find_other : (p : ℕ × ℕ) (t : Tree) → IsMember t → IsRankBefore (member_rank t) p → find p t ≡ None
find_other p (Union a b) m h = absurd m
find_other p Any m h = absurd m
find_other p t m h = ap (λ b. cond b (Some t) None) (before_differs (member_rank t) p h)

pub find_behind : (p : ℕ × ℕ) (a u : Tree) → IsMember a → IsRankBefore (member_rank a) p → find p (Union a u) ≡ find p u
find_behind p a u m h = ap (λ o. first o (find p u)) (find_other p a m h)

first_of : {m : Tree} (x y : Option Tree) → first x y ≡ Some m → (x ≡ Some m) ⊎ (y ≡ Some m)
first_of None y e = inr e
first_of (Some t) y e = inl e

there : {m : Tree} (t : Tree) (b : Test) → cond b (Some t) None ≡ Some m → b ≡ true
there t true e = refl
there t false e = cc

before_place : (p q r : ℕ × ℕ) → same_place p q ≡ true → IsRankBefore r q → IsRankBefore r p
before_place p q r e h = grind (arith, nat_tests)

-- a place found in a type that comes after a member comes after the place of that member
pub found_behind : {m : Tree} (p : ℕ × ℕ) (a t : Tree) → IsAfter a t → find p t ≡ Some m
    → IsRankBefore (member_rank a) p
found_behind p a (Union c d) h e = ⊎_elim (found_behind p a c h.0) (found_behind p a d h.1)
    (first_of (find p c) (find p d) e)
found_behind p a Any h e = absurd h.0
found_behind p a Object h e = absurd h.0
found_behind p a Never h e = absurd h.0
found_behind p a t h e = before_place p (member_rank t) (member_rank a) (there t (same_place p (member_rank t)) e) h.1

-- the second type has each list, dict and tuple member of the first at its place, and is Any if the first is
abbrev pub Agrees : Tree → Tree → Type 0
Agrees Any u = u ≡ Any
Agrees (ListOf t) u = find (5, 0) u ≡ Some (ListOf t)
Agrees (DictOf k v) u = find (6, 0) u ≡ Some (DictOf k v)
Agrees (TupleOf ts) u = find (7, count ts) u ≡ Some (TupleOf ts)
Agrees (Union a b) u = Agrees a u × Agrees b u
Agrees _ u = Unit {0}

agrees_behind : (a t u : Tree) → IsMember a → IsAfter a t → Agrees t u → Agrees t (Union a u)
agrees_behind a (ListOf t) u m h e = find_behind (5, 0) a u m h.1 ∙ e
agrees_behind a (DictOf k v) u m h e = find_behind (6, 0) a u m h.1 ∙ e
agrees_behind a (TupleOf ts) u m h e = find_behind (7, count ts) a u m h.1 ∙ e
agrees_behind a (Union c d) u m h e = (agrees_behind a c u m h.0 e.0, agrees_behind a d u m h.1 e.1)
agrees_behind a Any u m h e = absurd h.0
agrees_behind a _ u m h e = tt

agrees_before : (a u : Tree) → IsMember a → Agrees a (Union a u)
agrees_before (ListOf t) u m = refl
agrees_before (DictOf k v) u m = refl
agrees_before (TupleOf ts) u m = ap (λ o. first o (find (7, count ts) u)) (find_itself (TupleOf ts) tt)
agrees_before (Union c d) u m = absurd m
agrees_before Any u m = absurd m
agrees_before _ u m = tt

-- a normal type has each of its members at the place of its head
pub normal_agrees : (t : Tree) → IsNormal t → Agrees t t
normal_agrees Any n = refl
normal_agrees (ListOf t) n = refl
normal_agrees (DictOf k v) n = refl
normal_agrees (TupleOf ts) n = find_itself (TupleOf ts) tt
normal_agrees (Union a b) n = (agrees_before a b n.0, agrees_behind a b b n.0 n.3 (normal_agrees b n.2))
normal_agrees _ n = tt

abbrev pub IsNotAny : Tree → Type 0
IsNotAny Any = ⊥
IsNotAny _ = Unit {0}

pub any_or_not : (t : Tree) → (t ≡ Any) ⊎ IsNotAny t
any_or_not Any = inl refl
any_or_not _ = inr tt

pub member_not_any : (t : Tree) → IsMember t → IsNotAny t
member_not_any Any m = m
member_not_any _ m = tt

pub after_not_any : (a t : Tree) → IsAfter a t → IsNotAny t
after_not_any a Any m = m.0
after_not_any a _ m = tt
