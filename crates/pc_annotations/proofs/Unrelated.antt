-- Many heads make a union if and only if those that are not classes do, no class occurs twice, and none has another one
-- as an ancestor.
use Rattle.std.proofs.Common.{◌≡◌, ◌≢◌, ◌<◌, ◌≤◌, ◌==◌, ◌&&◌, ◌⊎◌, ◌↔◌, inl, inr, not, ℕ, Bool as Test, true, false}
use Rattle.std.proofs.Common.{IsTrue, List, [], ◌∷◌, length, Option, Some, None, get_or, set, replicate, refl, sym, ap}
use Rattle.std.proofs.Common.{◌∙◌, subst, arith, ⊎_elim, nat_lt, cond}
use Rattle.std.specs.Prelude.{if◌then◌else◌}
use Rattle.std.specs.Option.{option_and_then, is_none}
use Rattle.std.specs.List.{list_all}
use Rattle.std.proofs.lemmas.Bool.{false≢true, and_parts, cases_eq, ltb-true, lt-ltb, cases_lt}
use Rattle.std.proofs.lemmas.Bool.Decides.{nat_tests}
use Rattle.std.proofs.lemmas.List.{get_or-set_same, get_or-set_other, get_or-replicate, get_or_past, length-set}
use Rattle.std.proofs.lemmas.List.{length-replicate}
use Rattle.pc_types.specs.Below.{Bases, AreSmaller}
use Rattle.pc_types.specs.Join.{reaches}
use Rattle.pc_types.proofs.Ancestors.{reaches_down, reaches_root}
use Rattle.pc_types.specs.declared.head.Head.{Head}
use Rattle.pc_types.specs.declared.head.Head.TheVariants as heads
use Rattle.pc_annotations.specs.Internal.TypesRead.{is_member_head, heads_apart, heads_make_union}
use Rattle.pc_annotations.specs.Internal.Marks.{class_among_first, other_heads, with_mark, with_marks, AreUnrelated}

both : (x y : Test) → x ≡ true → y ≡ true → (x && y) ≡ true
both x y p q = ap (λ b. b && y) p ∙ q

not_true : (x : Test) → (x ≡ true → ⊥) → x ≡ false
not_true true f = absurd (f refl)
not_true false f = refl

same_number : (c d : ℕ) → c ≡ d → (c == d) ≡ true
same_number c d e = grind (arith, nat_tests)

other_number : (c d : ℕ) → c ≢ d → (c == d) ≡ false
other_number c d n = grind (arith, nat_tests)

-- ---- two classes

apart_tests : (e f r s : Test) → e ≡ false → r ≡ false → s ≡ false
    → (not e && (not (not f && r) && not (not e && s))) ≡ true
apart_tests e f r s p q t = rw (p, q, t) (one f)
  where
    one : (f : Test) → (not false && (not (not f && false) && not (not false && false))) ≡ true
    one true = refl
    one false = refl

apart_classes : (bases : Bases) (c d : ℕ) → c ≢ d → (reaches bases c c d ≡ true → ⊥) → (reaches bases d d c ≡ true → ⊥)
    → heads_apart bases (heads.Class c) (heads.Class d) ≡ true
apart_classes bases c d n f g =
    apart_tests (c == d) (d == c) (reaches bases d d c) (reaches bases c c d) (other_number c d n)
    (not_true (reaches bases d d c) g) (not_true (reaches bases c c d) f)

-- two classes are apart: they differ, and none is below the other
record AreApart (bases : Bases) (c d : ℕ) : Type 0 where
  differ : c ≢ d
  first : reaches bases c c d ≡ true → ⊥
  second : reaches bases d d c ≡ true → ⊥

from_tests : (e f r s : Test) → (not e && (not (not f && r) && not (not e && s))) ≡ true → f ≡ e
    → (e ≡ false) × (r ≡ false) × (s ≡ false)
from_tests true f r s h q = absurd (false≢true h)
from_tests false true r s h q = absurd (false≢true (sym q))
from_tests false false true s h q = absurd (false≢true h)
from_tests false false false true h q = absurd (false≢true h)
from_tests false false false false h q = (refl, refl, refl)

are_apart : (bases : Bases) (c d : ℕ) → heads_apart bases (heads.Class c) (heads.Class d) ≡ true → AreApart bases c d
are_apart bases c d h =
    let q : (d == c) ≡ (c == d) = grind (arith, nat_tests) in
    let t = from_tests (c == d) (d == c) (reaches bases d d c) (reaches bases c c d) h q in
    record {
      differ = λ e. false≢true (sym t.0 ∙ same_number c d e);
      first = λ r. false≢true (sym t.2 ∙ r);
      second = λ r. false≢true (sym t.1 ∙ r);
    }

-- ---- heads that are no classes below a number

if_some : (b : Test) (c d : ℕ) → (if b then Some c else None) ≡ Some d → (b ≡ true) × (c ≡ d)
if_some true c d e = (refl, cc)
if_some false c d e = absurd (cc)

if_none : (b : Test) (c : ℕ) → (if b then Some c else None) ≡ None → b ≡ false
if_none true c e = absurd (cc)
if_none false c e = refl

class_of : (n c : ℕ) (h : Head) → class_among_first n h ≡ Some c → (h ≡ heads.Class c) × (c < n)
class_of n c (heads.Class d) e = let p = if_some (nat_lt d n) d c e in
    (ap heads.Class p.1, subst (λ x. x < n) p.1 (ltb-true d n p.0))
class_of n c _ e = absurd (cc)

module _ (bases : Bases) (o : AreSmaller bases) (n : ℕ) (count : length bases ≡ n) where
  past : (c d : ℕ) → c < n → n ≤ d → heads_apart bases (heads.Class c) (heads.Class d) ≡ true
  past c d l k =
      let none = get_or_past bases d None (omega arith) in
      apart_classes bases c d (λ q. omega (arith, l, k, q))
      (λ r. let z = reaches_down bases o d c c r in omega (arith, l, k, z))
      (λ r. false≢true (sym (reaches_root bases d c none (λ q. omega (arith, l, k, q))) ∙ r))

  past_too : (c d : ℕ) → c < n → n ≤ d → heads_apart bases (heads.Class d) (heads.Class c) ≡ true
  past_too c d l k =
      let none = get_or_past bases d None (omega arith) in
      apart_classes bases d c (λ q. omega (arith, l, k, q))
      (λ r. false≢true (sym (reaches_root bases d c none (λ q. omega (arith, l, k, q))) ∙ r))
      (λ r. let z = reaches_down bases o d c c r in omega (arith, l, k, z))

  not_below : (d : ℕ) → nat_lt d n ≡ false → n ≤ d
  not_below d e = grind (arith, nat_tests)

  apart_other : (h : Head) (c : ℕ) → class_among_first n h ≡ None → c < n → heads_apart bases (heads.Class c) h ≡ true
  apart_other (heads.Class d) c e l = past c d l (not_below d (if_none (nat_lt d n) d e))
  apart_other _ c e l = refl

  other_apart : (h : Head) (c : ℕ) → class_among_first n h ≡ None → c < n → heads_apart bases h (heads.Class c) ≡ true
  other_apart (heads.Class d) c e l = past_too c d l (not_below d (if_none (nat_lt d n) d e))
  other_apart _ c e l = refl

-- ---- marking

-- the classes of heads are marked, none twice
data Marking (n : ℕ) : List Test → List Head → List Test → Type 0 where
  done : {m : List Test} → Marking n m [] m
  other : {h : Head} {m t : List Test} {hs : List Head} → class_among_first n h ≡ None → Marking n m hs t
      → Marking n m (h ∷ hs) t
  class : {c : ℕ} {m t : List Test} {hs : List Head} → c < n → get_or m c false ≡ false
      → Marking n (set m c true) hs t → Marking n m (heads.Class c ∷ hs) t

marking : (n : ℕ) (m : List Test) (hs : List Head) (t : List Test) → with_marks n m hs ≡ Some t → Marking n m hs t
marking n m [] t e = let q : m ≡ t = cc in subst (λ x. Marking n m [] x) q done
marking n m (h ∷ hs) t e = by_class (λ x. marking n x hs t) (class_among_first n h) refl e
  where
    unmarked : ((x : List Test) → with_marks n x hs ≡ Some t → Marking n x hs t) → (c : ℕ) → class_among_first n h ≡ Some c
        → (b : Test) → get_or m c false ≡ b
        → option_and_then (λ x. with_marks n x hs) (if b then None else Some (set m c true)) ≡ Some t
        → Marking n m (h ∷ hs) t
    unmarked go c q true p e = absurd (cc)
    unmarked go c q false p e =
        let k = class_of n c h q in
        subst (λ x. Marking n m (x ∷ hs) t) (sym k.0) (class k.1 p (go (set m c true) e))

    by_class : ((x : List Test) → with_marks n x hs ≡ Some t → Marking n x hs t) → (o : Option ℕ) → class_among_first n h ≡ o
        → option_and_then (λ x. with_marks n x hs) (with_mark m o) ≡ Some t → Marking n m (h ∷ hs) t
    by_class go None q e = other q (go m e)
    by_class go (Some c) q e = unmarked go c q (get_or m c false) refl e

-- a mark stays when another one is set
stays : (m : List Test) (c d : ℕ) → d < length m → get_or m c false ≡ true → get_or (set m d true) c false ≡ true
stays m c d l t = ⊎_elim (λ q. ap (get_or (set m d true) c) refl ∙ subst (λ x. get_or (set m d true) x false ≡ true)
    (sym q) (get_or-set_same m d true false l)) (λ k. get_or-set_other m d c true false k ∙ t) (cases_eq c d)

kept : {n : ℕ} {m t : List Test} {hs : List Head} → Marking n m hs t → length m ≡ n → (c : ℕ)
    → get_or m c false ≡ true → get_or t c false ≡ true
kept done l c e = e
kept (other q r) l c e = kept r l c e
kept {m = m} (class {c = d} k f r) l c e =
    kept r (length-set m d true ∙ l) c (stays m c d (omega arith) e)

-- a class is among heads
abbrev Among : ℕ → List Head → Type 0
Among c [] = ⊥
Among c (h ∷ hs) = (h ≡ heads.Class c) ⊎ Among c hs

-- a class marked at the end was marked at the start, or is among the heads
listed : {n : ℕ} {m t : List Test} {hs : List Head} → Marking n m hs t → length m ≡ n → (c : ℕ)
    → get_or t c false ≡ true → (get_or m c false ≡ true) ⊎ Among c hs
listed done l c e = inl e
listed (other q r) l c e = ⊎_elim (λ x. inl x) (λ a. inr (inr a)) (listed r l c e)
listed {m = m} (class {c = d} k f r) l c e =
    ⊎_elim (λ x. ⊎_elim (λ q. inr (inl (ap heads.Class (sym q))))
    (λ z. inl (sym (get_or-set_other m d c true false z) ∙ x)) (cases_eq c d))
    (λ a. inr (inr a)) (listed r (length-set m d true ∙ l) c e)

-- ---- marked classes that are unrelated are apart

module _ (bases : Bases) (o : AreSmaller bases) (n : ℕ) (count : length bases ≡ n) where
  apart_all : {m t : List Test} {hs : List Head} → Marking n m hs t → length m ≡ n → AreUnrelated bases t → (c : ℕ)
      → c < n → get_or m c false ≡ true → list_all (heads_apart bases (heads.Class c)) hs ≡ true
  apart_all done l u c j e = refl
  apart_all (other {h = h} {hs = hs} q r) l u c j e =
      both (heads_apart bases (heads.Class c) h) (list_all (heads_apart bases (heads.Class c)) hs)
      (apart_other bases o n count h c q j) (apart_all r l u c j e)
  apart_all {m = m} (class {c = d} {hs = hs} k f r) l u c j e =
      let v = length-set m d true ∙ l in
      let x = kept r v c (stays m c d (omega arith) e) in
      let y = kept r v d (get_or-set_same m d true false (omega arith)) in
      let z = λ (q : c ≡ d). false≢true (sym f ∙ ap (λ i. get_or m i false) (sym q) ∙ e) in
      both (heads_apart bases (heads.Class c) (heads.Class d)) (list_all (heads_apart bases (heads.Class c)) hs)
      (apart_classes bases c d z (λ w. z (u c d x y w)) (λ w. z (sym (u d c y x w))))
      (apart_all r v u c j (stays m c d (omega arith) e))

  -- a head that is apart from the others is apart from the classes too
  all_other : (h : Head) → class_among_first n h ≡ None → (hs : List Head)
      → list_all (heads_apart bases h) (other_heads n hs) ≡ true → list_all (heads_apart bases h) hs ≡ true
  all_other h q [] e = refl
  all_other h q (k ∷ hs) e = by_class (all_other h q hs) (class_among_first n k) refl e
    where
      by_class : (list_all (heads_apart bases h) (other_heads n hs) ≡ true → list_all (heads_apart bases h) hs ≡ true)
          → (p : Option ℕ) → class_among_first n k ≡ p
          → list_all (heads_apart bases h) (cond (is_none p) (k ∷ other_heads n hs) (other_heads n hs)) ≡ true
          → (heads_apart bases h k && list_all (heads_apart bases h) hs) ≡ true
      by_class go None p e =
          let z = and_parts (heads_apart bases h k) (list_all (heads_apart bases h) (other_heads n hs)) e in
          both (heads_apart bases h k) (list_all (heads_apart bases h) hs) z.0 (go z.1)
      by_class go (Some c) p e = let z = class_of n c k p in
          both (heads_apart bases h k) (list_all (heads_apart bases h) hs)
          (subst (λ x. heads_apart bases h x ≡ true) (sym z.0) (other_apart bases o n count h c q z.1))
          (go e)

  unites : {m t : List Test} {hs : List Head} → Marking n m hs t → length m ≡ n → AreUnrelated bases t
      → heads_make_union bases (other_heads n hs) ≡ true → heads_make_union bases hs ≡ true
  unites done l u e = refl
  unites (other {h = h} {hs = hs} q r) l u e =
      let f : (is_member_head h && (list_all (heads_apart bases h) (other_heads n hs)
      && heads_make_union bases (other_heads n hs))) ≡ true =
      subst (λ x. heads_make_union bases (cond (is_none x) (h ∷ other_heads n hs) (other_heads n hs)) ≡ true) q e in
      let x = and_parts (is_member_head h) (list_all (heads_apart bases h) (other_heads n hs)
      && heads_make_union bases (other_heads n hs)) f in
      let y = and_parts (list_all (heads_apart bases h) (other_heads n hs))
      (heads_make_union bases (other_heads n hs)) x.1 in
      both (is_member_head h) (list_all (heads_apart bases h) hs && heads_make_union bases hs) x.0
      (both (list_all (heads_apart bases h) hs) (heads_make_union bases hs) (all_other h q hs y.0) (unites r l u y.1))
  unites {m = m} (class {c = c} {hs = hs} k f r) l u e =
      let v = length-set m c true ∙ l in
      let g : heads_make_union bases (other_heads n hs) ≡ true =
      subst (λ b. heads_make_union bases (cond (is_none (if b then Some c else None))
      (heads.Class c ∷ other_heads n hs) (other_heads n hs)) ≡ true) (lt-ltb c n k) e in
      both (list_all (heads_apart bases (heads.Class c)) hs) (heads_make_union bases hs)
      (apart_all r v u c k (get_or-set_same m c true false (omega arith))) (unites r v u g)

-- ---- classes that are apart are unrelated, and none is there twice

all_at : (p : Head → Test) (c : ℕ) (hs : List Head) → list_all p hs ≡ true → Among c hs → p (heads.Class c) ≡ true
all_at p c [] e a = absurd a
all_at p c (h ∷ hs) e a = let z = and_parts (p h) (list_all p hs) e in
    ⊎_elim (λ q. subst (λ x. p x ≡ true) q z.0) (λ b. all_at p c hs z.1 b) a

-- the first member of a union is a member type, and apart from all others
record IsFirst (bases : Bases) (h : Head) (hs : List Head) : Type 0 where
  member : is_member_head h ≡ true
  apart : list_all (heads_apart bases h) hs ≡ true
  rest : heads_make_union bases hs ≡ true

is_first : (bases : Bases) (h : Head) (hs : List Head) → heads_make_union bases (h ∷ hs) ≡ true → IsFirst bases h hs
is_first bases h hs e =
    let x = and_parts (is_member_head h) (list_all (heads_apart bases h) hs && heads_make_union bases hs) e in
    let y = and_parts (list_all (heads_apart bases h) hs) (heads_make_union bases hs) x.1 in
    record { member = x.0; apart = y.0; rest = y.1 }

apart_after : (bases : Bases) (c d : ℕ) (h : Head) (hs : List Head) → IsFirst bases h hs → h ≡ heads.Class c
    → Among d hs → AreApart bases c d
apart_after bases c d h hs f p a = are_apart bases c d
    (subst (λ x. heads_apart bases x (heads.Class d) ≡ true) p (all_at (heads_apart bases h) d hs f.apart a))

no_ancestor : (bases : Bases) (c d : ℕ) → c ≢ d → reaches bases c c d ≡ true → (hs : List Head)
    → heads_make_union bases hs ≡ true → Among c hs → Among d hs → ⊥
no_ancestor bases c d n r [] u a b = a
no_ancestor bases c d n r (h ∷ hs) u a b =
    let f = is_first bases h hs u in
    ⊎_elim (λ p. ⊎_elim (λ q. let s : c ≡ d = cc in n s)
    (λ y. (apart_after bases c d h hs f p y).first r) b)
    (λ x. ⊎_elim (λ q. (apart_after bases d c h hs f q x).second r)
    (λ y. no_ancestor bases c d n r hs f.rest x y) b) a

-- a class among heads that is marked before
record IsMarked (m : List Test) (hs : List Head) : Type 0 where
  number : ℕ
  marked : get_or m number false ≡ true
  among : Among number hs

-- where the marking of heads ends at one marked before, that one was so at the start, or the heads make no union
abbrev EndsThere : Bases → ℕ → List Head → Type 0
EndsThere bases n hs = (m : List Test) → length m ≡ n → with_marks n m hs ≡ None
    → IsMarked m hs ⊎ (heads_make_union bases hs ≡ true → ⊥)

twice : (bases : Bases) (n : ℕ) (m : List Test) (hs : List Head) → length m ≡ n → with_marks n m hs ≡ None
    → IsMarked m hs ⊎ (heads_make_union bases hs ≡ true → ⊥)
twice bases n m [] l e = absurd (cc)
twice bases n m (h ∷ hs) l e = by_class (λ x k. twice bases n x hs k) (class_among_first n h) refl e
  where
    later : IsMarked m hs ⊎ (heads_make_union bases hs ≡ true → ⊥)
        → IsMarked m (h ∷ hs) ⊎ (heads_make_union bases (h ∷ hs) ≡ true → ⊥)
    later s = ⊎_elim
        (λ (x : IsMarked m hs). inl (record { number = x.number; marked = x.marked; among = inr x.among }))
        (λ f. inr (λ u. f (is_first bases h hs u).rest)) s

    one_more : (c : ℕ) → h ≡ heads.Class c → IsMarked (set m c true) hs
        → IsMarked m (h ∷ hs) ⊎ (heads_make_union bases (h ∷ hs) ≡ true → ⊥)
    one_more c p x = ⊎_elim
        (λ q. inr (λ u. (apart_after bases c x.number h hs (is_first bases h hs u) p x.among).differ (sym q)))
        (λ k. inl (record {
          number = x.number;
          marked = sym (get_or-set_other m c x.number true false k) ∙ x.marked;
          among = inr x.among;
        })) (cases_eq x.number c)

    unmarked : EndsThere bases n hs → (c : ℕ) → class_among_first n h ≡ Some c → (b : Test) → get_or m c false ≡ b
        → option_and_then (λ x. with_marks n x hs) (if b then None else Some (set m c true)) ≡ None
        → IsMarked m (h ∷ hs) ⊎ (heads_make_union bases (h ∷ hs) ≡ true → ⊥)
    unmarked go c q true p e = inl (record { number = c; marked = p; among = inl (class_of n c h q).0 })
    unmarked go c q false p e = ⊎_elim (λ x. one_more c (class_of n c h q).0 x)
        (λ f. inr (λ u. f (is_first bases h hs u).rest)) (go (set m c true) (length-set m c true ∙ l) e)

    by_class : EndsThere bases n hs → (o : Option ℕ) → class_among_first n h ≡ o
        → option_and_then (λ x. with_marks n x hs) (with_mark m o) ≡ None
        → IsMarked m (h ∷ hs) ⊎ (heads_make_union bases (h ∷ hs) ≡ true → ⊥)
    by_class go None q e = later (go m l e)
    by_class go (Some c) q e = unmarked go c q (get_or m c false) refl e

-- fewer members make a union too
fewer_all : (p : Head → Test) (n : ℕ) (hs : List Head) → list_all p hs ≡ true → list_all p (other_heads n hs) ≡ true
fewer_all p n [] e = refl
fewer_all p n (h ∷ hs) e = let z = and_parts (p h) (list_all p hs) e in
    with_or_without z.0 (fewer_all p n hs z.1) (is_none (class_among_first n h))
  where
    with_or_without : p h ≡ true → list_all p (other_heads n hs) ≡ true → (b : Test)
        → list_all p (cond b (h ∷ other_heads n hs) (other_heads n hs)) ≡ true
    with_or_without x y true = both (p h) (list_all p (other_heads n hs)) x y
    with_or_without x y false = y

fewer : (bases : Bases) (n : ℕ) (hs : List Head) → heads_make_union bases hs ≡ true
    → heads_make_union bases (other_heads n hs) ≡ true
fewer bases n [] e = refl
fewer bases n (h ∷ hs) e = let f = is_first bases h hs e in
    with_or_without f (fewer bases n hs f.rest) (is_none (class_among_first n h))
  where
    with_or_without : IsFirst bases h hs → heads_make_union bases (other_heads n hs) ≡ true → (b : Test)
        → heads_make_union bases (cond b (h ∷ other_heads n hs) (other_heads n hs)) ≡ true
    with_or_without f u true =
        both (is_member_head h) (list_all (heads_apart bases h) (other_heads n hs)
        && heads_make_union bases (other_heads n hs)) f.member
        (both (list_all (heads_apart bases h) (other_heads n hs)) (heads_make_union bases (other_heads n hs))
        (fewer_all (heads_apart bases h) n hs f.apart) u)
    with_or_without f u false = u

-- ---- the answer on unrelated classes

none_marked : (n c : ℕ) → get_or (replicate n false) c false ≡ false
none_marked n c = ⊎_elim (λ l. get_or-replicate n c false false l)
    (λ l. get_or_past (replicate n false) c false (omega (arith, l, length-replicate n false))) (cases_lt c n)

pub marks_from_none : (n : ℕ) (m : List Test) (hs : List Head) → m ≡ replicate n false
    → with_marks n (replicate n false) hs ≡ with_marks (length m) m hs
marks_from_none n m hs e =
    ap (λ k. with_marks k (replicate n false) hs) (sym (length-replicate n false))
    ∙ ap (λ l. with_marks (length l) l hs) (sym e)

module _ (bases : Bases) (n : ℕ) (hs : List Head) where
  pub others_make_none : false ≡ heads_make_union bases (other_heads n hs) → false ≡ heads_make_union bases hs
  others_make_none e = sym (not_true (heads_make_union bases hs) (λ u. false≢true (e ∙ fewer bases n hs u)))

  pub one_is_twice : with_marks n (replicate n false) hs ≡ None → false ≡ heads_make_union bases hs
  one_is_twice e = sym (not_true (heads_make_union bases hs)
      (λ u. ⊎_elim (λ x. false≢true (sym (none_marked n x.number) ∙ x.marked)) (λ f. f u)
      (twice bases n (replicate n false) hs (length-replicate n false) e)))

  related : (t : List Test) → with_marks n (replicate n false) hs ≡ Some t → heads_make_union bases hs ≡ true
      → AreUnrelated bases t
  related t e u c d x y r = ⊎_elim (λ q. q) (λ k. absurd (no_ancestor bases c d k r hs u (among c x) (among d y)))
      (cases_eq c d)
    where
      among : (c : ℕ) → get_or t c false ≡ true → Among c hs
      among c x = ⊎_elim (λ z. absurd (false≢true (sym (none_marked n c) ∙ z))) (λ a. a)
          (listed (marking n (replicate n false) hs t e) (length-replicate n false) c x)

  pub whether_unrelated : AreSmaller bases → length bases ≡ n → (t : List Test) (b : Test)
      → with_marks n (replicate n false) hs ≡ Some t → IsTrue b ↔ AreUnrelated bases t
      → true ≡ heads_make_union bases (other_heads n hs) → b ≡ heads_make_union bases hs
  whether_unrelated o count t true e h u =
      sym (unites bases o n count (marking n (replicate n false) hs t e) (length-replicate n false) (h.0 refl) (sym u))
  whether_unrelated o count t false e h u =
      sym (not_true (heads_make_union bases hs) (λ v. false≢true (h.1 (related t e v))))
