-- The code decides that two types meet: in both directions at once, where lists and dicts need it.
use Rattle.std.proofs.Common.{◌≡◌, ◌⊎◌, ◌+◌, Bool as Test, true, false, Some, inl, inr, refl, sym, ap, ◌∙◌, subst}
use Rattle.std.proofs.Common.{⊎_elim}
use Rattle.pc_types.specs.Tree.{Tree, Trees, Any, Object, ListOf, DictOf, TupleOf, Union}
use Rattle.pc_types.specs.Below.{Bases}
use Rattle.pc_types.specs.Shape.{count}
use Rattle.pc_types.specs.Normal.{member_rank, IsRankBefore, IsMember, IsAfter, IsNormal, AreNormal}
use Rattle.pc_types.specs.Internal.HeadFlow.{Covers, c_from_any, c_to_any, c_never, c_object, c_int, c_bool, c_bool_int}
use Rattle.pc_types.specs.Internal.HeadFlow.{c_str, c_none, c_class, c_list, c_dict, c_tuple, c_both, c_left, c_right}
use Rattle.pc_types.specs.Internal.HeadFlow.{CoversBack}
use Rattle.pc_types.specs.Internal.HeadFlow.{HeadFlow, EachFlow, w_from_any, w_to_any, w_never, w_object, w_int, w_bool}
use Rattle.pc_types.specs.Internal.HeadFlow.{w_bool_int, w_str, w_none, w_class, w_list, w_dict, w_tuple, w_both}
use Rattle.pc_types.specs.Internal.HeadFlow.{w_left, w_right, w_end, w_more}
use Rattle.pc_types.proofs.Meets.{Meets, EachMeets, m_from_any, m_to_any, m_never, m_object, m_int, m_bool, m_bool_int}
use Rattle.pc_types.proofs.Meets.{m_str, m_none, m_class, m_list, m_dict, m_tuple, m_both, m_left, m_right, m_end}
use Rattle.pc_types.proofs.Meets.{m_more}
use Rattle.pc_types.proofs.Lookup.{find, first, find_itself, find_behind, found_behind, Agrees, normal_agrees}
use Rattle.pc_types.proofs.Sound.{same_count}

-- neither Any nor object, which have no members
abbrev IsTarget : Tree → Type 0
IsTarget Any = ⊥
IsTarget Object = ⊥
IsTarget _ = Unit {0}

member_target : (t : Tree) → IsMember t → IsTarget t
member_target Any m = m
member_target Object m = m
member_target _ m = tt

after_target : (a t : Tree) → IsAfter a t → IsTarget t
after_target a Any m = m.0
after_target a Object m = m.0
after_target a _ m = tt

-- a tuple is found in neither
tuple_target : (ts : Trees) (t : Tree) → find (7, count ts) t ≡ Some (TupleOf ts) → IsTarget t
tuple_target ts Any e = cc
tuple_target ts Object e = cc
tuple_target ts _ e = tt

covers_of : {bases : Bases} {s t : Tree} → Meets bases s t → Covers bases s t
covers_of m_from_any = c_from_any
covers_of m_to_any = c_to_any
covers_of m_never = c_never
covers_of m_object = c_object
covers_of m_int = c_int
covers_of m_bool = c_bool
covers_of m_bool_int = c_bool_int
covers_of m_str = c_str
covers_of m_none = c_none
covers_of (m_class h) = c_class h
covers_of (m_list p q) = c_list
covers_of (m_dict p q r w) = c_dict
covers_of (m_tuple e) = c_tuple (same_count e)
covers_of (m_both p q) = c_both (covers_of p) (covers_of q)
covers_of (m_left p) = c_left (covers_of p)
covers_of (m_right p) = c_right (covers_of p)

meets_parts : {bases : Bases} {a b u : Tree} → Meets bases (Union a b) u → Meets bases a u × Meets bases b u
meets_parts m_to_any = (m_to_any, m_to_any)
meets_parts m_object = (m_object, m_object)
meets_parts (m_both p q) = (p, q)
meets_parts (m_left p) = let r = meets_parts p in (m_left r.0, m_left r.1)
meets_parts (m_right p) = let r = meets_parts p in (m_right r.0, m_right r.1)

-- the tuple that another one meets in a normal type
record Met (bases : Bases) (ts : Trees) (s : Tree) : Type 0 where
  parts : Trees
  stands : find (7, count ts) s ≡ Some (TupleOf parts)
  met : EachMeets bases ts parts
  behind : (a : Tree) → IsAfter a s → IsRankBefore (member_rank a) (7, count ts)

tuple_met : {bases : Bases} {ts : Trees} {s : Tree} → Meets bases (TupleOf ts) s → IsNormal s → IsTarget s
    → Met bases ts s
tuple_met m_to_any n t = absurd t
tuple_met m_object n t = absurd t
tuple_met (m_tuple {ss = ts} {ts = ss} e) n t =
    let c : count ss ≡ count ts = sym (same_count e) in
    record {
      parts = ss;
      stands = subst (λ k. find (7, k) (TupleOf ss) ≡ Some (TupleOf ss)) c (find_itself (TupleOf ss) tt);
      met = e;
      behind = λ a h. subst (λ k. IsRankBefore (member_rank a) (7, k)) c h.1;
    }
tuple_met {ts = ts} (m_left {a = a} {b = b} p) n t =
    let r = tuple_met p n.1 (member_target a n.0) in
    record {
      parts = r.parts;
      stands = ap (λ o. first o (find (7, count ts) b)) r.stands;
      met = r.met;
      behind = λ x h. r.behind x h.0;
    }
tuple_met {ts = ts} (m_right {a = a} {b = b} p) n t =
    let r = tuple_met p n.2 (after_target a b n.3) in
    record {
      parts = r.parts;
      stands = find_behind (7, count ts) a b n.0 (r.behind a n.3) ∙ r.stands;
      met = r.met;
      behind = λ x h. r.behind x h.1;
    }

-- two tuples that meet each other, one of them by way of the type in which the other stands
tuples_meet : {bases : Bases} {ss ts : Trees} (s : Tree) → count ss ≡ count ts → Meets bases (TupleOf ts) s → IsNormal s
    → find (7, count ss) s ≡ Some (TupleOf ss) → EachMeets bases ts ss
tuples_meet {bases} {ss} {ts} s c m n e =
    let r = tuple_met m n (tuple_target ss s e) in
    let f : find (7, count ts) s ≡ Some (TupleOf ss) = subst (λ k. find (7, k) s ≡ Some (TupleOf ss)) c e in
    let stands = r.stands in
    let q : r.parts ≡ ss = cc (stands, f) in
    subst (EachMeets bases ts) q r.met

-- a type that meets another, which meets a type that agrees with the first, flows both ways into the other
mutual
  both_of : {bases : Bases} {s t : Tree} → Meets bases s t → (s' : Tree) → Meets bases t s' → IsNormal s → IsNormal t
      → IsNormal s' → Agrees s s' → HeadFlow bases true s t
  both_of m_from_any s' m l n k a = w_from_any
  both_of m_to_any s' m l n k a = w_to_any
  both_of m_never s' m l n k a = w_never
  both_of m_object s' m l n k a = w_object
  both_of m_int s' m l n k a = w_int
  both_of m_bool s' m l n k a = w_bool
  both_of m_bool_int s' m l n k a = w_bool_int
  both_of m_str s' m l n k a = w_str
  both_of m_none s' m l n k a = w_none
  both_of (m_class h) s' m l n k a = w_class h
  both_of (m_list {s = x} p q) s' m l n k a = w_list (both_of p x q l n l (normal_agrees x l)) (covers_of q)
  both_of (m_dict {j = x} {v = y} p q r w) s' m l n k a =
      w_dict (both_of p x q l.1 n.1 l.1 (normal_agrees x l.1)) (covers_of q)
      (both_of r y w l.2 n.2 l.2 (normal_agrees y l.2)) (covers_of w)
  both_of (m_tuple e) s' m l n k a = w_tuple (each_both e (tuples_meet s' (same_count e) m k a) l n)
  both_of (m_both p q) s' m l n k a = w_both (both_of p s' m l.1 n k a.0) (both_of q s' m l.2 n k a.1)
  both_of (m_left p) s' m l n k a = w_left (both_of p s' (meets_parts m).0 l n.1 k a)
  both_of (m_right p) s' m l n k a = w_right (both_of p s' (meets_parts m).1 l n.2 k a)

  each_both : {bases : Bases} {ss ts : Trees} → EachMeets bases ss ts → EachMeets bases ts ss → AreNormal ss
      → AreNormal ts → EachFlow bases true ss ts
  each_both m_end q l n = w_end
  each_both (m_more {s = s} p ps) (m_more q qs) l n = w_more (both_of p s q l.0 n.0 l.0 (normal_agrees s l.0))
      (covers_of q) (each_both ps qs l.1 n.1)

agree_of : {bases : Bases} {s t : Tree} → Meets bases s t → Meets bases t s → IsNormal s → IsNormal t
    → HeadFlow bases true s t
agree_of {s = s} p q l n = both_of p s q l n l (normal_agrees s l)

mutual
  pub flow_of_meets : {bases : Bases} {s t : Tree} → Meets bases s t → IsNormal s → IsNormal t
      → HeadFlow bases false s t
  flow_of_meets m_from_any l n = w_from_any
  flow_of_meets m_to_any l n = w_to_any
  flow_of_meets m_never l n = w_never
  flow_of_meets m_object l n = w_object
  flow_of_meets m_int l n = w_int
  flow_of_meets m_bool l n = w_bool
  flow_of_meets m_bool_int l n = w_bool_int
  flow_of_meets m_str l n = w_str
  flow_of_meets m_none l n = w_none
  flow_of_meets (m_class h) l n = w_class h
  flow_of_meets (m_list p q) l n = w_list (agree_of p q l n) (covers_of q)
  flow_of_meets (m_dict p q r w) l n = w_dict (agree_of p q l.1 n.1) (covers_of q) (agree_of r w l.2 n.2) (covers_of w)
  flow_of_meets (m_tuple e) l n = w_tuple (each_flow_of_meets e l n)
  flow_of_meets (m_both p q) l n = w_both (flow_of_meets p l.1 n) (flow_of_meets q l.2 n)
  flow_of_meets (m_left p) l n = w_left (flow_of_meets p l n.1)
  flow_of_meets (m_right p) l n = w_right (flow_of_meets p l n.2)

  each_flow_of_meets : {bases : Bases} {ss ts : Trees} → EachMeets bases ss ts → AreNormal ss → AreNormal ts
      → EachFlow bases false ss ts
  each_flow_of_meets m_end l n = w_end
  each_flow_of_meets (m_more p ps) l n = w_more (flow_of_meets p l.0 n.0) tt (each_flow_of_meets ps l.1 n.1)

-- each list, dict and tuple among the first's members stands across from one of its head, which meets it
abbrev Backs : Bases → Tree → Tree → Type 0
Backs bases (ListOf a) t = (b : Tree) × (find (5, 0) t ≡ Some (ListOf b)) × Meets bases (ListOf b) (ListOf a)
Backs bases (DictOf j v) t = (k : Tree) × (w : Tree) × (find (6, 0) t ≡ Some (DictOf k w))
    × Meets bases (DictOf k w) (DictOf j v)
Backs bases (TupleOf ss) t = (ts : Trees) × (find (7, count ss) t ≡ Some (TupleOf ts)) × EachMeets bases ts ss
Backs bases (Union a b) t = Backs bases a t × Backs bases b t
Backs bases _ t = Unit {0}

covers_object : {bases : Bases} {s : Tree} → Covers bases Object s → Meets bases Object s
covers_object c_to_any = m_to_any
covers_object c_object = m_object
covers_object (c_left p) = m_left (covers_object p)
covers_object (c_right p) = m_right (covers_object p)

-- a type whose lists, dicts and tuples stand across flows back where it is covered back
covered : {bases : Bases} {t s : Tree} → Covers bases t s → (t' : Tree) → Agrees t t' → Backs bases s t'
    → Meets bases t s
covered c_from_any t' a b = m_from_any
covered c_to_any t' a b = m_to_any
covered c_never t' a b = m_never
covered c_object t' a b = m_object
covered c_int t' a b = m_int
covered c_bool t' a b = m_bool
covered c_bool_int t' a b = m_bool_int
covered c_str t' a b = m_str
covered c_none t' a b = m_none
covered (c_class h) t' a b = m_class h
covered {bases} (c_list {s = y} {t = x}) t' a b =
    let stands = b.1 in
    let q : b.0 ≡ y = cc (stands, a) in
    subst (λ z. Meets bases (ListOf z) (ListOf x)) q b.2
covered {bases} (c_dict {j = k} {k = j} {v = w} {w = v}) t' a b =
    let stands = b.2 in
    let q : b.0 ≡ k = cc (stands, a) in
    let r : b.1 ≡ w = cc (stands, a) in
    subst (λ z. Meets bases (DictOf z w) (DictOf j v)) q (subst (λ z. Meets bases (DictOf b.0 z) (DictOf j v)) r b.3)
covered {bases} (c_tuple {ss = ts} {ts = ss} c) t' a b =
    let stands = b.1 in
    let f : find (7, count ss) t' ≡ Some (TupleOf ts) = subst (λ k. find (7, k) t' ≡ Some (TupleOf ts)) c a in
    let q : b.0 ≡ ts = cc (stands, f) in
    m_tuple (subst (λ z. EachMeets bases z ss) q b.2)
covered (c_both p q) t' a b = m_both (covered p t' a.0 b) (covered q t' a.1 b)
covered (c_left p) t' a b = m_left (covered p t' a b.0)
covered (c_right p) t' a b = m_right (covered p t' a b.1)

target_or_not : (t : Tree) → (t ≡ Any) ⊎ ((t ≡ Object) ⊎ IsTarget t)
target_or_not Any = inl refl
target_or_not Object = inr (inl refl)
target_or_not _ = inr (inr tt)

back : {bases : Bases} (s t : Tree) → IsNormal t → Covers bases t s → (IsTarget t → Backs bases s t) → Meets bases t s
back {bases} s t n c b =
    ⊎_elim (λ e. subst (λ x. Meets bases x s) (sym e) m_from_any)
    (⊎_elim (λ e. subst (λ x. Meets bases x s) (sym e) (covers_object (subst (λ x. Covers bases x s) e c)))
    (λ o. covered c t (normal_agrees t n) (b o)))
    (target_or_not t)

backs_left : (bases : Bases) (s a b : Tree) → Backs bases s a → Backs bases s (Union a b)
backs_left bases (ListOf x) a b h = (h.0, ap (λ o. first o (find (5, 0) b)) h.1, h.2)
backs_left bases (DictOf j v) a b h = (h.0, h.1, ap (λ o. first o (find (6, 0) b)) h.2, h.3)
backs_left bases (TupleOf ss) a b h = (h.0, ap (λ o. first o (find (7, count ss) b)) h.1, h.2)
backs_left bases (Union c d) a b h = (backs_left bases c a b h.0, backs_left bases d a b h.1)
backs_left bases _ a b h = tt

backs_right : (bases : Bases) (s a b : Tree) → IsMember a → IsAfter a b → Backs bases s b → Backs bases s (Union a b)
backs_right bases (ListOf x) a b m f h = (h.0, find_behind (5, 0) a b m (found_behind (5, 0) a b f h.1) ∙ h.1, h.2)
backs_right bases (DictOf j v) a b m f h = (
  h.0,
  h.1,
  find_behind (6, 0) a b m (found_behind (6, 0) a b f h.2)
      ∙ h.2,
  h.3,
)
backs_right bases (TupleOf ss) a b m f h = (
  h.0,
  find_behind (7, count ss) a b m (found_behind (7, count ss) a b f h.1)
      ∙ h.1,
  h.2,
)
backs_right bases (Union c d) a b m f h = (backs_right bases c a b m f h.0, backs_right bases d a b m f h.1)
backs_right bases _ a b m f h = tt

pub each_count : {bases : Bases} {both : Test} {ss ts : Trees} → EachFlow bases both ss ts → count ss ≡ count ts
each_count w_end = refl
each_count (w_more f c fs) = ap (λ n. n + 1) (each_count fs)

-- a type that flows into another meets it, and meets it back if it flows both ways
mutual
  pub meets_of_flow : {bases : Bases} {both : Test} {s t : Tree} → HeadFlow bases both s t → IsNormal s → IsNormal t
      → Meets bases s t
  meets_of_flow w_from_any l n = m_from_any
  meets_of_flow w_to_any l n = m_to_any
  meets_of_flow w_never l n = m_never
  meets_of_flow w_object l n = m_object
  meets_of_flow w_int l n = m_int
  meets_of_flow w_bool l n = m_bool
  meets_of_flow w_bool_int l n = m_bool_int
  meets_of_flow w_str l n = m_str
  meets_of_flow w_none l n = m_none
  meets_of_flow (w_class h) l n = m_class h
  meets_of_flow (w_list {s = a} {t = b} f c) l n = m_list (meets_of_flow f l n) (back a b n c (backs f refl l n))
  meets_of_flow (w_dict {j = j} {k = k} {v = v} {w = w} f c g d) l n =
      m_dict (meets_of_flow f l.1 n.1) (back j k n.1 c (backs f refl l.1 n.1)) (meets_of_flow g l.2 n.2)
      (back v w n.2 d (backs g refl l.2 n.2))
  meets_of_flow (w_tuple e) l n = m_tuple (each_meets_of_flow e l n)
  meets_of_flow (w_both f g) l n = m_both (meets_of_flow f l.1 n) (meets_of_flow g l.2 n)
  meets_of_flow (w_left f) l n = m_left (meets_of_flow f l n.1)
  meets_of_flow (w_right f) l n = m_right (meets_of_flow f l n.2)

  each_meets_of_flow : {bases : Bases} {both : Test} {ss ts : Trees} → EachFlow bases both ss ts → AreNormal ss
      → AreNormal ts → EachMeets bases ss ts
  each_meets_of_flow w_end l n = m_end
  each_meets_of_flow (w_more f c fs) l n = m_more (meets_of_flow f l.0 n.0) (each_meets_of_flow fs l.1 n.1)

  backs : {bases : Bases} {both : Test} {s t : Tree} → HeadFlow bases both s t → both ≡ true → IsNormal s → IsNormal t
      → IsTarget t → Backs bases s t
  backs w_from_any q l n o = tt
  backs w_to_any q l n o = absurd o
  backs w_never q l n o = tt
  backs w_object q l n o = absurd o
  backs w_int q l n o = tt
  backs w_bool q l n o = tt
  backs w_bool_int q l n o = tt
  backs w_str q l n o = tt
  backs w_none q l n o = tt
  backs (w_class h) q l n o = tt
  backs (w_list {s = a} {t = b} f c) q l n o = (b, refl, m_list (back a b n c (backs f refl l n)) (meets_of_flow f l n))
  backs (w_dict {j = j} {k = k} {v = v} {w = w} f c g d) q l n o = (
    k,
    w,
    refl,
    m_dict (back j k n.1 c (backs f refl l.1 n.1)) (meets_of_flow f l.1 n.1)
        (back v w n.2 d (backs g refl l.2 n.2)) (meets_of_flow g l.2 n.2),
  )
  backs (w_tuple {ss = ss} {ts = ts} e) q l n o = (
    ts,
    subst (λ k. find (7, k) (TupleOf ts) ≡ Some (TupleOf ts)) (sym (each_count e)) (find_itself (TupleOf ts) tt),
    each_back e q l n,
  )
  backs (w_both f g) q l n o = (backs f q l.1 n o, backs g q l.2 n o)
  backs (w_left {s = s} {a = a} {b = b} f) q l n o = backs_left _ s a b (backs f q l n.1 (member_target a n.0))
  backs (w_right {s = s} {a = a} {b = b} f) q l n o = backs_right _ s a b n.0 n.3
      (backs f q l n.2 (after_target a b n.3))

  each_back : {bases : Bases} {both : Test} {ss ts : Trees} → EachFlow bases both ss ts → both ≡ true → AreNormal ss
      → AreNormal ts → EachMeets bases ts ss
  each_back w_end q l n = m_end
  each_back {bases} {both} (w_more {s = s} {t = t} f c fs) q l n =
      let d : Covers bases t s = subst (λ x. CoversBack bases x s t) q c in
      m_more (back s t n.0 d (backs f q l.0 n.0)) (each_back fs q l.1 n.1)
