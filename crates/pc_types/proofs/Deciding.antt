-- The code decides static subtyping if it reads Any as object, and consistent subtyping if it keeps Any.
use Rattle.std.proofs.Common.{◌≡◌, ◌↔◌, ◌+◌, true, false, refl, sym, ap, subst, subst₂}
use Rattle.pc_types.specs.Tree.{Tree, Trees, Any, Object, Never, ListOf, DictOf, TupleOf, Union, end, more, erase}
use Rattle.pc_types.specs.Tree.{erase_each}
use Rattle.pc_types.specs.Below.{Bases, Static}
use Rattle.pc_types.specs.Assignable.{IsPlain, ArePlain, Assignable}
use Rattle.pc_types.specs.Shape.{count}
use Rattle.pc_types.specs.Normal.{member_rank, IsRankBefore, IsMember, IsAfter, IsKey, IsNormal, AreNormal}
use Rattle.pc_types.specs.Internal.HeadFlow.{as_tested, seen_each, HeadFlow}
use Rattle.pc_types.proofs.Meets.{Meets, EachMeets, m_from_any, m_to_any, m_never, m_object, m_int, m_bool, m_bool_int}
use Rattle.pc_types.proofs.Meets.{m_str, m_none, m_class, m_list, m_dict, m_tuple, m_both, m_left, m_right, m_end}
use Rattle.pc_types.proofs.Meets.{m_more}
use Rattle.pc_types.proofs.Structural.{Sub, EachSub, s_never, s_object, s_any, s_int, s_bool, s_bool_int, s_str, s_none}
use Rattle.pc_types.proofs.Structural.{s_class, s_list, s_dict, s_tuple, s_both, s_left, s_right, s_end, s_more, sub_of}
use Rattle.pc_types.proofs.Structural.{below_of}
use Rattle.pc_types.proofs.Sound.{plain_erase, assignable_from_meets}
use Rattle.pc_types.proofs.Complete.{meets_from_assignable}
use Rattle.pc_types.proofs.Agree.{flow_of_meets, meets_of_flow}

mutual
  pub seen_static : (t : Tree) → as_tested false t ≡ erase t
  seen_static (ListOf t) = ap ListOf (seen_static t)
  seen_static (DictOf k v) = λ i. DictOf (seen_static k i) (seen_static v i)
  seen_static (TupleOf ts) = ap TupleOf (each_static ts)
  seen_static (Union a b) = λ i. Union (seen_static a i) (seen_static b i)
  seen_static _ = refl

  each_static : (ts : Trees) → seen_each false ts ≡ erase_each ts
  each_static end = refl
  each_static (more t ts) = λ i. more (seen_static t i) (each_static ts i)

mutual
  pub seen_gradual : (t : Tree) → as_tested true t ≡ t
  seen_gradual (ListOf t) = ap ListOf (seen_gradual t)
  seen_gradual (DictOf k v) = λ i. DictOf (seen_gradual k i) (seen_gradual v i)
  seen_gradual (TupleOf ts) = ap TupleOf (each_gradual ts)
  seen_gradual (Union a b) = λ i. Union (seen_gradual a i) (seen_gradual b i)
  seen_gradual _ = refl

  each_gradual : (ts : Trees) → seen_each true ts ≡ ts
  each_gradual end = refl
  each_gradual (more t ts) = λ i. more (seen_gradual t i) (each_gradual ts i)

mutual
  meets_sub : {bases : Bases} {s t : Tree} → Meets bases s t → IsPlain s → IsPlain t → Sub bases s t
  meets_sub m_from_any p q = absurd p
  meets_sub m_to_any p q = absurd q
  meets_sub m_never p q = s_never
  meets_sub m_object p q = s_object
  meets_sub m_int p q = s_int
  meets_sub m_bool p q = s_bool
  meets_sub m_bool_int p q = s_bool_int
  meets_sub m_str p q = s_str
  meets_sub m_none p q = s_none
  meets_sub (m_class h) p q = sub_of h
  meets_sub (m_list a b) p q = s_list (meets_sub a p q) (meets_sub b q p)
  meets_sub (m_dict a b c d) p q = s_dict (meets_sub a p.0 q.0) (meets_sub b q.0 p.0) (meets_sub c p.1 q.1)
      (meets_sub d q.1 p.1)
  meets_sub (m_tuple e) p q = s_tuple (each_meets_sub e p q)
  meets_sub (m_both a b) p q = s_both (meets_sub a p.0 q) (meets_sub b p.1 q)
  meets_sub (m_left a) p q = s_left (meets_sub a p q.0)
  meets_sub (m_right a) p q = s_right (meets_sub a p q.1)

  each_meets_sub : {bases : Bases} {ss ts : Trees} → EachMeets bases ss ts → ArePlain ss → ArePlain ts
      → EachSub bases ss ts
  each_meets_sub m_end p q = s_end
  each_meets_sub (m_more a as') p q = s_more (meets_sub a p.0 q.0) (each_meets_sub as' p.1 q.1)

mutual
  sub_meets : {bases : Bases} {s t : Tree} → Sub bases s t → Meets bases s t
  sub_meets s_never = m_never
  sub_meets s_object = m_object
  sub_meets s_any = m_to_any
  sub_meets s_int = m_int
  sub_meets s_bool = m_bool
  sub_meets s_bool_int = m_bool_int
  sub_meets s_str = m_str
  sub_meets s_none = m_none
  sub_meets (s_class h) = m_class (below_of (s_class h))
  sub_meets (s_list a b) = m_list (sub_meets a) (sub_meets b)
  sub_meets (s_dict a b c d) = m_dict (sub_meets a) (sub_meets b) (sub_meets c) (sub_meets d)
  sub_meets (s_tuple e) = m_tuple (each_sub_meets e)
  sub_meets (s_both a b) = m_both (sub_meets a) (sub_meets b)
  sub_meets (s_left a) = m_left (sub_meets a)
  sub_meets (s_right a) = m_right (sub_meets a)

  each_sub_meets : {bases : Bases} {ss ts : Trees} → EachSub bases ss ts → EachMeets bases ss ts
  each_sub_meets s_end = m_end
  each_sub_meets (s_more a as') = m_more (sub_meets a) (each_sub_meets as')

-- erasure keeps the normal form
count_erase : (ts : Trees) → count (erase_each ts) ≡ count ts
count_erase end = refl
count_erase (more t ts) = ap (λ n. n + 1) (count_erase ts)

rank_erase : (t : Tree) → IsMember t → member_rank (erase t) ≡ member_rank t
rank_erase (TupleOf ts) m = ap (λ n. (7, n)) (count_erase ts)
rank_erase Any m = absurd m
rank_erase _ m = refl

member_erase : (t : Tree) → IsMember t → IsMember (erase t)
member_erase Any m = m
member_erase Object m = m
member_erase Never m = m
member_erase (Union a b) m = m
member_erase _ m = tt

after_erase : (a b : Tree) → IsMember a → IsAfter a b → IsAfter (erase a) (erase b)
after_erase a (Union c d) m h = (after_erase a c m h.0, after_erase a d m h.1)
after_erase a (TupleOf ts) m h = (tt, subst₂ IsRankBefore (sym (rank_erase a m)) (sym (rank_erase (TupleOf ts) tt)) h.1)
after_erase a Any m h = absurd h.0
after_erase a b m h = (h.0, subst (λ r. IsRankBefore r (member_rank b)) (sym (rank_erase a m)) h.1)

key_erase : (k : Tree) → IsKey k → IsKey (erase k)
key_erase Any h = h
key_erase (ListOf t) h = h
key_erase (DictOf k v) h = h
key_erase (TupleOf ts) h = h
key_erase (Union a b) h = h
key_erase _ h = h

mutual
  normal_erase : (t : Tree) → IsNormal t → IsNormal (erase t)
  normal_erase (ListOf t) n = normal_erase t n
  normal_erase (DictOf k v) n = (key_erase k n.0, normal_erase k n.1, normal_erase v n.2)
  normal_erase (TupleOf ts) n = normal_each ts n
  normal_erase (Union a b) n = (member_erase a n.0, normal_erase a n.1, normal_erase b n.2, after_erase a b n.0 n.3)
  normal_erase Any n = tt
  normal_erase _ n = tt

  normal_each : (ts : Trees) → AreNormal ts → AreNormal (erase_each ts)
  normal_each end n = tt
  normal_each (more t ts) n = (normal_erase t n.0, normal_each ts n.1)

-- with Any read as object, the code decides static subtyping
pub static_is_flow : (bases : Bases) (s t : Tree) → IsNormal s → IsNormal t
    → HeadFlow bases false (as_tested false s) (as_tested false t) ↔ Static bases s t
static_is_flow bases s t m n =
    let l = normal_erase s m in
    let r = normal_erase t n in (
      λ h. below_of (meets_sub (meets_of_flow (subst₂ (HeadFlow bases false) (seen_static s) (seen_static t) h) l r)
          (plain_erase s) (plain_erase t)),
      λ h. subst₂ (HeadFlow bases false) (sym (seen_static s)) (sym (seen_static t))
          (flow_of_meets (sub_meets (sub_of h)) l r),
    )

-- with Any as it is, the code decides consistent subtyping
pub assignable_is_flow : (bases : Bases) (s t : Tree) → IsNormal s → IsNormal t
    → HeadFlow bases false (as_tested true s) (as_tested true t) ↔ Assignable bases s t
assignable_is_flow bases s t m n = (
  λ h. assignable_from_meets (meets_of_flow (subst₂ (HeadFlow bases false) (seen_gradual s) (seen_gradual t) h) m n) m
      n,
  λ a. subst₂ (HeadFlow bases false) (sym (seen_gradual s)) (sym (seen_gradual t))
      (flow_of_meets (meets_from_assignable a) m n),
)
