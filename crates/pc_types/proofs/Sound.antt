-- Types that meet are assignable: each Any is filled by its counterpart in the other type.
use Rattle.std.proofs.Common.{◌≡◌, ◌+◌, Option, Some, refl, sym, ap, ◌∙◌, subst, subst₂, ⊎_elim}
use Rattle.pc_types.specs.Tree.{Tree, Trees, Any, Object, Never, Int, Bool, Str, NoneType, Class, ListOf, DictOf}
use Rattle.pc_types.specs.Tree.{TupleOf, Union, end, more, erase, erase_each}
use Rattle.pc_types.specs.Below.{Bases, Below, EachBelow}
use Rattle.pc_types.specs.Below as below
use Rattle.pc_types.specs.Assignable.{IsPlain, ArePlain, Materializes, FillsEach, Assignable}
use Rattle.pc_types.specs.Assignable as fill
use Rattle.pc_types.proofs.Meets.{Meets, EachMeets, m_from_any, m_to_any, m_never, m_object, m_int, m_bool, m_bool_int}
use Rattle.pc_types.proofs.Meets.{m_str, m_none, m_class, m_list, m_dict, m_tuple, m_both, m_left, m_right, m_end}
use Rattle.pc_types.proofs.Meets.{m_more}
use Rattle.pc_types.specs.Shape.{count}
use Rattle.pc_types.specs.Normal.{IsNormal, AreNormal}
use Rattle.pc_types.proofs.Lookup.{find, Agrees, normal_agrees, IsNotAny, any_or_not, member_not_any, after_not_any}

abbrev item_in : Option Tree → Tree
item_in (Some (ListOf t)) = t
item_in _ = Any

abbrev key_in : Option Tree → Tree
key_in (Some (DictOf k v)) = k
key_in _ = Any

abbrev value_in : Option Tree → Tree
value_in (Some (DictOf k v)) = v
value_in _ = Any

abbrev parts_in : Option Tree → Trees
parts_in (Some (TupleOf ts)) = ts
parts_in _ = end

abbrev head_of : Trees → Tree
head_of end = Any
head_of (more t ts) = t

abbrev tail_of : Trees → Trees
tail_of end = end
tail_of (more t ts) = ts

-- the first with each Any filled by its counterpart in the second
abbrev mutual
  merge : Tree → Tree → Tree
  merge Any u = erase u
  merge Object u = Object
  merge Never u = Never
  merge Int u = Int
  merge Bool u = Bool
  merge Str u = Str
  merge NoneType u = NoneType
  merge (Class c) u = Class c
  merge (ListOf t) u = ListOf (merge t (item_in (find (5, 0) u)))
  merge (DictOf k v) u = DictOf (merge k (key_in (find (6, 0) u))) (merge v (value_in (find (6, 0) u)))
  merge (TupleOf ts) u = TupleOf (merge_each ts (parts_in (find (7, count ts) u)))
  merge (Union a b) u = Union (merge a u) (merge b u)

  merge_each : Trees → Trees → Trees
  merge_each end us = end
  merge_each (more t ts) us = more (merge t (head_of us)) (merge_each ts (tail_of us))

mutual
  pub plain_erase : (t : Tree) → IsPlain (erase t)
  plain_erase (ListOf t) = plain_erase t
  plain_erase (DictOf k v) = (plain_erase k, plain_erase v)
  plain_erase (TupleOf ts) = plain_each ts
  plain_erase (Union a b) = (plain_erase a, plain_erase b)
  plain_erase _ = tt

  plain_each : (ts : Trees) → ArePlain (erase_each ts)
  plain_each end = tt
  plain_each (more t ts) = (plain_erase t, plain_each ts)

mutual
  fills_merge : (t u : Tree) → Materializes t (merge t u)
  fills_merge Any u = fill.any (plain_erase u)
  fills_merge Object u = fill.object
  fills_merge Never u = fill.never
  fills_merge Int u = fill.int
  fills_merge Bool u = fill.bool
  fills_merge Str u = fill.str
  fills_merge NoneType u = fill.none_type
  fills_merge (Class c) u = fill.class
  fills_merge (ListOf t) u = fill.list (fills_merge t _)
  fills_merge (DictOf k v) u = fill.dict (fills_merge k _) (fills_merge v _)
  fills_merge (TupleOf ts) u = fill.tuple (fills_merge_each ts _)
  fills_merge (Union a b) u = fill.union (fills_merge a u) (fills_merge b u)

  fills_merge_each : (ts us : Trees) → FillsEach ts (merge_each ts us)
  fills_merge_each end us = fill.none
  fills_merge_each (more t ts) us = fill.one (fills_merge t _) (fills_merge_each ts _)

mutual
  merge_any : (t : Tree) → merge t Any ≡ erase t
  merge_any (ListOf t) = ap ListOf (merge_any t)
  merge_any (DictOf k v) = λ i. DictOf (merge_any k i) (merge_any v i)
  merge_any (TupleOf ts) = ap TupleOf (merge_each_any ts)
  merge_any (Union a b) = λ i. Union (merge_any a i) (merge_any b i)
  merge_any Any = refl
  merge_any _ = refl

  merge_each_any : (ts : Trees) → merge_each ts end ≡ erase_each ts
  merge_each_any end = refl
  merge_each_any (more t ts) = λ i. more (merge_any t i) (merge_each_any ts i)

-- the claim about two types that are members of two others: the merge of the first is a subtype of that of the second
abbrev Claim : Bases → Tree → Tree → Type 0
Claim bases s t = (s' t' : Tree) → IsNotAny s → IsNotAny t → Agrees s s' → Agrees t t'
    → Below bases (merge s t') (merge t s')

whole : (bases : Bases) (s t : Tree) → IsNormal s → IsNormal t → Claim bases s t → Below bases (merge s t) (merge t s)
whole bases s t m n c = ⊎_elim from_any (λ x. ⊎_elim to_any (λ y. c s t x y (normal_agrees s m) (normal_agrees t n))
    (any_or_not t)) (any_or_not s)
  where
    from_any : s ≡ Any → Below bases (merge s t) (merge t s)
    from_any e = subst (λ x. Below bases (merge x t) (merge t x)) (sym e)
        (subst (Below bases (erase t)) (sym (merge_any t)) below.same)

    to_any : t ≡ Any → Below bases (merge s t) (merge t s)
    to_any e = subst (λ x. Below bases (merge s x) (merge x s)) (sym e)
        (subst (λ x. Below bases x (erase s)) (sym (merge_any s)) below.same)

pub same_count : {bases : Bases} {ss ts : Trees} → EachMeets bases ss ts → count ss ≡ count ts
same_count m_end = refl
same_count (m_more f fs) = ap (λ n. n + 1) (same_count fs)

mutual
  claim : {bases : Bases} {s t : Tree} → Meets bases s t → IsNormal s → IsNormal t → Claim bases s t
  claim m_from_any m n s' t' x y e f = absurd x
  claim m_to_any m n s' t' x y e f = absurd y
  claim m_never m n s' t' x y e f = below.never
  claim m_object m n s' t' x y e f = below.object
  claim m_int m n s' t' x y e f = below.same
  claim m_bool m n s' t' x y e f = below.same
  claim m_bool_int m n s' t' x y e f = below.bool_int
  claim m_str m n s' t' x y e f = below.same
  claim m_none m n s' t' x y e f = below.same
  claim (m_class h) m n s' t' x y e f = h
  claim {bases} (m_list {s = a} {t = b} p q) m n s' t' x y e f =
      subst₂ (λ u v. Below bases (ListOf (merge a (item_in u))) (ListOf (merge b (item_in v)))) (sym f) (sym e)
      (below.list (whole bases a b m n (claim p m n)) (whole bases b a n m (claim q n m)))
  claim {bases} (m_dict {j = j} {k = k} {v = v} {w = w} p q r o) m n s' t' x y e f =
      subst₂ (λ a b. Below bases (DictOf (merge j (key_in a)) (merge v (value_in a)))
      (DictOf (merge k (key_in b)) (merge w (value_in b)))) (sym f) (sym e)
      (below.dict (whole bases j k m.1 n.1 (claim p m.1 n.1)) (whole bases k j n.1 m.1 (claim q n.1 m.1))
      (whole bases v w m.2 n.2 (claim r m.2 n.2)) (whole bases w v n.2 m.2 (claim o n.2 m.2)))
  claim {bases} (m_tuple {ss = ss} {ts = ts} p) m n s' t' x y e f =
      let c = same_count p in
      subst₂ (λ a b. Below bases (TupleOf (merge_each ss (parts_in a))) (TupleOf (merge_each ts (parts_in b))))
      (sym (ap (λ k. find (7, k) t') c ∙ f)) (sym (ap (λ k. find (7, k) s') (sym c) ∙ e))
      (below.tuple (each_claim p m n))
  claim (m_both {a = a} {b = b} p q) m n s' t' x y e f =
      below.both (claim p m.1 n s' t' (member_not_any a m.0) y e.0 f)
      (claim q m.2 n s' t' (after_not_any a b m.3) y e.1 f)
  claim (m_left {a = a} p) m n s' t' x y e f = below.through (claim p m n.1 s' t' x (member_not_any a n.0) e f.0)
      below.left
  claim (m_right {a = a} {b = b} p) m n s' t' x y e f = below.through
      (claim p m n.2 s' t' x (after_not_any a b n.3) e f.1) below.right

  each_claim : {bases : Bases} {ss ts : Trees} → EachMeets bases ss ts → AreNormal ss → AreNormal ts
      → EachBelow bases (merge_each ss ts) (merge_each ts ss)
  each_claim m_end m n = below.none
  each_claim {bases} (m_more {s = s} {t = t} p ps) m n = below.one (whole bases s t m.0 n.0 (claim p m.0 n.0))
      (each_claim ps m.1 n.1)

pub assignable_from_meets : {bases : Bases} {s t : Tree} → Meets bases s t → IsNormal s → IsNormal t
    → Assignable bases s t
assignable_from_meets {bases} {s} {t} p m n = record {
  filled_left = merge s t;
  filled_right = merge t s;
  fills_left = fills_merge s t;
  fills_right = fills_merge t s;
  is_below = whole bases s t m n (claim p m n);
}
