-- The type of an annotation is in normal form, without absorbed members, and within the limit.
use Rattle.std.proofs.Common.{◌≡◌, ◌⊎◌, ◌&&◌, ◌==◌, ℕ, not, Bool as Test, true, false, List, [], ◌∷◌, Option, Some}
use Rattle.std.proofs.Common.{None, sym, ◌∙◌, arith, inl, inr, ⊎_elim}
use Rattle.std.proofs.lemmas.Bool.{false≢true, true≢false, and_parts, not-true, cond_both, leb-true, cases_lt}
use Rattle.std.proofs.lemmas.Bool.Decides.{nat_tests}
use Rattle.std.specs.List.{list_all}
use Rattle.std.specs.Prelude.{if◌then◌else◌, nat_le, unwrap_or}
use Rattle.pc_tree.specs.Tree.{Ann, Anns, named, none_type, applied, applied_empty, no_anns, more_anns, Module}
use Rattle.pc_tree.specs.Tree as tree
use Rattle.pc_scope.specs.declared.resolution.Builtin.{Builtin}
use Rattle.pc_scope.specs.declared.resolution.Builtin.TheVariants as builtin
use Rattle.pc_scope.specs.declared.resolution.NameMeaning.{NameMeaning}
use Rattle.pc_scope.specs.declared.resolution.NameMeaning.TheVariants as meaning
use Rattle.pc_scope.specs.Resolution.{resolve_in_module}
use Rattle.pc_types.specs.Tree.{Tree, Any, Object, Never, Int, Str, Union}
use Rattle.pc_types.specs.Below.{Bases, AreSmaller}
use Rattle.pc_types.specs.Shape.{nodes, node_limit, trees, union}
use Rattle.pc_types.specs.Normal.{member_rank, IsRankBefore, IsMember, IsNormal, AreNormal, AreReduced}
use Rattle.pc_types.specs.Join.{absorbs, is_before}
use Rattle.pc_annotations.specs.Annotations.{atom, named_type, dict_type, built_type, applied_type, empty_type, is_member}
use Rattle.pc_annotations.specs.Annotations.{has_same_head, are_apart, is_union, insert_member, in_union_order, union_type}
use Rattle.pc_annotations.specs.Annotations.{reading, read_anns, read_ann, read_option}
use Rattle.pc_types.specs.WellFormed.{IsWellFormed}
use Rattle.pc_types.proofs.Together.{AllBehind, before_true, before_of}
use Rattle.pc_types.proofs.JoinNormal.{InOrder, union_normal, all_through}
use Rattle.pc_types.proofs.Incomparable.{Incomparable, IncomparableToEach, IsNormalReduced, ArePairwiseIncomparable}
use Rattle.pc_types.proofs.Incomparable.{union_reduced}

-- the type made, if any, is in normal form and without absorbed members
abbrev IsNormalReducedIfAny : Bases → Option Tree → Type 0
IsNormalReducedIfAny bases None = Unit {0}
IsNormalReducedIfAny bases (Some t) = IsNormalReduced bases t

good_or : (bases : Bases) (o : Option Tree) → IsNormalReducedIfAny bases o → IsNormalReduced bases (unwrap_or o Any)
good_or bases None g = (tt, tt)
good_or bases (Some t) g = g

any_good : (bases : Bases) (x : Test) → IsNormalReducedIfAny bases (if x then Some Any else None)
any_good bases true = (tt, tt)
any_good bases false = tt

atom_good : (bases : Bases) (x : Test) (b : Builtin) → IsNormalReducedIfAny bases (atom x b)
atom_good bases x builtin.Int = (tt, tt)
atom_good bases x builtin.Bool = (tt, tt)
atom_good bases x builtin.Str = (tt, tt)
atom_good bases x builtin.Object = (tt, tt)
atom_good bases x builtin.Any = any_good bases x
atom_good bases x _ = tt

named_good : (bases : Bases) (x : Test) (r : NameMeaning) → IsNormalReducedIfAny bases (named_type x r)
named_good bases x (meaning.Builtin b) = atom_good bases x b
named_good bases x (meaning.Class c) = (tt, tt)
named_good bases x _ = tt

empty_good : (bases : Bases) (r : NameMeaning) → IsNormalReducedIfAny bases (empty_type r)
empty_good bases (meaning.Builtin builtin.Tuple) = (tt, tt)
empty_good bases _ = tt

-- each of several types is in normal form and without absorbed members
abbrev AreNormalReduced : Bases → List Tree → Type 0
AreNormalReduced bases [] = Unit {0}
AreNormalReduced bases (t ∷ ts) = IsNormalReduced bases t × AreNormalReduced bases ts

trees_well : (bases : Bases) (ts : List Tree) → AreNormalReduced bases ts → AreNormal (trees ts)
    × AreReduced bases (trees ts)
trees_well bases [] w = (tt, tt)
trees_well bases (t ∷ ts) w = let r = trees_well bases ts w.1 in ((w.0.0, r.0), (w.0.1, r.1))

dict_good : (bases : Bases) (k v : Tree) → IsNormalReduced bases v → IsNormalReducedIfAny bases (dict_type k v)
dict_good bases Int v w = ((tt, tt, w.0), w.1)
dict_good bases Str v w = ((tt, tt, w.0), w.1)
dict_good bases _ v w = tt

built_good : (bases : Bases) (b : Builtin) (ts : List Tree) → AreNormalReduced bases ts
    → IsNormalReducedIfAny bases (built_type b ts)
built_good bases builtin.List (t ∷ []) w = w.0
built_good bases builtin.Dict (k ∷ v ∷ []) w = dict_good bases k v w.1.0
built_good bases builtin.Tuple (t ∷ ts) w = trees_well bases (t ∷ ts) w
built_good bases _ _ w = tt

applied_good : (bases : Bases) (r : NameMeaning) (ts : List Tree) → AreNormalReduced bases ts
    → IsNormalReducedIfAny bases (applied_type r ts)
applied_good bases (meaning.Builtin b) ts w = built_good bases b ts w
applied_good bases _ ts w = tt

-- the parts of a union: any two of different heads, neither absorbing the other
abbrev Differ : Tree → Tree → Type 0
Differ m n = IsRankBefore (member_rank m) (member_rank n) ⊎ IsRankBefore (member_rank n) (member_rank m)

-- a member has another head than each of several
abbrev DifferFrom : Tree → List Tree → Type 0
DifferFrom m [] = Unit {0}
DifferFrom m (n ∷ ns) = Differ m n × DifferFrom m ns

places_differ : (p q : ℕ × ℕ) → ((p.0 == q.0) && (p.1 == q.1)) ≡ false → IsRankBefore p q ⊎ IsRankBefore q p
places_differ p q e =
    ⊎_elim (λ h. inl (inl h)) (λ h. ⊎_elim (λ k. inr (inl k)) (λ k. ⊎_elim (λ l. inl (inr (omega arith, l)))
    (λ l. ⊎_elim (λ j. inr (inr (omega arith, j))) (λ j. absurd (grind (arith, nat_tests))) (cases_lt q.1 p.1))
    (cases_lt p.1 q.1)) (cases_lt q.0 p.0)) (cases_lt p.0 q.0)

apart_differ : (bases : Bases) (m n : Tree) → are_apart bases m n ≡ true → Differ m n × Incomparable bases m n
apart_differ bases m n e =
    let p = and_parts (not (has_same_head m n)) (not (absorbs bases m n) && not (absorbs bases n m)) e in
    let q = and_parts (not (absorbs bases m n)) (not (absorbs bases n m)) p.1 in (
      places_differ (member_rank m) (member_rank n) (not-true (has_same_head m n) p.0),
      (not-true (absorbs bases m n) q.0, not-true (absorbs bases n m) q.1),
    )

all_differ : (bases : Bases) (m : Tree) (l : List Tree) → list_all (are_apart bases m) l ≡ true → DifferFrom m l
    × IncomparableToEach bases m l
all_differ bases m [] e = (tt, tt)
all_differ bases m (n ∷ ns) e =
    let p = and_parts (are_apart bases m n) (list_all (are_apart bases m) ns) e in
    let h = apart_differ bases m n p.0 in
    let r = all_differ bases m ns p.1 in
    ((h.0, r.0), (h.1, r.1))

member_of : (t : Tree) → is_member t ≡ true → IsMember t
member_of Any e = false≢true e
member_of Object e = false≢true e
member_of Never e = false≢true e
member_of (Union a b) e = false≢true e
member_of _ e = tt

-- a member put at its place
module _ (m : Tree) where
  behind_of : (n : Tree) → Differ m n → is_before m n ≡ false → IsRankBefore (member_rank n) (member_rank m)
  behind_of n d e = ⊎_elim (λ h. absurd (true≢false (sym (before_true m n h) ∙ e))) (λ h. h) d

  placed_behind : (a : Tree) (l : List Tree) → IsRankBefore (member_rank a) (member_rank m) → AllBehind a l
      → AllBehind a (insert_member m l)
  placed_behind a [] h b = (h, tt)
  placed_behind a (n ∷ ns) h b = cond_both (is_before m n) (m ∷ n ∷ ns) (n ∷ insert_member m ns) (AllBehind a)
      (λ e. (h, b)) (λ e. (b.0, placed_behind a ns h b.1))

  placed_order : (l : List Tree) → IsMember m → IsNormal m → DifferFrom m l → InOrder l → InOrder (insert_member m l)
  placed_order [] k j d o = (k, (j, (tt, tt)))
  placed_order (n ∷ ns) k j d o =
      cond_both (is_before m n) (m ∷ n ∷ ns) (n ∷ insert_member m ns) InOrder
      (λ e. let h = before_of m n e in (k, (j, ((h, all_through m n ns h o.1.1.0), o))))
      (λ e. (o.0, (o.1.0, (placed_behind n ns (behind_of n d.0 e) o.1.1.0, placed_order ns k j d.1 o.1.1.1))))

  placed_differ : (x : Tree) (l : List Tree) → Differ x m → DifferFrom x l → DifferFrom x (insert_member m l)
  placed_differ x [] h b = (h, tt)
  placed_differ x (n ∷ ns) h b = cond_both (is_before m n) (m ∷ n ∷ ns) (n ∷ insert_member m ns) (DifferFrom x)
      (λ e. (h, b)) (λ e. (b.0, placed_differ x ns h b.1))

  placed_incomparable : (bases : Bases) (x : Tree) (l : List Tree) → Incomparable bases x m
      → IncomparableToEach bases x l → IncomparableToEach bases x (insert_member m l)
  placed_incomparable bases x [] h b = (h, tt)
  placed_incomparable bases x (n ∷ ns) h b = cond_both (is_before m n) (m ∷ n ∷ ns) (n ∷ insert_member m ns)
      (IncomparableToEach bases x) (λ e. (h, b)) (λ e. (b.0, placed_incomparable bases x ns h b.1))

  placed_pairwise : (bases : Bases) (l : List Tree) → IsNormalReduced bases m → IncomparableToEach bases m l
      → ArePairwiseIncomparable bases l → ArePairwiseIncomparable bases (insert_member m l)
  placed_pairwise bases [] w f a = (w, (tt, tt))
  placed_pairwise bases (n ∷ ns) w f a =
      cond_both (is_before m n) (m ∷ n ∷ ns) (n ∷ insert_member m ns) (ArePairwiseIncomparable bases)
      (λ e. (w, (f, a)))
      (λ e. (a.0, (placed_incomparable bases n ns (f.0.1, f.0.0) a.1.0, placed_pairwise bases ns w f.1 a.1.1)))

order_differ : (x : Tree) (l : List Tree) → DifferFrom x l → DifferFrom x (in_union_order l)
order_differ x [] h = tt
order_differ x (m ∷ ms) h = placed_differ m x (in_union_order ms) h.0 (order_differ x ms h.1)

order_incomparable : (bases : Bases) (x : Tree) (l : List Tree) → IncomparableToEach bases x l
    → IncomparableToEach bases x (in_union_order l)
order_incomparable bases x [] h = tt
order_incomparable bases x (m ∷ ms) h = placed_incomparable m bases x (in_union_order ms) h.0
    (order_incomparable bases x ms h.1)

-- the parts of a union in their order
parts_order : (bases : Bases) (l : List Tree) → AreNormalReduced bases l → is_union bases l ≡ true
    → InOrder (in_union_order l) × ArePairwiseIncomparable bases (in_union_order l)
parts_order bases [] w e = (tt, tt)
parts_order bases (m ∷ ms) w e =
    let p = and_parts (is_member m) (list_all (are_apart bases m) ms && is_union bases ms) e in
    let q = and_parts (list_all (are_apart bases m) ms) (is_union bases ms) p.1 in
    let d = all_differ bases m ms q.0 in
    let r = parts_order bases ms w.1 q.1 in (
      placed_order m (in_union_order ms) (member_of m p.0) w.0.0 (order_differ m ms d.0) r.0,
      placed_pairwise m bases (in_union_order ms) w.0 (order_incomparable bases m ms d.1) r.1,
    )

union_good : (bases : Bases) (l : List Tree) → AreSmaller bases → AreNormalReduced bases l
    → IsNormalReducedIfAny bases (union_type bases l)
union_good bases l o w =
    cond_both (is_union bases l) (Some (union (in_union_order l))) None (IsNormalReducedIfAny bases)
    (λ e. let p = parts_order bases l w e in (
      union_normal (in_union_order l) p.0,
      union_reduced bases (in_union_order l) o p.0 p.1,
    ))
    (λ e. tt)

module _ (m : Module) (bases : Bases) (o : AreSmaller bases) where
  mutual
    -- the type of an annotation, whatever its size
    pub reading_normal_reduced : (a : Ann) → IsNormalReduced bases (reading m bases a)
    reading_normal_reduced (named n) = good_or bases (named_type m.imports_any (resolve_in_module m n.text))
        (named_good bases m.imports_any (resolve_in_module m n.text))
    reading_normal_reduced (none_type p) = (tt, tt)
    reading_normal_reduced (applied p head arguments) = good_or bases
        (applied_type (resolve_in_module m head.text) (read_anns m bases arguments))
        (applied_good bases (resolve_in_module m head.text) (read_anns m bases arguments)
        (each_reading_normal_reduced arguments))
    reading_normal_reduced (applied_empty p head) = good_or bases (empty_type (resolve_in_module m head.text))
        (empty_good bases (resolve_in_module m head.text))
    reading_normal_reduced (tree.union p parts) = good_or bases (union_type bases (read_anns m bases parts))
        (union_good bases (read_anns m bases parts) o (each_reading_normal_reduced parts))

    each_reading_normal_reduced : (as' : Anns) → AreNormalReduced bases (read_anns m bases as')
    each_reading_normal_reduced no_anns = tt
    each_reading_normal_reduced (more_anns a rest) = (reading_normal_reduced a, each_reading_normal_reduced rest)

  -- the type of an annotation: in normal form, without absorbed members, and within the limit
  pub read_ann_well_formed : (a : Ann) → IsWellFormed bases (read_ann m bases a)
  read_ann_well_formed a =
      let w = reading_normal_reduced a in
      cond_both (nat_le (nodes (reading m bases a)) node_limit) (reading m bases a) Any (IsWellFormed bases)
      (λ e. (w.0, w.1, leb-true (nodes (reading m bases a)) node_limit e))
      (λ e. (tt, tt, omega arith))

  -- and so where there is none
  pub read_option_well_formed : (a : Option Ann) → IsWellFormed bases (read_option m bases a)
  read_option_well_formed None = (tt, tt, omega arith)
  read_option_well_formed (Some a) = read_ann_well_formed a
