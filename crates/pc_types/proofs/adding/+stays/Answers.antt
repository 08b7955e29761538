use Rattle.std.proofs.Common.{◌≡◌, ◌+◌, ◌<◌, ◌≤◌, length, ap, sym, ◌∙◌, subst, arith, false, refl}
use Rattle.pc_types.specs.Tree.{TupleOf}
use Rattle.pc_types.specs.Normal.{member_rank, IsRankBefore, IsNormal}
use Rattle.pc_types.specs.Join.{is_before}
use Rattle.pc_types.specs.Boxed.{tree_of, trees_in}
use Rattle.pc_types.proofs.Weight.{tree_weight, trees_weight, split_weight, parts_weight, tree_weight_item}
use Rattle.pc_types.proofs.Tuples.{tuple_is}
use Rattle.pc_types.proofs.Joined.{normal_item, normal_parts}
use Rattle.pc_types.proofs.Together.{Behind, split_of, split_behind, before_of, never_behind}
use Rattle.pc_types.proofs.Staying.{kept_first, kept_both, one_equal, join_of_stays, join_of_same, stays_more, stays_all}
use Rattle.pc_types.proofs.Staying.{tuple_stays}
use Rattle.pc_types.proofs.adding.+stays.Goals as goal

pub stays-stays-requires : goal.stays-stays-requires
stays-stays-requires t c =
    let w = split_weight _ _ _ c.in-Some-split.ensures in
    let s = split_of _ _ _ c.in-Some-split.ensures c.requires.right in
    (omega (arith, w.0, c.decreases), (c.requires.empty, (c.requires.left, s.listed)))

pub stays-stays-requires-then-is_kept : goal.stays-stays-requires-then-is_kept
stays-stays-requires-then-is_kept t c =
    let w = split_weight _ _ _ c.in-Some.ensures in
    let s = split_of _ _ _ c.in-Some.ensures c.requires.left in
    (omega (arith, w.0, c.decreases), (c.requires.empty, (s.listed, c.requires.right)))

pub stays-stays-requires-then-is_kept-2 : goal.stays-stays-requires-then-is_kept-2
stays-stays-requires-then-is_kept-2 t c =
    let w = split_weight _ _ _ c.in-Some.ensures in
    let s = split_of _ _ _ c.in-Some.ensures c.requires.left in
    (omega (arith, w.0, c.decreases), (c.requires.empty, (s.listed, c.requires.right)))

pub stays-stays-requires-then-is_dropped-2 : goal.stays-stays-requires-then-is_dropped-2
stays-stays-requires-then-is_dropped-2 t c =
    let w = split_weight _ _ _ c.in-Some-split-2.ensures in
    let s = split_of _ _ _ c.in-Some-split-2.ensures c.requires.right in
    (omega (arith, w.0, c.decreases), (c.requires.empty, (c.requires.left, s.listed)))

pub stays-stays-requires-then-is_one : goal.stays-stays-requires-then-is_one
stays-stays-requires-then-is_one t c =
    let w = split_weight _ _ _ c.in-Some.ensures in
    let s = split_of _ _ _ c.in-Some.ensures c.requires.left in
    let v = split_weight _ _ _ c.in-Some-split-2.ensures in
    let r = split_of _ _ _ c.in-Some-split-2.ensures c.requires.right in
    (omega (arith, w.0, v.0, c.decreases), (c.requires.empty, (s.listed, r.listed)))

pub stays-returns-then-is_kept : goal.stays-returns-then-is_kept
stays-returns-then-is_kept t c =
    let b : Behind (tree_of c.in-Some.a.now) (tree_of c.args.t.now) = never_behind _ _ c.in-None-split-2.ensures in
    λ h. kept_first c.args.parents.now (tree_of c.args.sides.now.left.now) (tree_of c.args.sides.now.right.now)
    (tree_of c.args.s.now) (tree_of c.args.t.now) (tree_of c.in-Some.a.now) (tree_of c.in-Some.others.now)
    c.in-Some.ensures c.requires.left c.requires.right b (c.is_kept.ensures.0 c.if-is_kept.true)
    (c.stays-then-is_kept.ensures h)

pub stays-returns-then-is_kept-2 : goal.stays-returns-then-is_kept-2
stays-returns-then-is_kept-2 t c =
    let k : IsRankBefore (member_rank (tree_of c.in-Some.a.now)) (member_rank (tree_of c.in-Some-split-2.b.now)) =
    before_of _ _ (sym c.stands_before.ensures ∙ c.if-stands_before.true) in
    let b = split_behind (tree_of c.args.t.now) (tree_of c.in-Some.a.now) (tree_of c.in-Some-split-2.b.now)
    (tree_of c.in-Some-split-2.bs.now) c.in-Some-split-2.ensures c.requires.right k in
    λ h. kept_first c.args.parents.now (tree_of c.args.sides.now.left.now) (tree_of c.args.sides.now.right.now)
    (tree_of c.args.s.now) (tree_of c.args.t.now) (tree_of c.in-Some.a.now) (tree_of c.in-Some.others.now)
    c.in-Some.ensures c.requires.left c.requires.right b
    (c.is_kept-then-stands_before.ensures.0 c.if-is_kept-2.true) (c.stays-then-is_kept-2.ensures h)

pub stays-returns-then-is_one : goal.stays-returns-then-is_one
stays-returns-then-is_one t c =
    let h : is_before (tree_of c.in-Some.a.now) (tree_of c.in-Some-split-2.b.now) ≡ false = sym c.stands_before.ensures
    ∙ c.if-stands_before.false in
    let k : is_before (tree_of c.in-Some-split-2.b.now) (tree_of c.in-Some.a.now) ≡ false =
    sym c.stands_before-else-stands_before.ensures ∙ c.if-stands_before-2.false in
    λ j. kept_both c.args.parents.now (tree_of c.args.sides.now.left.now) (tree_of c.args.sides.now.right.now)
    (tree_of c.args.s.now) (tree_of c.args.t.now) (tree_of c.in-Some.a.now) (tree_of c.in-Some.others.now)
    (tree_of c.in-Some-split-2.b.now) (tree_of c.in-Some-split-2.bs.now) c.in-Some.ensures c.requires.left
    c.in-Some-split-2.ensures c.requires.right h k (c.is_one.ensures.one c.if-is_one.true)
    (c.is_one.ensures.kept c.if-is_one.true) (c.stays-then-is_one.ensures j)

pub stays-is_one-requires : goal.stays-is_one-requires
stays-is_one-requires t c =
    let w = split_weight _ _ _ c.in-Some.ensures in
    let s = split_of _ _ _ c.in-Some.ensures c.requires.left in
    let v = split_weight _ _ _ c.in-Some-split-2.ensures in
    let r = split_of _ _ _ c.in-Some-split-2.ensures c.requires.right in
    (omega (arith, w.1, v.1, c.decreases), (s.normal, r.normal))

pub one_stays-parts_stay-requires : goal.one_stays-parts_stay-requires
one_stays-parts_stay-requires t c =
    let a : tree_of c.args.a.now ≡ TupleOf (trees_in c.in-Tuple.ss.items) = tuple_is _ _ c.in-Tuple.is in
    let s : trees_in c.deref.result.now ≡ trees_in c.in-Tuple.ss.items = ap trees_in c.deref.ensures.value in
    let w : tree_weight (tree_of c.args.a.now) ≡ 1 + trees_weight (trees_in c.deref.result.now) = ap tree_weight a
    ∙ ap (λ x. 1 + trees_weight x) (sym s) in
    let v : trees_weight (trees_in c.parts_of.result.now) ≤ tree_weight (tree_of c.args.b.now) =
    rw c.parts_of.ensures (parts_weight (tree_of c.args.b.now)) in (
      omega (arith, w, v, c.decreases),
      (
        rw s (subst IsNormal a c.requires.left),
        rw c.parts_of.ensures
            (normal_parts (tree_of c.args.b.now) c.requires.right),
      ),
    )

pub one_stays-returns-in-Tuple : goal.one_stays-returns-in-Tuple
one_stays-returns-in-Tuple t c =
    let a = tuple_is c.args.a.now c.in-Tuple.ss c.in-Tuple.is in
    let s : trees_in c.deref.result.now ≡ trees_in c.in-Tuple.ss.items = ap trees_in c.deref.ensures.value in
    λ h. tuple_stays c.args.parents.now (tree_of c.args.a.now) (trees_in c.in-Tuple.ss.items) (tree_of c.args.b.now) _ _
    a s c.parts_of.ensures (c.parts_stay.ensures h)

pub one_stays-returns-in_default : goal.one_stays-returns-in_default
one_stays-returns-in_default t c = λ h. one_equal c.args.parents.now (tree_of c.args.a.now) (tree_of c.args.b.now)
    (sym c.is_same.ensures ∙ h)

pub parts_stay-part_stays-requires : goal.parts_stay-part_stays-requires
parts_stay-part_stays-requires t c =
    let l : c.loop-i.i < length c.args.ts.now = omega arith in
    let w = tree_weight_item c.args.ss.now c.loop-i.i c.index-ss-i.result c.loop-i-test.true c.index-ss-i.is in
    let v = tree_weight_item c.args.ts.now c.loop-i.i c.index-ts-i.result l c.index-ts-i.is in (
      omega (arith, w, v, c.decreases),
      (
        normal_item _ c.loop-i.i _ c.requires.left c.loop-i-test.true c.index-ss-i.is,
        normal_item _ c.loop-i.i _ c.requires.right l c.index-ts-i.is,
      ),
    )

pub parts_stay-returns : goal.parts_stay-returns
parts_stay-returns t c = λ h. stays_all c.args.parents.now c.args.ss.now c.args.ts.now c.loop-i.i
    c.loop-i.invariant.1 (omega arith) (omega arith)

pub parts_stay-loop-i-preserved : goal.parts_stay-loop-i-preserved
parts_stay-loop-i-preserved t c = (
  c.loop-i.invariant.0,
  stays_more c.args.parents.now c.args.ss.now c.args.ts.now c.loop-i.i c.index-ss-i.result c.index-ts-i.result
      c.loop-i.invariant.1 c.loop-i-test.true (omega arith) c.index-ss-i.is c.index-ts-i.is
      (c.part_stays.ensures c.if-not-part_stays.false),
)

pub part_stays-returns-then-not-has_members : goal.part_stays-returns-then-not-has_members
part_stays-returns-then-not-has_members t c = λ h. join_of_same c.args.parents.now (tree_of c.args.s.now)
    (tree_of c.args.t.now) (sym c.is_same.ensures ∙ h)

pub part_stays-returns : goal.part_stays-returns
part_stays-returns t c =
    let l = c.if-not-has_members.ensures in
    let r = c.if-not-has_members-2.ensures in
    λ h. join_of_stays c.args.parents.now (tree_of c.args.s.now) (tree_of c.args.t.now)
    (l.listed refl c.requires.left) (l.any refl) (r.listed refl c.requires.right) (r.any refl)
    (c.stays.ensures h)
