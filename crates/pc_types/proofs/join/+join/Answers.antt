use Rattle.std.proofs.Common.{◌≡◌, ◌+◌, ◌<◌, ◌≤◌, length, ap, refl, sym, ◌∙◌, subst, arith, Some, None, false}
use Rattle.std.specs.Option.{option_map}
use Rattle.pc_types.specs.Tree.{TupleOf}
use Rattle.pc_types.specs.Normal.{member_rank, IsRankBefore, IsNormal}
use Rattle.pc_types.specs.Join.{is_before, kept_with, one_with, ahead_of, join_of}
use Rattle.pc_types.specs.Boxed.{tree_of, trees_in}
use Rattle.pc_types.proofs.Tuples.{tuple_is, tuple_tree}
use Rattle.pc_types.proofs.Weight.{tree_weight, trees_weight, split_weight, parts_weight, tree_weight_item}
use Rattle.pc_types.proofs.Together.{Behind, split_of, split_behind, before_of, first_left, first_right, first_both}
use Rattle.pc_types.proofs.Together.{never_behind}
use Rattle.pc_types.proofs.Joined.{JoinsTo, ok_as, after_ok, each_lengths, joins_more, joins_none, joins_all}
use Rattle.pc_types.proofs.Joined.{tuple_rule_at, any_left, object_left, never_right, any_right, object_right, listed_of}
use Rattle.pc_types.proofs.Joined.{equal_join, rule_join, one_kept, one_other, one_unabsorbed}
use Rattle.pc_types.proofs.Staying.{one_equal}
use Rattle.pc_types.proofs.Joined.{one_tuple, parts_tree, ordinary_rule, normal_item, normal_parts}
use Rattle.pc_types.proofs.join.+join.Goals as goal

pub joined-returns-in-Tuple : goal.joined-returns-in-Tuple
joined-returns-in-Tuple t c =
    let e = tuple_is c.args.s.now c.in-Tuple.field-0 c.in-Tuple.is in
    ok_as (option_map tree_of) c.ruled.result _ _ (tuple_rule_at c.args.parents.now (tree_of c.args.s.now)
    (trees_in c.in-Tuple.field-0.items) (tree_of c.args.t.now) e) c.ruled.ensures

pub joined_parts-returns-then-ss-ts : goal.joined_parts-returns-then-ss-ts
joined_parts-returns-then-ss-ts t c = each_lengths _ _ _ c.if-ss-ts.true

pub joined_parts-joined-requires : goal.joined_parts-joined-requires
joined_parts-joined-requires t c =
    let l : c.loop-i.i < length c.args.ts.now = omega arith in
    let w = tree_weight_item c.args.ss.now c.loop-i.i c.index-ss-i.result c.loop-i-test.true c.index-ss-i.is in
    let v = tree_weight_item c.args.ts.now c.loop-i.i c.index-ts-i.result l c.index-ts-i.is in (
      omega (arith, w, v, c.decreases),
      (
        normal_item _ c.loop-i.i _ c.requires.left c.loop-i-test.true c.index-ss-i.is,
        normal_item _ c.loop-i.i _ c.requires.right l c.index-ts-i.is,
      ),
    )

pub joined_parts-returns-in-None : goal.joined_parts-returns-in-None
joined_parts-returns-in-None t c =
    let g : None ≡ join_of c.args.parents.now (tree_of c.index-ss-i.result) (tree_of c.index-ts-i.result) =
    ap (option_map tree_of) (sym c.in-None.is) ∙ c.in_ok-joined.ensures in
    joins_none c.args.parents.now c.args.ss.now c.args.ts.now c.loop-i.parts.items c.loop-i.i c.index-ss-i.result
    c.index-ts-i.result c.loop-i.invariant.1 c.loop-i-test.true (omega arith) c.index-ss-i.is c.index-ts-i.is g

pub joined_parts-returns : goal.joined_parts-returns
joined_parts-returns t c = joins_all c.args.parents.now c.args.ss.now c.args.ts.now c.loop-i.parts.items c.loop-i.i
    c.loop-i.invariant.1 (omega arith) (omega arith)

pub merged-merged-rest-requires : goal.merged-merged-rest-requires
merged-merged-rest-requires t c =
    let w = split_weight _ _ _ c.in-Some-split.ensures in
    let s = split_of _ _ _ c.in-Some-split.ensures c.requires.right in
    (omega (arith, w.0, c.decreases), (c.requires.empty, (c.requires.left, s.listed)))

pub merged-merged-rest-requires-in-None-split-2 : goal.merged-merged-rest-requires-in-None-split-2
merged-merged-rest-requires-in-None-split-2 t c =
    let w = split_weight _ _ _ c.in-Some.ensures in
    let s = split_of _ _ _ c.in-Some.ensures c.requires.left in
    (omega (arith, w.0, c.decreases), (c.requires.empty, (s.listed, c.requires.right)))

pub merged-merged-rest-requires-then-stands_before : goal.merged-merged-rest-requires-then-stands_before
merged-merged-rest-requires-then-stands_before t c =
    let w = split_weight _ _ _ c.in-Some.ensures in
    let s = split_of _ _ _ c.in-Some.ensures c.requires.left in
    (omega (arith, w.0, c.decreases), (c.requires.empty, (s.listed, c.requires.right)))

pub merged-merged-rest-requires-then-stands_before-2 : goal.merged-merged-rest-requires-then-stands_before-2
merged-merged-rest-requires-then-stands_before-2 t c =
    let w = split_weight _ _ _ c.in-Some-split-2.ensures in
    let s = split_of _ _ _ c.in-Some-split-2.ensures c.requires.right in
    (omega (arith, w.0, c.decreases), (c.requires.empty, (c.requires.left, s.listed)))

pub merged-merged-requires : goal.merged-merged-requires
merged-merged-requires t c =
    let w = split_weight _ _ _ c.in-Some.ensures in
    let s = split_of _ _ _ c.in-Some.ensures c.requires.left in
    let v = split_weight _ _ _ c.in-Some-split-2.ensures in
    let r = split_of _ _ _ c.in-Some-split-2.ensures c.requires.right in
    (omega (arith, w.0, v.0, c.decreases), (c.requires.empty, (s.listed, r.listed)))

pub merged-one_ahead-requires : goal.merged-one_ahead-requires
merged-one_ahead-requires t c =
    let w = split_weight _ _ _ c.in-Some.ensures in
    let s = split_of _ _ _ c.in-Some.ensures c.requires.left in
    let v = split_weight _ _ _ c.in-Some-split-2.ensures in
    let r = split_of _ _ _ c.in-Some-split-2.ensures c.requires.right in
    (omega (arith, w.1, v.1, c.decreases), (s.normal, r.normal))

pub merged-returns-in-None-split-2 : goal.merged-returns-in-None-split-2
merged-returns-in-None-split-2 t c =
    let b : Behind (tree_of c.in-Some.a.now) (tree_of c.args.t.now) = never_behind _ _ c.in-None-split-2.ensures in
    let e = first_left c.args.parents.now (tree_of c.args.sides.now.left.now) (tree_of c.args.sides.now.right.now)
    (tree_of c.args.s.now) (tree_of c.args.t.now) (tree_of c.in-Some.a.now) (tree_of c.in-Some.others.now)
    c.in-Some.ensures c.requires.left c.requires.right b in
    after_ok (kept_with c.args.parents.now (tree_of c.in-Some.a.now) (tree_of c.args.sides.now.right.now))
    c.merged-rest-in-None-split-2.result c.kept_ahead-in-None-split-2.result _ _ (sym e)
    c.merged-rest-in-None-split-2.ensures c.kept_ahead-in-None-split-2.ensures

pub merged-returns-then-stands_before : goal.merged-returns-then-stands_before
merged-returns-then-stands_before t c =
    let h : IsRankBefore (member_rank (tree_of c.in-Some.a.now)) (member_rank (tree_of c.in-Some-split-2.b.now)) =
    before_of _ _ (sym c.stands_before.ensures ∙ c.if-stands_before.true) in
    let b = split_behind (tree_of c.args.t.now) (tree_of c.in-Some.a.now) (tree_of c.in-Some-split-2.b.now)
    (tree_of c.in-Some-split-2.bs.now) c.in-Some-split-2.ensures c.requires.right h in
    let e = first_left c.args.parents.now (tree_of c.args.sides.now.left.now) (tree_of c.args.sides.now.right.now)
    (tree_of c.args.s.now) (tree_of c.args.t.now) (tree_of c.in-Some.a.now) (tree_of c.in-Some.others.now)
    c.in-Some.ensures c.requires.left c.requires.right b in
    after_ok (kept_with c.args.parents.now (tree_of c.in-Some.a.now) (tree_of c.args.sides.now.right.now))
    c.merged-rest-then-stands_before.result c.kept_ahead-then-stands_before.result _ _ (sym e)
    c.merged-rest-then-stands_before.ensures c.kept_ahead-then-stands_before.ensures

pub merged-returns-then-stands_before-2 : goal.merged-returns-then-stands_before-2
merged-returns-then-stands_before-2 t c =
    let h : IsRankBefore (member_rank (tree_of c.in-Some-split-2.b.now)) (member_rank (tree_of c.in-Some.a.now)) =
    before_of _ _ (sym c.stands_before-else-stands_before.ensures ∙ c.if-stands_before-2.true) in
    let b = split_behind (tree_of c.args.s.now) (tree_of c.in-Some-split-2.b.now) (tree_of c.in-Some.a.now)
    (tree_of c.in-Some.others.now) c.in-Some.ensures c.requires.left h in
    let e = first_right c.args.parents.now (tree_of c.args.sides.now.left.now) (tree_of c.args.sides.now.right.now)
    (tree_of c.args.s.now) (tree_of c.args.t.now) (tree_of c.in-Some-split-2.b.now)
    (tree_of c.in-Some-split-2.bs.now) c.in-Some-split-2.ensures c.requires.right b in
    after_ok (kept_with c.args.parents.now (tree_of c.in-Some-split-2.b.now) (tree_of c.args.sides.now.left.now))
    c.merged-rest-then-stands_before-2.result c.kept_ahead-then-stands_before-2.result _ _ (sym e)
    c.merged-rest-then-stands_before-2.ensures c.kept_ahead-then-stands_before-2.ensures

pub merged-returns-in_ok-rest-in-Some-split-2 : goal.merged-returns-in_ok-rest-in-Some-split-2
merged-returns-in_ok-rest-in-Some-split-2 t c =
    let h : is_before (tree_of c.in-Some.a.now) (tree_of c.in-Some-split-2.b.now) ≡ false = sym c.stands_before.ensures
    ∙ c.if-stands_before.false in
    let k : is_before (tree_of c.in-Some-split-2.b.now) (tree_of c.in-Some.a.now) ≡ false =
    sym c.stands_before-else-stands_before.ensures ∙ c.if-stands_before-2.false in
    let e = first_both c.args.parents.now (tree_of c.args.sides.now.left.now) (tree_of c.args.sides.now.right.now)
    (tree_of c.args.s.now) (tree_of c.args.t.now) (tree_of c.in-Some.a.now) (tree_of c.in-Some.others.now)
    (tree_of c.in-Some-split-2.b.now) (tree_of c.in-Some-split-2.bs.now) c.in-Some.ensures c.requires.left
    c.in-Some-split-2.ensures c.requires.right h k in
    let f = ap (one_with c.args.parents.now (tree_of c.args.sides.now.left.now) (tree_of c.args.sides.now.right.now)
    (tree_of c.in-Some.a.now) (tree_of c.in-Some-split-2.b.now)) c.in_ok-rest-in-Some-split-2.ensures in
    ok_as (option_map tree_of) c.one_ahead.result _ _ (f ∙ sym e) c.one_ahead.ensures

pub one-joined_parts-requires : goal.one-joined_parts-requires
one-joined_parts-requires t c =
    let a : tree_of c.args.a.now ≡ TupleOf (trees_in c.in-Tuple.ss.items) = tuple_is _ _ c.in-Tuple.is in
    let s : trees_in c.deref.result.now ≡ trees_in c.in-Tuple.ss.items = ap trees_in c.deref.ensures.value in
    let w : tree_weight (tree_of c.args.a.now) ≡ 1 + trees_weight (trees_in c.deref.result.now) = ap tree_weight a
    ∙ ap (λ x. 1 + trees_weight x) (sym s) in
    let v : trees_weight (trees_in c.parts_of.result.now) ≤ tree_weight (tree_of c.args.b.now) =
    rw c.parts_of.ensures (parts_weight (tree_of c.args.b.now)) in (
      omega (arith, w, v, c.decreases),
      (
        rw s (subst IsNormal a c.requires.left),
        rw c.parts_of.ensures
            (normal_parts (tree_of c.args.b.now) c.requires.right),
      ),
    )

pub one-returns-in-None : goal.one-returns-in-None
one-returns-in-None t c =
    let a = tuple_is c.args.a.now c.in-Tuple.ss c.in-Tuple.is in
    let s : trees_in c.deref.result.now ≡ trees_in c.in-Tuple.ss.items = ap trees_in c.deref.ensures.value in
    let e = one_tuple c.args.parents.now (tree_of c.args.a.now) (trees_in c.in-Tuple.ss.items) (tree_of c.args.b.now) _
    _ a s c.parts_of.ensures in
    ap (option_map TupleOf) (ap (option_map parts_tree) (sym c.in-None.is) ∙ c.in_ok-joined_parts-in-Tuple.ensures)
    ∙ sym e

pub one-returns-in-Some : goal.one-returns-in-Some
one-returns-in-Some t c =
    let a = tuple_is c.args.a.now c.in-Tuple.ss c.in-Tuple.is in
    let s : trees_in c.deref.result.now ≡ trees_in c.in-Tuple.ss.items = ap trees_in c.deref.ensures.value in
    let e = one_tuple c.args.parents.now (tree_of c.args.a.now) (trees_in c.in-Tuple.ss.items) (tree_of c.args.b.now) _
    _ a s c.parts_of.ensures in
    ap Some (tuple_tree c.in-Some.parts)
    ∙ ap (option_map TupleOf) (ap (option_map parts_tree) (sym c.in-Some.is) ∙ c.in_ok-joined_parts-in-Tuple.ensures)
    ∙ sym e

pub ruled-returns-in_default-t-2 : goal.ruled-returns-in_default-t-2
ruled-returns-in_default-t-2 t c =
    let e = ordinary_rule c.args.s.now c.args.t.now _ c.in_default.not-Never c.in_default.not-Any
    c.in_default.not-Object c.in_default-t-2.not-Never c.in_default-t-2.not-Any c.in_default-t-2.not-Object in
    ok_as (option_map tree_of) c.merged.result _ _ (sym e) c.merged.ensures

pub joined_parts-loop-i-preserved : goal.joined_parts-loop-i-preserved
joined_parts-loop-i-preserved t c =
    let g : Some (tree_of c.in-Some.part) ≡ join_of c.args.parents.now (tree_of c.index-ss-i.result)
    (tree_of c.index-ts-i.result) = ap (option_map tree_of) (sym c.in-Some.is) ∙ c.in_ok-joined.ensures in
    let j = joins_more c.args.parents.now c.args.ss.now c.args.ts.now c.loop-i.parts.items c.loop-i.i
    c.index-ss-i.result c.index-ts-i.result c.in-Some.part c.loop-i.invariant.1 c.loop-i-test.true (omega arith)
    c.index-ss-i.is c.index-ts-i.is g in (
      c.loop-i.invariant.0,
      subst (JoinsTo c.args.parents.now c.args.ss.now c.args.ts.now (c.loop-i.i + 1))
          (sym c.in_ok-push-in-Some.ensures.items) j,
    )

pub joined-returns-then-is_same : goal.joined-returns-then-is_same
joined-returns-then-is_same t c =
    ok_as (option_map tree_of) c.copied.result _ _ (equal_join c.args.parents.now (tree_of c.args.s.now)
    (tree_of c.args.t.now) c.is_same.result c.is_same.ensures c.if-is_same.true) c.copied.ensures

pub joined-returns-else-is_same : goal.joined-returns-else-is_same
joined-returns-else-is_same t c =
    ok_as (option_map tree_of) c.ruled-else-is_same.result _ _ (rule_join c.args.parents.now (tree_of c.args.s.now)
    (tree_of c.args.t.now) c.is_same.result c.is_same.ensures c.if-is_same.false) c.ruled-else-is_same.ensures

pub merged-returns-in-Some-split : goal.merged-returns-in-Some-split
merged-returns-in-Some-split t c =
    let b : Behind (tree_of c.in-Some-split.b.now) (tree_of c.args.s.now) = never_behind _ _ c.in-None.ensures in
    let e = first_right c.args.parents.now (tree_of c.args.sides.now.left.now) (tree_of c.args.sides.now.right.now)
    (tree_of c.args.s.now) (tree_of c.args.t.now) (tree_of c.in-Some-split.b.now) (tree_of c.in-Some-split.others.now)
    c.in-Some-split.ensures c.requires.right b in
    after_ok (kept_with c.args.parents.now (tree_of c.in-Some-split.b.now) (tree_of c.args.sides.now.left.now))
    c.merged-rest.result c.kept_ahead.result _ _ (sym e) c.merged-rest.ensures c.kept_ahead.ensures

pub one_ahead-returns-then-is_member_absorbed : goal.one_ahead-returns-then-is_member_absorbed
one_ahead-returns-then-is_member_absorbed t c =
    ok_as (option_map tree_of) c.kept_ahead.result _ _ (one_kept c.args.parents.now (tree_of c.args.sides.now.left.now)
    (tree_of c.args.sides.now.right.now) (tree_of c.args.a.now) (tree_of c.args.b.now)
    (option_map tree_of c.args.rest) (sym c.is_member_absorbed.ensures ∙ c.if-is_member_absorbed.true))
    c.kept_ahead.ensures

pub one_ahead-returns-then-is_member_absorbed-2 : goal.one_ahead-returns-then-is_member_absorbed-2
one_ahead-returns-then-is_member_absorbed-2 t c =
    ok_as (option_map tree_of) c.copy_ahead.result _ _ (one_other c.args.parents.now (tree_of c.args.sides.now.left.now)
    (tree_of c.args.sides.now.right.now) (tree_of c.args.a.now) (tree_of c.args.b.now)
    (option_map tree_of c.args.rest) (sym c.is_member_absorbed.ensures ∙ c.if-is_member_absorbed.false)
    (sym c.is_member_absorbed-2.ensures ∙ c.if-is_member_absorbed-2.true)) c.copy_ahead.ensures

pub one_ahead-returns : goal.one_ahead-returns
one_ahead-returns t c =
    after_ok (λ m. ahead_of m (option_map tree_of c.args.rest)) c.one.result c.both_ahead.result _ _
    (one_unabsorbed c.args.parents.now (tree_of c.args.sides.now.left.now) (tree_of c.args.sides.now.right.now)
    (tree_of c.args.a.now) (tree_of c.args.b.now) (option_map tree_of c.args.rest)
    (sym c.is_member_absorbed.ensures ∙ c.if-is_member_absorbed.false)
    (sym c.is_member_absorbed-2.ensures ∙ c.if-is_member_absorbed-2.false)) c.one.ensures c.both_ahead.ensures

pub one-returns-then-is_same : goal.one-returns-then-is_same
one-returns-then-is_same t c =
    ok_as (option_map tree_of) c.copied.result _ _ (sym (one_equal c.args.parents.now (tree_of c.args.a.now)
    (tree_of c.args.b.now) (sym c.is_same.ensures ∙ c.if-is_same.true))) c.copied.ensures

pub ruled-returns-in-Never : goal.ruled-returns-in-Never
ruled-returns-in-Never t c = rw c.in-Never.is c.copied.ensures

pub ruled-returns-in-Any : goal.ruled-returns-in-Any
ruled-returns-in-Any t c = rw c.in-Any.is (any_left _ _)

pub ruled-returns-in-Any-t : goal.ruled-returns-in-Any-t
ruled-returns-in-Any-t t c = rw (c.in-Object.is, c.in-Any-t.is) refl

pub ruled-returns-in_default-t : goal.ruled-returns-in_default-t
ruled-returns-in_default-t t c = rw c.in-Object.is (object_left c.args.t.now _ c.in_default-t.not-Any)

pub ruled-returns-in-Never-t : goal.ruled-returns-in-Never-t
ruled-returns-in-Never-t t c =
    rw c.in-Never-t.is (ok_as (option_map tree_of) c.copied-in-Never-t.result _ _ (never_right (tree_of c.args.s.now) _)
    c.copied-in-Never-t.ensures)

pub ruled-returns-in-Any-t-2 : goal.ruled-returns-in-Any-t-2
ruled-returns-in-Any-t-2 t c = rw c.in-Any-t-2.is (any_right c.args.s.now _ c.in_default.not-Never)

pub ruled-returns-in-Object-t : goal.ruled-returns-in-Object-t
ruled-returns-in-Object-t t c =
    rw c.in-Object-t.is (object_right c.args.s.now _ c.in_default.not-Never c.in_default.not-Any)

pub ruled-merged-requires : goal.ruled-merged-requires
ruled-merged-requires t c = (
  omega (arith, c.decreases),
  (
    refl,
    (
      listed_of c.args.s.now c.in_default.not-Any c.in_default.not-Object c.requires.left,
      listed_of c.args.t.now c.in_default-t-2.not-Any c.in_default-t-2.not-Object c.requires.right,
    ),
  ),
)
