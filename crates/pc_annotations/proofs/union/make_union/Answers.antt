use Rattle.std.proofs.Common.{◌≡◌, false, Some, None, replicate, sym, ap, ◌∙◌}
use Rattle.pc_annotations.specs.Internal.TypesRead.{heads_make_union}
use Rattle.pc_annotations.specs.Internal.Marks.{with_marks}
use Rattle.pc_annotations.proofs.Unrelated.{others_make_none, one_is_twice, marks_from_none, whether_unrelated}
use Rattle.pc_annotations.proofs.union.make_union.Goals as goal

pub returns-then-not-are_all_apart : goal.returns-then-not-are_all_apart
returns-then-not-are_all_apart c =
    let bases = c.args.parents.now in
    others_make_none bases c.count-count.result c.args.heads.now
    (sym c.if-not-are_all_apart.true ∙ c.are_all_apart-2.ensures
    ∙ ap (heads_make_union bases) (c.deref.ensures.value ∙ c.in_ok-others.ensures))

pub returns-in-None : goal.returns-in-None
returns-in-None c =
    let n = c.count-count.result in
    let r : c.in_ok-marks.marks.items ≡ replicate n false = c.in_ok-marks.ensures.items_if_clones_equal (λ y h. h) in
    let e : with_marks n (replicate n false) c.args.heads.now ≡ None =
    marks_from_none n c.in_ok-marks.marks.items c.args.heads.now r ∙ sym c.in-None.ensures in
    one_is_twice c.args.parents.now n c.args.heads.now e

pub returns : goal.returns
returns c =
    let bases = c.args.parents.now in
    let n = c.count-count.result in
    let r : c.in_ok-marks.marks.items ≡ replicate n false = c.in_ok-marks.ensures.items_if_clones_equal (λ y h. h) in
    let e : with_marks n (replicate n false) c.args.heads.now ≡ Some c.in-Some.marks.items =
    marks_from_none n c.in_ok-marks.marks.items c.args.heads.now r ∙ sym c.in-Some.ensures in
    whether_unrelated bases n c.args.heads.now c.ordered.ensures (sym c.count-count.ensures) c.in-Some.marks.items
    c.are_unrelated.result e c.are_unrelated.ensures
    (sym c.if-not-are_all_apart.false ∙ c.are_all_apart-2.ensures
    ∙ ap (heads_make_union bases) (c.deref.ensures.value ∙ c.in_ok-others.ensures))
