use Rattle.std.proofs.Common.{◌≡◌, ◌<◌, ◌+◌, true, false, Some, None, length, get_or, set, arith, rules, subst, sym, ap}
use Rattle.std.proofs.lemmas.Bool.{false≢true}
use Rattle.pc_types.specs.Below.{base_of}
use Rattle.pc_annotations.proofs.Walking.{IsWalked, clash, passed_root, passed_base, marked_too, mark_read}
use Rattle.pc_annotations.proofs.marks.are_unrelated.Goals as goal
use Rattle.pc_annotations.proofs.marks.are_unrelated.Goals.{in-Some+then-index+else-index-2, in-Some+else-index, in_default}

pub returns-then-index-2 : goal.returns-then-index-2
returns-then-index-2 c =
    let bases = c.args.parents.now in
    let now = c.loop-class.within.items in
    let e : base_of bases c.loop-class.class ≡ Some c.in-Some.base = search rules in
    let s = c.loop-class.invariant.same in
    let k = c.ordered.ensures _ _ e in
    let p = mark_read now c.in-Some.base _ _ (omega (arith, k)) c.index.ensures c.if-index.true in
    let q = mark_read now c.loop-class.class _ _ (omega arith) c.index-then-index.ensures c.if-index-2.true in (
      λ z. absurd (false≢true z),
      λ u. absurd (clash bases c.ordered.ensures c.args.marks.items now c.loop-class.class
          c.in-Some.base c.loop-class.invariant e p q u),
    )

pub loop-class-preserved : goal.loop-class-preserved
loop-class-preserved c =
    let bases = c.args.parents.now in
    let first = c.args.marks.items in
    let now = c.loop-class.within.items in
    let i = c.loop-class.class in
    let walked = c.loop-class.invariant in
    let s = walked.same in
    elim c.match-base.branch [
      | in-Some+then-index+else-index-2 w ↦
          let b = w.in-Some.base in
          let e : base_of bases i ≡ Some b = search rules in
          let k = c.ordered.ensures i b e in
          let p = mark_read now b _ _ (omega (arith, k)) w.index.ensures w.if-index.true in
          let q : get_or now i false ≡ false = search rules in
          let l : i < length first = omega arith in
          let m : set now i true ≡ c.match-base.within.items = sym (ap (λ v. v.items) w.within-is) in
          subst (λ x. IsWalked bases first x (i + 1)) m
          (marked_too bases c.ordered.ensures first now i b walked e l p q)
      | in-Some+else-index w ↦
          let b = w.in-Some.base in
          let e : base_of bases i ≡ Some b = search rules in
          let p : get_or now b false ≡ false = search rules in
          let m : now ≡ c.match-base.within.items = sym (ap (λ v. v.items) w.within-is) in
          subst (λ x. IsWalked bases first x (i + 1)) m (passed_base bases c.ordered.ensures first now i b walked e p)
      | in_default w ↦
          let e : base_of bases i ≡ None = search rules in
          let m : now ≡ c.match-base.within.items = sym (ap (λ v. v.items) w.within-is) in
          subst (λ x. IsWalked bases first x (i + 1)) m (passed_root bases c.ordered.ensures first now i walked e)
    ]
