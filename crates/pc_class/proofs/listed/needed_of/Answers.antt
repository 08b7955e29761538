use Rattle.std.proofs.Common.{◌≡◌, ◌+◌, ◌∷◌, [], ◌∙◌, suc, length, sym, ap, arith, length-append}
use Rattle.std.specs.Prelude.{slice_get}
use Rattle.pc_class.specs.declared.table.Parameter.{Parameter as RustParameter}
use Rattle.pc_class.specs.Listed.{needed_in}
use Rattle.pc_class.proofs.Listings.{needed_here, needed_before, needed_pushed}
use Rattle.pc_class.proofs.listed.needed_of.Goals.{then-not-params-i, else-not-params-i}
use Rattle.pc_class.proofs.listed.needed_of.Goals as goal

pub loop-i-preserved : goal.loop-i-preserved
loop-i-preserved g c =
    let ps = c.args.params.now in
    let i = c.loop-i.i in
    let p = c.index-params-i.result in
    let less = c.loop-i-test.true in
    let one : i + 1 ≡ suc i = omega arith in
    let ns = c.loop-i.needed.items in
    let last : c.if-not-params-i.last ≡ needed_in ps (i + 1) = elim c.if-not-params-i.branch [
      | then-not-params-i w ↦ w.last-is ∙ sym (needed_here ps i (i + 1) p one less c.index-params-i.is
          (ap (λ (q : RustParameter _). q.has_default) c.index-params-i.is ∙ w.if-not-params-i.true))
      | else-not-params-i w ↦ w.last-is ∙ c.loop-i.invariant.last
          ∙ sym (needed_before ps i (i + 1) p one less c.index-params-i.is
          (ap (λ (q : RustParameter _). q.has_default) c.index-params-i.is ∙ w.if-not-params-i.false))
    ] in
    record {
      last = last;
      many = ap length c.in_ok-push-2.ensures.items ∙ length-append ns (c.if-not-params-i.last ∷ [])
          ∙ ap (λ n. n + 1) c.loop-i.invariant.many;
      each = λ k within. ap (λ xs. slice_get xs k) c.in_ok-push-2.ensures.items
          ∙ needed_pushed ps ns i c.if-not-params-i.last c.loop-i.invariant.many c.loop-i.invariant.each last k within;
    }
