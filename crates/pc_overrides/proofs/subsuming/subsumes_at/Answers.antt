use Rattle.std.proofs.Common.{◌≡◌, ◌-◌, ◌<◌, suc, length, get_or, subst, arith}
use Rattle.pc_class.specs.Tables.{method_with}
use Rattle.pc_overrides.specs.Internal.Representing.{PartSubsumes}
use Rattle.pc_overrides.proofs.Parts.{subsumes_there}
use Rattle.pc_overrides.proofs.subsuming.subsumes_at.Goals as goal

pub returns : goal.returns
returns g c =
    let tree = g.S.TypeStore.tree in
    let old = c.args.old.now in
    let new = c.args.new.now in
    let x = c.index-taken-number.result in
    let y = c.index-takes-number.result in
    let number = c.args.part - 1 in
    let part : suc number ≡ c.args.part = omega (arith, c.if-part-eq0.false) in
    let taken = c.as_slice-taken.ensures in
    let takes = c.as_slice-takes.ensures in
    let less = subst (λ xs. number < length xs) taken c.if-number-taken.false in
    let less_new = subst (λ xs. number < length xs) takes c.if-number-takes.false in
    λ e. subst (PartSubsumes (method_with tree new) (method_with tree old)) part
    (subsumes_there tree new old number x y less less_new
    (subst (λ xs. x ≡ get_or xs number x) taken c.index-taken-number.is)
    (subst (λ xs. y ≡ get_or xs number y) takes c.index-takes-number.is)
    (c.in_ok-subsumed.ensures e))
