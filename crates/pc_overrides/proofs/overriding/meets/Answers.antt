use Rattle.std.proofs.Common.{◌≡◌, ◌∙◌, ◌-◌, ◌<◌, ◌&&◌, suc, length, get_or, sym, ap, subst, arith}
use Rattle.pc_class.specs.Tables.{method_with}
use Rattle.pc_overrides.specs.Internal.OverrideTests.{flow_fits, meets}
use Rattle.pc_overrides.proofs.Parts.{meets_there}
use Rattle.pc_overrides.proofs.overriding.meets.Goals as goal

pub returns-then-not-suits-clause-value : goal.returns-then-not-suits-clause-value
returns-then-not-suits-clause-value g c =
    let tree = g.S.TypeStore.tree in
    let old = c.args.old.now in
    let new = c.args.new.now in
    let x = c.index-taken-number.result in
    let y = c.index-takes-number.result in
    let number = c.args.part - 1 in
    let part : c.args.part ≡ suc number = omega (arith, c.if-part-eq0.false) in
    let taken = c.as_slice-taken.ensures in
    let takes = c.as_slice-takes.ensures in
    let many : length old.params ≡ length new.params =
    sym (ap length taken) ∙ c.if-taken-takes.false ∙ ap length takes in
    let less : number < length old.params = subst (λ xs. number < length xs) taken c.if-number-taken.false in
    let flow = flow_fits c.args.relation c.args.parents.now (record { from = tree x.ty; into = tree y.ty }) in
    ap (λ b. b && flow) (sym (sym c.suits.ensures ∙ c.if-not-suits.true))
    ∙ meets_there tree c.args.relation c.args.parents.now new old number x y many less
    (subst (λ xs. x ≡ get_or xs number x) taken c.index-taken-number.is)
    (subst (λ xs. y ≡ get_or xs number y) takes c.index-takes-number.is)
    ∙ ap (meets c.args.relation c.args.parents.now (method_with tree new) (method_with tree old)) (sym part)

pub returns-clause-value : goal.returns-clause-value
returns-clause-value g c =
    let tree = g.S.TypeStore.tree in
    let old = c.args.old.now in
    let new = c.args.new.now in
    let x = c.index-taken-number.result in
    let y = c.index-takes-number.result in
    let number = c.args.part - 1 in
    let part : c.args.part ≡ suc number = omega (arith, c.if-part-eq0.false) in
    let taken = c.as_slice-taken.ensures in
    let takes = c.as_slice-takes.ensures in
    let many : length old.params ≡ length new.params =
    sym (ap length taken) ∙ c.if-taken-takes.false ∙ ap length takes in
    let less : number < length old.params = subst (λ xs. number < length xs) taken c.if-number-taken.false in
    let flow = flow_fits c.args.relation c.args.parents.now (record { from = tree x.ty; into = tree y.ty }) in
    c.fits-2.ensures.value
    ∙ ap (λ b. b && flow) (sym (sym c.suits.ensures ∙ c.if-not-suits.false))
    ∙ meets_there tree c.args.relation c.args.parents.now new old number x y many less
    (subst (λ xs. x ≡ get_or xs number x) taken c.index-taken-number.is)
    (subst (λ xs. y ≡ get_or xs number y) takes c.index-takes-number.is)
    ∙ ap (meets c.args.relation c.args.parents.now (method_with tree new) (method_with tree old)) (sym part)
