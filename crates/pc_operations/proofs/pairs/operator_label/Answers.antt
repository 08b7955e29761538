use Rattle.std.proofs.Common.{◌≡◌, ap, sym, ◌∙◌}
use Rattle.std.specs.Prelude.{true, ◌||◌}
use Rattle.std.proofs.Math.Bool.{or-true}
use Rattle.pc_types.specs.Tree.{Never}
use Rattle.pc_rules.specs.Operations.{is_never}
use Rattle.pc_rules.proofs.Once.{clean_is, label_as}
use Rattle.pc_operations.proofs.Operators.{on_never}
use Rattle.pc_operations.proofs.pairs.operator_label.Goals.{then-is_never-via-then-is_never}
use Rattle.pc_operations.proofs.pairs.operator_label.Goals.{then-is_never-via-else-is_never+then-is_never-2}
use Rattle.pc_operations.proofs.pairs.operator_label.Goals as goal

pub returns-then-is_never-clause-value : goal.returns-then-is_never-clause-value
returns-then-is_never-clause-value g c = λ bases.
    let has = g.S.TypeStore.has in
    let tree = g.S.TypeStore.tree in
    let s = tree c.args.s.now in
    let t = tree c.args.t.now in
    let ty = c.in_ok-ty.ensures.value in
    let never : (is_never s || is_never t) ≡ true = elim c.then-is_never.branch [
      | then-is_never-via-then-is_never w ↦ ap (λ x. x || is_never t) (sym c.is_never.ensures ∙ w.if-is_never.true)
      | then-is_never-via-else-is_never+then-is_never-2 w ↦ ap (λ x. is_never s || x)
          (sym w.is_never-else-is_never.ensures ∙ w.if-is_never-2.true) ∙ or-true (is_never s)
    ] in
    label_as has tree c.never.new.self c.clean.result _ _ (on_never bases c.args.operator s t never)
    (clean_is has tree c.never.new.self c.clean.result c.in_ok-ty.ty Never (c.clean.ensures.label tree)
    c.clean.ensures.ty ty.0 ty.1)
