use Rattle.std.proofs.Common.{◌≡◌, ◌∙◌, sym, ap, subst, List, ℕ, OnOk}
use Rattle.std.specs.Prelude.{is_some}
use Rattle.pc_scope.specs.Internal.WalkViews.{locals_in}
use Rattle.pc_scope.proofs.TextSets.{bound_new, bound_reserved, bound_again}
use Rattle.pc_scope.proofs.local_names.Locals.bind.Goals.{then-is_some-via-then-is_some}
use Rattle.pc_scope.proofs.local_names.Locals.bind.Goals.{then-is_some-via-else-is_some+then-has}
use Rattle.pc_scope.proofs.local_names.Locals.bind.Goals as goal

pub returns : goal.returns
returns c =
    let names = locals_in c.args.self.now in
    subst (λ (l : List (List ℕ)). OnOk c.add.result (locals_in c.add.new.self ≡ l))
    (sym (bound_new names c.args.name.now (ap is_some (sym c.builtin.ensures) ∙ sym c.is_some.ensures
    ∙ c.if-is_some.false) (sym c.has.ensures ∙ c.if-has.false))) c.add.ensures

pub returns-then-is_some : goal.returns-then-is_some
returns-then-is_some c = elim c.then-is_some.branch [
  | then-is_some-via-then-is_some w ↦ sym (bound_reserved (locals_in c.args.self.now) c.args.name.now
      (ap is_some (sym c.builtin.ensures) ∙ sym c.is_some.ensures ∙ w.if-is_some.true))
  | then-is_some-via-else-is_some+then-has w ↦ sym (bound_again (locals_in c.args.self.now) c.args.name.now
      (sym w.has.ensures ∙ w.if-has.true))
]
