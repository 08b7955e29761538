use Rattle.std.proofs.Common.{◌≡◌, ◌∙◌, sym, ap}
use Rattle.pc_tree.specs.Tree.{class_of as class_def_of}
use Rattle.pc_machine.specs.Plain.{Progress, Came}
use Rattle.pc_machine.specs.Machine.{progress_of, class_of}
use Rattle.pc_run.proofs.Defaults.{class_unvalued, class_disordered, class_done}
use Rattle.pc_run.proofs.items.make_class.Goals as goal

pub returns-then-not-members_have_values-clause-plain : goal.returns-then-not-members_have_values-clause-plain
returns-then-not-members_have_values-clause-plain c = rw c.if-not-imports_dataclass.false
    (class_unvalued (class_def_of c.args.class.now) (progress_of c.args.machine.now) c.in_ok-base.base
    c.in_ok-base.ensures (sym (rw c.deref.ensures.value at c.members_have_values.ensures)
    ∙ c.if-not-members_have_values.true))

pub returns-then-not-defaults_last-clause-plain : goal.returns-then-not-defaults_last-clause-plain
returns-then-not-defaults_last-clause-plain c = rw (
  c.raised-then-not-defaults_last.ensures,
  c.if-not-imports_dataclass.false,
) (class_disordered (class_def_of c.args.class.now) (progress_of c.args.machine.now)
    c.in_ok-base.base (class_of c.in_ok-made.made) c.in_ok-base.ensures
    (sym (rw c.deref.ensures.value at c.members_have_values.ensures) ∙ c.if-not-members_have_values.false)
    (rw c.deref-2.ensures.value at c.in_ok-made.ensures) (sym (rw c.deref-3.ensures.value at c.defaults_last.ensures)
    ∙ c.if-not-defaults_last.true))

pub returns-clause-plain : goal.returns-clause-plain
returns-clause-plain c = rw c.if-not-imports_dataclass.false (class_done (class_def_of c.args.class.now)
    (progress_of c.args.machine.now) c.in_ok-base.base (class_of c.in_ok-made.made) c.in_ok-base.ensures
    (sym (rw c.deref.ensures.value at c.members_have_values.ensures) ∙ c.if-not-members_have_values.false)
    (rw c.deref-2.ensures.value at c.in_ok-made.ensures) (sym (rw c.deref-3.ensures.value at c.defaults_last.ensures)
    ∙ c.if-not-defaults_last.false) ∙ ap (λ (w : Progress). Came tt w)
    (sym (rw c.as_str.ensures.value at c.in_ok-bind_class.ensures.plain)))
