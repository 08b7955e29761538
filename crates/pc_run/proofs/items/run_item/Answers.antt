use Rattle.std.proofs.Common.{◌≡◌, ◌∙◌, sym, ap}
use Rattle.pc_tree.specs.Tree.{func_of, item_of_kind}
use Rattle.pc_run.specs.Internal.Items.{item_in}
use Rattle.pc_machine.specs.Plain.{Progress, Came}
use Rattle.pc_machine.specs.Machine.{progress_of}
use Rattle.pc_run.proofs.Defaults.{def_unvalued, def_done}
use Rattle.pc_run.proofs.items.run_item.Goals as goal

pub returns-then-not-have_values-clause-plain : goal.returns-then-not-have_values-clause-plain
returns-then-not-have_values-clause-plain c n lt = ap (λ k. item_in n c.args.imports_dataclass
    (item_of_kind c.args.item.now.first k) (progress_of c.args.machine.now)) c.in-Def.is
    ∙ def_unvalued n c.args.imports_dataclass c.args.item.now.first (func_of c.in-Def.def)
    (progress_of c.args.machine.now) (sym (rw c.deref.ensures.value at c.have_values.ensures)
    ∙ c.if-not-have_values.true)

pub returns-in_ok-bind_global-in-Def-clause-plain : goal.returns-in_ok-bind_global-in-Def-clause-plain
returns-in_ok-bind_global-in-Def-clause-plain c n lt = ap (λ k. item_in n c.args.imports_dataclass
    (item_of_kind c.args.item.now.first k) (progress_of c.args.machine.now)) c.in-Def.is
    ∙ def_done n c.args.imports_dataclass c.args.item.now.first (func_of c.in-Def.def) (progress_of c.args.machine.now)
    (sym (rw c.deref.ensures.value at c.have_values.ensures) ∙ c.if-not-have_values.false)
    ∙ ap (λ (w : Progress). Came tt w)
    (sym (rw c.as_str-in-Def.ensures.value at c.in_ok-bind_global-in-Def.ensures.plain))
