use Rattle.std.proofs.Common.{◌↔◌, List, Contains, subst, sym}
use Rattle.pc_tree.specs.declared.code.Finding.{Finding}
use Rattle.pc_tree.specs.Tree.{module_of}
use Rattle.pc_notes.specs.Notes.{notes_of}
use Rattle.pc_module_rules.specs.Modules.{IsFinding}
use Rattle.pc_top.proofs.top.findings_alone.Goals as goal

pub returns-clause-found : goal.returns-clause-found
returns-clause-found c = λ f. subst (λ (l : List Finding). Contains l f ↔ IsFinding (module_of c.args.module) f)
    (sym c.in_ok-found.ensures.findings) (c.in_ok-checked.ensures.found f)

pub returns-clause-flows : goal.returns-clause-flows
returns-clause-flows c = (
  notes_of c.in_ok-checked.checked.notes,
  c.in_ok-checked.ensures.flows,
  c.in_ok-found.ensures.flows,
)
