use Rattle.std.proofs.Common.{List, ℕ, subst, ◌∙◌}
use Rattle.pc_report.specs.FaultLines.{IsTold}
use Rattle.pc_report.proofs.fault_lines.tell_memory.Goals as goal

pub returns-clause-told : goal.returns-clause-told
returns-clause-told g c = subst (λ (l : List ℕ). IsTold g.E.Write.contents l c.args.errors.now c.tell.new.errors)
    (c.as_bytes.ensures.value ∙ c.memory_text.ensures) c.tell.ensures
