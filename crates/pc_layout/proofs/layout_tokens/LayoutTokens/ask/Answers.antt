use Rattle.std.proofs.Common.{refl}
use Rattle.pc_layout.proofs.Steps.{faults, refuses, begins}
use Rattle.pc_layout.proofs.layout_tokens.LayoutTokens.ask.Goals as goal

pub returns-in-Some-Err-clause-steps : goal.returns-in-Some-Err-clause-steps
returns-in-Some-Err-clause-steps g c = (
  refl,
  faults g.I.Iterator.next_gives c.args.self.now.pending_line _ _ _ c.requires.due
      (rw c.in-Some-Err.field-0-is at c.in-Some-Err.ensures.steps),
)

pub returns-in-Ok-clause-steps : goal.returns-in-Ok-clause-steps
returns-in-Ok-clause-steps g c = λ ys h. begins g.I.Iterator.next_gives c.args.self.now.pending_line c.begin.new.self
    c.take-in-Ok.new.self _ c.next.new.self c.in-Some-Ok.line _ ys
    c.requires.due c.in-Ok.ensures.due (rw c.in-Some-Ok.field-0-is at c.in-Some-Ok.ensures.steps) c.in-Ok.ensures.gives
    c.take-in-Ok.ensures.asks c.take-in-Ok.ensures.gives h

pub returns-in-Err-clause-steps : goal.returns-in-Err-clause-steps
returns-in-Err-clause-steps g c = (
  refl,
  refuses g.I.Iterator.next_gives c.args.self.now.pending_line _ c.next.new.self c.in-Some-Ok.line c.in-Err.refusal _
      c.requires.due
      (rw c.in-Some-Ok.field-0-is at c.in-Some-Ok.ensures.steps) c.in-Err.ensures.gives c.outrank-fault.ensures,
)
