use Rattle.std.proofs.Common.{Ok, ◌∷◌}
use Rattle.pc_reader.proofs.Streams.{blame_any, fault_first}
use Rattle.pc_reader.proofs.reader.Reader.new.Goals as goal

pub returns-in-Some-Ok-clause-leads : goal.returns-in-Some-Ok-clause-leads
returns-in-Some-Ok-clause-leads g c = λ st o (xs, cm, e). (
  Ok c.in-Some-Ok.first ∷ xs,
  (c.next.new.self, (rw c.in-Some-Ok.field-0-is at c.in-Some-Ok.ensures.steps), cm),
  e,
)

pub returns-in-Some-Err-clause-leads : goal.returns-in-Some-Err-clause-leads
returns-in-Some-Err-clause-leads g c = blame_any (λ st. fault_first g.X.AsStr.text g.I.Iterator.next_gives st _ _ _
    (rw c.in-Some-Err.field-0-is at c.in-Some-Err.ensures.steps))
