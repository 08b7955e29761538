use Rattle.pc_layout.proofs.Steps.{settled_by, settled_fault}
use Rattle.pc_layout.proofs.layout_tokens.LayoutTokens.outrank.Goals as goal

pub returns-in-Err : goal.returns-in-Err
returns-in-Err g c = c.loop-next.invariant.leads _ (settled_fault g.I.Iterator.next_gives c.args.refusal _ _ _ _
    c.in-Err.is c.in-Some.ensures.steps)

pub loop-next-preserved-in_default-next : goal.loop-next-preserved-in_default-next
loop-next-preserved-in_default-next g c = record {
  can = (c.in-Some.ensures.goes.on c.loop-next.invariant.ends).0;
  ends = (c.in-Some.ensures.goes.on c.loop-next.invariant.ends).1;
  leads = λ e h. c.loop-next.invariant.leads e (settled_by g.I.Iterator.next_gives c.args.refusal _ _ _ _ e
      c.in_default-next.is c.in-Some.ensures.steps h);
}
