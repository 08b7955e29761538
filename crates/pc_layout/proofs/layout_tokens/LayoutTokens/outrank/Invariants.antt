use Rattle.std.specs.Iterator.{IsFinite, size}
use Rattle.pc_source.specs.declared.fault.Fault.{Fault}
use Rattle.pc_layout.specs.TokenIterator.Items.{OutrankedBy}
use Rattle.pc_layout.proofs.layout_tokens.LayoutTokens.outrank.Given as goal

abbrev pub invariant-loop-next : goal.invariant-loop-next
invariant-loop-next g l = record {
  can : g.I.Iterator.can_next l.self.lines;
  ends : IsFinite (g.I.Iterator.remaining l.self.lines);
  leads : (e : Fault) → OutrankedBy g.I.Iterator.next_gives l.refusal l.self.lines e
      → OutrankedBy g.I.Iterator.next_gives l.refusal l.fn.self.lines e;
}

abbrev pub decreases-loop-next : goal.decreases-loop-next
decreases-loop-next g l = size (g.I.Iterator.remaining l.self.lines)
