use Rattle.std.proofs.Common.{ℕ, Result}
use Rattle.pc_source.specs.declared.fault.Fault.{Fault}
use Rattle.pc_tree.specs.Tree.{Module}
use Rattle.pc_grammar.specs.Machine.{lost}
use Rattle.pc_reader.specs.Reading.{IsReady, left_in, Came}
use Rattle.pc_reader.proofs.reader.Reader.drain.Given as goal

abbrev pub invariant-loop-self : goal.invariant-loop-self
invariant-loop-self g l = record {
  ready : IsReady g.I.Iterator.can_next g.I.Iterator.remaining l.self;
  leads : (b : ℕ) (o : Result Module Fault) → Came g.X.AsStr.text g.I.Iterator.next_gives l.self (lost b) o
      → Came g.X.AsStr.text g.I.Iterator.next_gives l.fn.self (lost b) o;
}

abbrev pub decreases-loop-self : goal.decreases-loop-self
decreases-loop-self g l = left_in g.I.Iterator.remaining l.self
