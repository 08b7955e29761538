use Rattle.std.proofs.Common.{◌≤◌}
use Rattle.pc_reader.specs.Reading.{IsReady, left_in}
use Rattle.pc_parse.specs.Internal.Signatures.{ParamsSoFar}
use Rattle.pc_parse.proofs.parser.Parser.parameters.Given as goal

abbrev pub invariant-loop-alloc : goal.invariant-loop-alloc
invariant-loop-alloc g l = record {
  ready : IsReady g.I.Iterator.can_next g.I.Iterator.remaining l.self.reader;
  later : left_in g.I.Iterator.remaining l.self.reader ≤ left_in g.I.Iterator.remaining l.fn.self.reader;
  params : ParamsSoFar g.X.AsStr g.I.Iterator l.fn.self
      l.self l.params;
}

abbrev pub decreases-loop-alloc : goal.decreases-loop-alloc
decreases-loop-alloc g l = left_in g.I.Iterator.remaining l.self.reader
