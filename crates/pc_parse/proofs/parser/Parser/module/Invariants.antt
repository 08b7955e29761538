use Rattle.pc_reader.specs.Reading.{IsReady, left_in}
use Rattle.pc_parse.specs.Internal.Modules.{ItemsSoFar}
use Rattle.pc_parse.proofs.parser.Parser.module.Given as goal

abbrev pub invariant-loop-items : goal.invariant-loop-items
invariant-loop-items g l = record {
  ready : IsReady g.I.Iterator.can_next g.I.Iterator.remaining l.self.reader;
  items : ItemsSoFar g.X.AsStr g.I.Iterator l.fn.self
      l.self l.headers l.items;
}

abbrev pub decreases-loop-items : goal.decreases-loop-items
decreases-loop-items g l = left_in g.I.Iterator.remaining l.self.reader
