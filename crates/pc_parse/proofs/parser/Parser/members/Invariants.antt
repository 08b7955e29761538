use Rattle.std.proofs.Common.{◌≤◌}
use Rattle.pc_reader.specs.Reading.{IsReady, left_in}
use Rattle.pc_parse.specs.Internal.Classes.{MembersSoFar}
use Rattle.pc_parse.proofs.parser.Parser.members.Given as goal

abbrev pub invariant-loop-members : goal.invariant-loop-members
invariant-loop-members g l = record {
  ready : IsReady g.I.Iterator.can_next g.I.Iterator.remaining l.self.reader;
  later : left_in g.I.Iterator.remaining l.self.reader ≤ left_in g.I.Iterator.remaining l.fn.self.reader;
  members : MembersSoFar g.X.AsStr g.I.Iterator l.fn.self
      l.self l.members;
}

abbrev pub decreases-loop-members : goal.decreases-loop-members
decreases-loop-members g l = left_in g.I.Iterator.remaining l.self.reader
