use Rattle.std.proofs.Common.{◌+◌, ◌*◌, ◌≤◌, ◌<◌, List}
use Rattle.pc_token.specs.Lexeme.{Lexeme}
use Rattle.pc_reader.specs.Internal.Operands.{Starts}
use Rattle.pc_reader.specs.Reading.{IsReady, left_in}
use Rattle.pc_parse.specs.Internal.Annotations.{PartsSoFar, ArgumentsSoFar}
use Rattle.pc_parse.proofs.annotation.+annotations.Given as goal

abbrev pub decreases-arguments : goal.decreases-arguments
decreases-arguments g l = 4 * left_in g.I.Iterator.remaining l.reader.now + 3

abbrev pub decreases-part : goal.decreases-part
decreases-part g l = 4 * left_in g.I.Iterator.remaining l.reader.now + 1

abbrev pub decreases-union : goal.decreases-union
decreases-union g l = 4 * left_in g.I.Iterator.remaining l.reader.now + 2

abbrev pub invariant-arguments-loop-argument : goal.invariant-arguments-loop-argument
invariant-arguments-loop-argument g l = record {
  ready : IsReady g.I.Iterator.can_next g.I.Iterator.remaining l.reader;
  later : left_in g.I.Iterator.remaining l.reader ≤ left_in g.I.Iterator.remaining l.fn.reader;
  arguments : (ts : List Lexeme) → Starts ts l.fn.head.place.start
      → ArgumentsSoFar g.X.AsStr g.I.Iterator l.fn.reader
      l.reader l.arguments l.fn.head ts;
}

abbrev pub decreases-arguments-loop-argument : goal.decreases-arguments-loop-argument
decreases-arguments-loop-argument g l = left_in g.I.Iterator.remaining l.reader

abbrev pub invariant-union-loop-parts : goal.invariant-union-loop-parts
invariant-union-loop-parts g l = record {
  ready : IsReady g.I.Iterator.can_next g.I.Iterator.remaining l.reader;
  later : left_in g.I.Iterator.remaining l.reader < left_in g.I.Iterator.remaining l.fn.reader;
  parts : PartsSoFar g.X.AsStr g.I.Iterator l.fn.reader
      l.reader l.parts l.start;
}

abbrev pub decreases-union-loop-parts : goal.decreases-union-loop-parts
decreases-union-loop-parts g l = left_in g.I.Iterator.remaining l.reader
