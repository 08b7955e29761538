use Rattle.pc_reader.specs.Internal.Operands.{prefix_of}
use Rattle.pc_reader.specs.Reading.{left_in}
use Rattle.pc_reader.specs.Internal.Expressions.{GivesSigns}
use Rattle.pc_reader.proofs.reader.Reader.signs.Given as goal

abbrev pub invariant-loop-kind : goal.invariant-loop-kind
invariant-loop-kind g l = GivesSigns g.X.AsStr g.I.Iterator
    (prefix_of l.fn.prefix) l.fn.self l.self l.signs.items

abbrev pub decreases-loop-kind : goal.decreases-loop-kind
decreases-loop-kind g l = left_in g.I.Iterator.remaining l.self
