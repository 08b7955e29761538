use Rattle.std.proofs.Common.{◌+◌, ◌*◌}
use Rattle.pc_reader.specs.Reading.{left_in}
use Rattle.pc_parse.specs.Internal.Suites.{StmtsSoFar, BranchesSoFar}
use Rattle.pc_parse.proofs.parser.Parser.+statements.Given as goal

abbrev pub decreases-suite : goal.decreases-suite
decreases-suite g l = 8 * left_in g.I.Iterator.remaining l.self.now.reader + 2

abbrev pub decreases-headed : goal.decreases-headed
decreases-headed g l = 8 * left_in g.I.Iterator.remaining l.self.now.reader + 2

abbrev pub decreases-otherwise : goal.decreases-otherwise
decreases-otherwise g l = 8 * left_in g.I.Iterator.remaining l.self.now.reader + 2

abbrev pub decreases-statement : goal.decreases-statement
decreases-statement g l = 8 * left_in g.I.Iterator.remaining l.self.now.reader + 1

abbrev pub decreases-while_loop : goal.decreases-while_loop
decreases-while_loop g l = 8 * left_in g.I.Iterator.remaining l.self.now.reader

abbrev pub decreases-for_loop : goal.decreases-for_loop
decreases-for_loop g l = 8 * left_in g.I.Iterator.remaining l.self.now.reader

abbrev pub decreases-conditional : goal.decreases-conditional
decreases-conditional g l = 8 * left_in g.I.Iterator.remaining l.self.now.reader

abbrev pub invariant-suite-loop-stmts : goal.invariant-suite-loop-stmts
invariant-suite-loop-stmts g l = StmtsSoFar g.X.AsStr g.I.Iterator l.fn.self l.self l.stmts.items

abbrev pub decreases-suite-loop-stmts : goal.decreases-suite-loop-stmts
decreases-suite-loop-stmts g l = left_in g.I.Iterator.remaining l.self.reader

abbrev pub invariant-conditional-loop-branches : goal.invariant-conditional-loop-branches
invariant-conditional-loop-branches g l = BranchesSoFar g.X.AsStr g.I.Iterator l.first l.fn.self l.self
    l.branches.items

abbrev pub decreases-conditional-loop-branches : goal.decreases-conditional-loop-branches
decreases-conditional-loop-branches g l = left_in g.I.Iterator.remaining l.self.reader
