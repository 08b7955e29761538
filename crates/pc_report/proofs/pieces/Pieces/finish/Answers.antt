use Rattle.std.proofs.Common.{rules}
use Rattle.pc_report.proofs.Underway.{begun_only, finished}
use Rattle.pc_report.proofs.pieces.Pieces.finish.Goals as goal

pub returns-then-self : goal.returns-then-self
returns-then-self g c = λ bytes start way.
    begun_only g.W.Write.contents c.let_out.new.self.failed c.let_out.new.self.held.items bytes start
    c.let_out.new.device c.if-self.true (c.let_out.ensures.puts bytes start way)

pub returns : goal.returns
returns g c = λ bytes start way.
    finished g.W.Write.contents c.let_out.new.self.failed c.let_out.new.self.held.items bytes start
    c.let_out.new.device c.if-self.false (search rules) (c.let_out.ensures.puts bytes start way)
