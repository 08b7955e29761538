use Rattle.std.proofs.Common.{Ok}
use Rattle.pc_token.specs.Lexeme.{logical_line_of}
use Rattle.pc_token.proofs.Turns.{line_comes}
use Rattle.pc_token.proofs.stream.LinesIterator.next.Goals as goal

pub returns-clause-steps : goal.returns-clause-steps
returns-clause-steps c items h =
    let s = c.args.self.now in
    rw c.if-self.false (line_comes c.new-reading.result c.read.new.self c.in-Ok.more s.at s.text.now
    (Ok (logical_line_of c.in_ok-line.line)) items
    c.new-reading.ensures.context c.new-reading.ensures.text c.in-Ok.ensures (c.in_ok-line.ensures items) h)
