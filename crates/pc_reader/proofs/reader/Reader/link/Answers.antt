use Rattle.std.proofs.Common.{arith}
use Rattle.pc_reader.specs.Internal.Links.{link_view}
use Rattle.pc_reader.proofs.Steps.{link_ahead}
use Rattle.pc_reader.proofs.reader.Reader.link.Goals as goal

pub returns : goal.returns
returns g c = let k = c.kind.ensures in let w = c.in_ok-kind.was in link_ahead c.args.level c.args.left
    (link_view c.in_ok-link.link) c.args.self.now.ahead c.in_ok-kind.kind
    (let k = c.kind.ensures in let w = c.in_ok-kind.was in cc) c.in_ok-link.ensures
    (omega (arith, c.level.ensures, c.if-level.false)) (omega (arith, c.left.ensures, c.if-left.false))
