use Rattle.std.proofs.Common.{List, ℕ, subst}
use Rattle.pc_report.specs.Pieces.{Puts}
use Rattle.pc_report.proofs.pieces.Pieces.put_str.Goals as goal

pub returns : goal.returns
returns g c =
    subst (λ (l : List ℕ). Puts g.W.Write.contents l c.args.device.now c.put.new.device c.args.self.now c.put.new.self)
    c.as_bytes.ensures.value c.put.ensures
