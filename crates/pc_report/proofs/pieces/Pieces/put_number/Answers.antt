use Rattle.std.proofs.Common.{List, ℕ, subst}
use Rattle.pc_report.specs.Pieces.{Puts}
use Rattle.pc_report.proofs.pieces.Pieces.put_number.Goals as goal

pub returns : goal.returns
returns g c =
    subst (λ (l : List ℕ). Puts g.W.Write.contents l c.args.device.now c.put_str.new.device c.args.self.now
    c.put_str.new.self) c.format.ensures.text c.put_str.ensures
