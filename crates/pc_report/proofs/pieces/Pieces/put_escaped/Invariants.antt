use Rattle.std.proofs.Common.{take}
use Rattle.json.specs.Print.{escape}
use Rattle.pc_report.specs.Pieces.{Puts}
use Rattle.pc_report.proofs.pieces.Pieces.put_escaped.Given as goal

abbrev pub invariant-loop-byte : goal.invariant-loop-byte
invariant-loop-byte g l = Puts g.W.Write.contents (escape (take l.byte-index l.bytes)) l.initial.device l.device
    l.initial.self l.self
