use Rattle.std.proofs.Common.{arith}
use Rattle.std.proofs.lemmas.List.{take_rest}
use Rattle.pc_layout.proofs.LineEnds.{stands}
use Rattle.pc_layout.proofs.line_end.line_feed.Goals as goal

pub returns-in-Some-clause-found : goal.returns-in-Some-clause-found
returns-in-Some-clause-found c = λ _. (stands c.args.bytes.now c.args.from c.in-Some.n (omega arith)
    (rw (take_rest c.args.bytes.now c.args.from) at c.in-Some.ensures)).1
