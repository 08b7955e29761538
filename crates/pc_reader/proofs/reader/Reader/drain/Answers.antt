use Rattle.std.proofs.Common.{refl}
use Rattle.pc_grammar.specs.Machine.{lost}
use Rattle.pc_reader.proofs.Streams.{at_end}
use Rattle.pc_reader.proofs.reader.Reader.drain.Goals as goal

pub returns : goal.returns
returns g c = λ b. c.loop-self.invariant.leads b _ (at_end g.X.AsStr.text g.I.Iterator.next_gives _ (lost b) _
    c.in_default.is refl)
