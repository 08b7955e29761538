use Rattle.std.proofs.Common.{ℕ, sym, subst}
use Rattle.pc_grammar.specs.Machine.{at}
use Rattle.pc_reader.proofs.Streams.{blame_any, blame, rejected, rejected_end, rejected_late}
use Rattle.pc_reader.specs.Reading.{Came, misfit_at}
use Rattle.pc_reader.proofs.reader.Reader.misfit.Goals as goal
use Rattle.pc_reader.proofs.reader.Reader.misfit.Goals.{in-Some, in-None}

pub returns-in-Ok : goal.returns-in-Ok
returns-in-Ok g c = blame_any (λ st j. let P : ℕ → Type 0 = λ n. Came g.X.AsStr.text g.I.Iterator.next_gives
    c.args.self.now (at st) (misfit_at n) in
    elim c.match-self.branch [
      | in-Some w ↦ subst P (sym w.byte-is) (rejected g.X.AsStr.text g.I.Iterator.next_gives st c.args.self.now _ j
          w.in-Some.is (c.in-Ok.ensures _))
      | in-None w ↦ subst P (sym w.byte-is) (rejected_end g.X.AsStr.text g.I.Iterator.next_gives st c.args.self.now j
          w.in-None.is)
    ])

pub returns-in-Err : goal.returns-in-Err
returns-in-Err g c = blame (λ o x. λ st j. rejected_late g.X.AsStr.text g.I.Iterator.next_gives st c.args.self.now o j
    x) c.in-Err.ensures
