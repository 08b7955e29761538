use Rattle.std.proofs.Common.{sym, ◌∙◌}
use Rattle.pc_reader.proofs.Streams.{blame}
use Rattle.pc_reader.proofs.Words.{takes_form, rejects_form}
use Rattle.pc_reader.proofs.reader.Reader.expect_name.Goals as goal

pub returns-then-sees_name : goal.returns-then-sees_name
returns-then-sees_name g c = takes_form g.X.AsStr g.I.Iterator c.args.self.now c.take.new.self c.args.form.now
    (sym c.sees_name.ensures
    ∙ c.if-sees_name.true) c.take.result c.take.ensures

pub returns-else-sees_name : goal.returns-else-sees_name
returns-else-sees_name g c = blame (λ o w. λ st n. w st (rejects_form (sym c.sees_name.ensures ∙ c.if-sees_name.false)
    n)) c.misfit.ensures
