use Rattle.std.proofs.Common.{sym, ◌∙◌}
use Rattle.pc_reader.proofs.Streams.{taken_kind}
use Rattle.pc_reader.proofs.reader.Reader.expect.Goals as goal

pub returns-then-sees-clause-kind : goal.returns-then-sees-clause-kind
returns-then-sees-clause-kind g c = taken_kind c.args.self.now c.args.kind c.take.result _ _ (λ t h. h.here)
    (sym c.sees.ensures ∙ c.if-sees.true) c.take.ensures
