use Rattle.std.proofs.Common.{drop, drop-cons}
use Rattle.std.proofs.lemmas.Result.{err_from_is_err_and}
use Rattle.pc_grammar.specs.Machine.Lines.{due}
use Rattle.pc_reader.proofs.Streams.{blame}
use Rattle.pc_reader.specs.Internal.FixedWords.{kinds_of}
use Rattle.pc_reader.proofs.Words.{next_due}
use Rattle.pc_reader.proofs.reader.Reader.fixed.Goals as goal

pub returns-in_err-expect : goal.returns-in_err-expect
returns-in_err-expect g c = let p = err_from_is_err_and c.from_residual.result c.from_residual.ensures.1 in
    rw (p.1, p.2) (blame (λ o w. λ next. c.loop-kind.invariant.leads next o
    (w (due (kinds_of (drop c.loop-kind.kind-index c.args.kinds.now)) next)
    (next_due c.args.kinds.now c.loop-kind.kind-index _ _ next
    (drop-cons c.args.kinds.now c.loop-kind.kind-index _ c.loop-kind-test.true)))) c.in_err-expect.ensures.taken)
