use Rattle.std.proofs.Common.{refl}
use Rattle.std.proofs.lemmas.Result.{err_from_is_err_and}
use Rattle.pc_grammar.specs.Machine.States.{whole}
use Rattle.pc_reader.proofs.Streams.{blame}
use Rattle.pc_parse.proofs.Lines.{whole_given}
use Rattle.pc_parse.proofs.parser.Parser.expression.Goals as goal

pub returns-in_err-operand : goal.returns-in_err-operand
returns-in_err-operand g c = let p = err_from_is_err_and c.from_residual.result c.from_residual.ensures.1 in
    rw (p.1, p.2) (blame (λ o w. λ x. w (whole x) refl) c.in_err-operand.ensures.reads)

pub returns : goal.returns
returns g c = let q = c.in_ok-operand.ensures in whole_given g.X.AsStr g.I.Iterator c.args.self.now c.note.new.self
    c.operators.new.self
    c.in_ok-operand.operand
    c.note.ensures.reader c.note.ensures.deep q.reads q.over q.undotted
