use Rattle.std.proofs.Common.{refl}
use Rattle.std.proofs.lemmas.Result.{err_from_is_err_and}
use Rattle.pc_grammar.specs.Machine.Lines.{params_of}
use Rattle.pc_reader.proofs.Streams.{blame}
use Rattle.pc_parse.proofs.Functions.{needs_open, signature_of_method, signature_of_function}
use Rattle.pc_parse.proofs.parser.Parser.signature.Goals as goal

pub returns-in_err-expect : goal.returns-in_err-expect
returns-in_err-expect g c = let p = err_from_is_err_and c.from_residual.result c.from_residual.ensures.1 in
    rw (p.1, p.2) (blame (λ o w. λ owner d m. w (params_of owner d) (needs_open c.args.self.now.reader owner d))
    c.in_err-expect.ensures.taken)

pub returns-then-method : goal.returns-then-method
returns-then-method g c = rw c.if-method.true (signature_of_method c.args.self.now
    (record { reader = c.expect.new.self; deep = c.args.self.now.deep }) c.parameters_of_method.new.self
    c.in_ok-expect.ensures.taken c.in_ok-expect.ensures.kind refl c.parameters_of_method.result
    c.parameters_of_method.ensures)

pub returns : goal.returns
returns g c = rw c.if-method.false (signature_of_function c.args.self.now
    (record { reader = c.expect.new.self; deep = c.args.self.now.deep }) c.parameters.new.self
    c.in_ok-expect.ensures.taken c.in_ok-expect.ensures.kind refl c.parameters.result c.parameters.ensures)
