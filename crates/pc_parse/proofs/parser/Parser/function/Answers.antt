use Rattle.std.proofs.Common.{refl}
use Rattle.std.proofs.lemmas.Result.{err_from_is_err_and}
use Rattle.pc_grammar.specs.Grammar.{name_of_token}
use Rattle.pc_grammar.specs.Machine.States.{def_due}
use Rattle.pc_grammar.specs.Machine.Lines.{params_of}
use Rattle.pc_reader.proofs.Steps.{needs}
use Rattle.pc_reader.proofs.Streams.{blame}
use Rattle.pc_parse.proofs.Functions.{signature_fails, returns_fail, colon_fails, suite_fails, function_read}
use Rattle.pc_parse.proofs.parser.Parser.function.Goals as goal

pub returns-in_err-name : goal.returns-in_err-name
returns-in_err-name g c = let p = err_from_is_err_and c.from_residual.result c.from_residual.ensures.1 in
    rw (p.1, p.2) (blame (λ o w. λ owner first m. w (def_due owner first)
    (needs (λ t. params_of owner (record { owner = owner; first = first; name = name_of_token t })) refl (λ t k. refl)))
    c.in_err-name.ensures)

pub returns-in_err-params : goal.returns-in_err-params
returns-in_err-params g c = let p = err_from_is_err_and c.from_residual-in_err-params.result
    c.from_residual-in_err-params.ensures.1 in
    rw (p.1, p.2) (signature_fails c.args.self.now c.args.method c.in_ok-name.ensures c.in_err-params.ensures)

pub returns-in_err-returns : goal.returns-in_err-returns
returns-in_err-returns g c = let p = err_from_is_err_and c.from_residual-in_err-returns.result
    c.from_residual-in_err-returns.ensures.1 in
    rw (p.1, p.2) (returns_fail c.args.self.now c.in_ok-name.ensures refl c.in_ok-params.ensures
    c.in_err-returns.ensures)

pub returns-in-Err : goal.returns-in-Err
returns-in-Err g c =
    colon_fails c.args.self.now c.in_ok-name.ensures refl c.in_ok-params.ensures c.in_ok-returns.ensures
    c.in-Err.ensures.taken

pub returns-in-Err-suite : goal.returns-in-Err-suite
returns-in-Err-suite g c =
    suite_fails c.args.self.now c.in_ok-name.ensures refl c.in_ok-params.ensures c.in_ok-returns.ensures
    (record { reader = c.expect.new.self; deep = c.annotation_behind.new.self.deep }) c.in-Ok.ensures.taken
    c.in-Ok.ensures.kind c.in-Err-suite.ensures

pub returns : goal.returns
returns g c = function_read c.args.self.now c.in_ok-name.ensures refl c.in_ok-params.ensures c.in_ok-returns.ensures
    (record { reader = c.expect.new.self; deep = c.annotation_behind.new.self.deep }) c.in-Ok.ensures.taken
    c.in-Ok.ensures.kind refl c.in-Ok-suite.ensures
