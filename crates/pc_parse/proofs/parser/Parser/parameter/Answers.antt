use Rattle.std.proofs.Common.{refl}
use Rattle.std.proofs.lemmas.Result.{err_from_is_err_and}
use Rattle.pc_parse.proofs.Parameters.{no_parameter, its_annotation_fails, its_default_fails, parameter_read}
use Rattle.pc_parse.proofs.parser.Parser.parameter.Goals as goal

pub returns-in_err-name : goal.returns-in_err-name
returns-in_err-name g c = let p = err_from_is_err_and c.from_residual.result c.from_residual.ensures.1 in
    rw (p.1, p.2) (no_parameter g.X.AsStr.text g.I.Iterator.next_gives c.args.self.now.reader _ c.in_err-name.ensures)

pub returns-in_err-annotation : goal.returns-in_err-annotation
returns-in_err-annotation g c = let p = err_from_is_err_and c.from_residual-in_err-annotation.result
    c.from_residual-in_err-annotation.ensures.1 in
    rw (p.1, p.2) (its_annotation_fails c.args.self.now c.in_ok-name.ensures c.in_err-annotation.ensures)

pub returns-in-Err : goal.returns-in-Err
returns-in-Err g c = its_default_fails c.args.self.now c.in_ok-name.ensures refl c.in_ok-annotation.ensures
    c.in-Err.ensures

pub returns : goal.returns
returns g c = parameter_read c.args.self.now c.in_ok-name.ensures refl c.in_ok-annotation.ensures refl refl
    c.in-Ok.ensures
