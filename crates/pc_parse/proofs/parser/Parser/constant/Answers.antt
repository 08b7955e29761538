use Rattle.std.proofs.Common.{refl}
use Rattle.std.proofs.lemmas.Result.{err_from_is_err_and}
use Rattle.pc_tree.specs.Tree.{name_of}
use Rattle.pc_parse.proofs.Pieces.{constant_annotation_fails, value_missing, value_fails, line_unended, constant_read}
use Rattle.pc_parse.proofs.parser.Parser.constant.Goals as goal

pub returns-in_err-annotation : goal.returns-in_err-annotation
returns-in_err-annotation g c = λ unlike. let p = err_from_is_err_and c.from_residual.result
    c.from_residual.ensures.1 in
    rw (p.1, p.2) (constant_annotation_fails g.X.AsStr.text g.I.Iterator.next_gives c.args.self.now.reader
    (name_of c.args.name) unlike _ c.in_err-annotation.ensures)

pub returns-in-Err : goal.returns-in-Err
returns-in-Err g c = λ unlike. value_missing c.args.self.now (name_of c.args.name) unlike c.in_ok-annotation.ensures
    c.in-Err.ensures.taken

pub returns-in-Err-expression : goal.returns-in-Err-expression
returns-in-Err-expression g c =
    λ unlike. value_fails c.args.self.now (name_of c.args.name) unlike c.in_ok-annotation.ensures
    c.in-Ok.ensures.taken c.in-Ok.ensures.kind c.in-Err-expression.ensures

pub returns-in-Err-expect : goal.returns-in-Err-expect
returns-in-Err-expect g c =
    λ unlike. line_unended c.args.self.now (name_of c.args.name) unlike c.in_ok-annotation.ensures
    c.in-Ok.ensures.taken c.in-Ok.ensures.kind refl c.in-Ok-expression.ensures
    c.in-Err-expect.ensures.taken

pub returns-in-Ok-expect : goal.returns-in-Ok-expect
returns-in-Ok-expect g c =
    λ unlike. constant_read c.args.self.now (name_of c.args.name) unlike c.in_ok-annotation.ensures
    c.in-Ok.ensures.taken c.in-Ok.ensures.kind refl c.in-Ok-expression.ensures c.args.name refl refl refl
    c.in-Ok-expect.ensures.taken c.in-Ok-expect.ensures.kind
