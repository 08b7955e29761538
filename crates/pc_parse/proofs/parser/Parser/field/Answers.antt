use Rattle.std.proofs.Common.{refl}
use Rattle.std.proofs.lemmas.Result.{err_from_is_err_and}
use Rattle.pc_grammar.specs.Machine.States.{members}
use Rattle.pc_reader.proofs.Streams.{blame}
use Rattle.pc_parse.proofs.Members.{no_field, colon_missing, field_annotation_fails, field_default_fails}
use Rattle.pc_parse.proofs.Members.{line_end_missing, field_read}
use Rattle.pc_parse.proofs.parser.Parser.field.Goals as goal

pub returns-in_err-name : goal.returns-in_err-name
returns-in_err-name g c = let p = err_from_is_err_and c.from_residual.result c.from_residual.ensures.1 in
    rw (p.1, p.2)
    (blame (λ o u. λ k ms d i. u (members k ms) (no_field g.X.AsStr.text g.I.Iterator.next_gives
    c.args.self.now.reader k ms d i)) c.in_err-name.ensures)

pub returns-in_err-expect : goal.returns-in_err-expect
returns-in_err-expect g c = let p = err_from_is_err_and c.from_residual-in_err-expect.result
    c.from_residual-in_err-expect.ensures.1 in
    rw (p.1, p.2) (colon_missing c.args.self.now c.in_ok-name.ensures c.in_err-expect.ensures.taken)

pub returns-in_err-annotation : goal.returns-in_err-annotation
returns-in_err-annotation g c = let p = err_from_is_err_and c.from_residual-in_err-annotation.result
    c.from_residual-in_err-annotation.ensures.1 in
    rw (p.1, p.2) (field_annotation_fails c.args.self.now c.in_ok-name.ensures c.in_ok-expect.ensures.taken
    c.in_ok-expect.ensures.kind c.in_err-annotation.ensures)

pub returns-in-Err : goal.returns-in-Err
returns-in-Err g c = field_default_fails c.args.self.now c.in_ok-name.ensures c.in_ok-expect.ensures.taken
    c.in_ok-expect.ensures.kind refl c.in_ok-annotation.ensures c.in-Err.ensures

pub returns-in-Err-expect : goal.returns-in-Err-expect
returns-in-Err-expect g c = line_end_missing c.args.self.now c.in_ok-name.ensures c.in_ok-expect.ensures.taken
    c.in_ok-expect.ensures.kind refl c.in_ok-annotation.ensures c.in-Ok.ensures
    c.in-Err-expect.ensures.taken

pub returns-in-Ok-expect : goal.returns-in-Ok-expect
returns-in-Ok-expect g c =
    field_read c.args.self.now c.in_ok-name.ensures c.in_ok-expect.ensures.taken c.in_ok-expect.ensures.kind
    refl c.in_ok-annotation.ensures c.in-Ok.ensures refl refl c.in-Ok-expect.ensures.taken
    c.in-Ok-expect.ensures.kind
