use Rattle.std.proofs.Common.{refl, sym, ◌∙◌}
use Rattle.std.proofs.lemmas.Result.{err_from_is_err_and}
use Rattle.pc_token.specs.declared.token.TokenKind.TheVariants as kind
use Rattle.pc_reader.proofs.Steps.{kind_seen}
use Rattle.pc_parse.proofs.Parameters.{opener_fails, annotation_fails, annotation_read}
use Rattle.pc_parse.proofs.parser.Parser.annotation_behind.Goals as goal

pub returns-in_err-take : goal.returns-in_err-take
returns-in_err-take g c = let p = err_from_is_err_and c.from_residual.result c.from_residual.ensures.1 in
    rw (p.1, p.2) (opener_fails g.X.AsStr.text g.I.Iterator.next_gives c.args.self.now.reader _ c.args.opener
    c.in_err-take.ensures)

pub returns-in_err-annotation : goal.returns-in_err-annotation
returns-in_err-annotation g c = let p = err_from_is_err_and c.from_residual-in_err-annotation.result
    c.from_residual-in_err-annotation.ensures.1 in
    rw (p.1, p.2) (annotation_fails c.args.opener c.in_ok-take.ensures
    (kind_seen (kind.Operator c.args.opener) (sym c.sees.ensures ∙ c.if-not-sees.false) c.in_ok-take.ensures.here)
    c.in_err-annotation.ensures)

pub returns : goal.returns
returns g c = annotation_read c.args.opener c.in_ok-take.ensures
    (kind_seen (kind.Operator c.args.opener) (sym c.sees.ensures ∙ c.if-not-sees.false) c.in_ok-take.ensures.here) refl
    c.in_ok-annotation.ensures
