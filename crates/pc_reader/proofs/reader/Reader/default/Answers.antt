use Rattle.std.proofs.Common.{sym, ◌∙◌}
use Rattle.std.proofs.lemmas.Result.{err_from_is_err_and}
use Rattle.pc_token.specs.declared.token.TokenKind.TheVariants as kind
use Rattle.pc_token.specs.declared.token.Operator.TheVariants as sign
use Rattle.pc_grammar.specs.Machine.{at}
use Rattle.pc_reader.proofs.Steps.{kind_seen}
use Rattle.pc_reader.proofs.Streams.{blame}
use Rattle.pc_reader.proofs.Literals.{default_fails, default_read}
use Rattle.pc_reader.proofs.reader.Reader.default.Goals as goal

pub returns-in_err-take : goal.returns-in_err-take
returns-in_err-take g c = let p = err_from_is_err_and c.from_residual.result c.from_residual.ensures.1 in
    rw (p.1, p.2) (blame (λ o w. λ st k other x. w (at st) (λ q. x.unfinished)) c.in_err-take.ensures)

pub returns-in_err-literal : goal.returns-in_err-literal
returns-in_err-literal g c = let p = err_from_is_err_and c.from_residual-in_err-literal.result
    c.from_residual-in_err-literal.ensures.1 in
    rw (p.1, p.2) (default_fails c.in_ok-take.ensures (kind_seen (kind.Operator sign.Equal)
    (sym c.sees.ensures ∙ c.if-not-sees.false) c.in_ok-take.ensures.here) c.in_err-literal.ensures)

pub returns : goal.returns
returns g c = default_read c.in_ok-take.ensures (kind_seen (kind.Operator sign.Equal)
    (sym c.sees.ensures ∙ c.if-not-sees.false) c.in_ok-take.ensures.here) c.in_ok-literal.ensures
