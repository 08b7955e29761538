use Rattle.std.proofs.Common.{refl, sym, ◌∙◌}
use Rattle.std.proofs.lemmas.Result.{err_from_is_err_and}
use Rattle.pc_token.specs.declared.token.TokenKind.TheVariants as kind
use Rattle.pc_token.specs.declared.token.Operator.TheVariants as sign
use Rattle.pc_grammar.specs.Machine.{at}
use Rattle.pc_grammar.specs.Machine.States.{class_named}
use Rattle.pc_reader.proofs.Steps.{kind_seen}
use Rattle.pc_reader.proofs.Streams.{blame}
use Rattle.pc_parse.proofs.Members.{no_base, suite_missing, base_fails, base_unclosed, base_read}
use Rattle.pc_parse.proofs.class.base.Goals as goal

pub returns-in_err-fixed : goal.returns-in_err-fixed
returns-in_err-fixed g c = let p = err_from_is_err_and c.from_residual.result c.from_residual.ensures.1 in
    rw (p.1, p.2) (suite_missing g.X.AsStr.text g.I.Iterator.next_gives c.args.reader.now _
    (sym c.sees.ensures ∙ c.if-not-sees.true) c.in_err-fixed.ensures)

pub returns-then-not-sees : goal.returns-then-not-sees
returns-then-not-sees g c = no_base (sym c.sees.ensures ∙ c.if-not-sees.true) c.in_ok-fixed.ensures

pub returns-in_err-take : goal.returns-in_err-take
returns-in_err-take g c = let p = err_from_is_err_and c.from_residual-in_err-take.result
    c.from_residual-in_err-take.ensures.1 in
    rw (p.1, p.2) (blame (λ o u. λ k q. u (at (class_named k)) (λ z. refl)) c.in_err-take.ensures)

pub returns-in_err-base : goal.returns-in_err-base
returns-in_err-base g c = let p = err_from_is_err_and c.from_residual-in_err-base.result
    c.from_residual-in_err-base.ensures.1 in
    rw (p.1, p.2) (base_fails c.in_ok-take.ensures (kind_seen (kind.Operator sign.LeftParenthesis)
    (sym c.sees.ensures ∙ c.if-not-sees.false) c.in_ok-take.ensures.here) c.in_err-base.ensures)

pub returns-in_err-fixed-2 : goal.returns-in_err-fixed-2
returns-in_err-fixed-2 g c = let p = err_from_is_err_and c.from_residual-in_err-fixed-2.result
    c.from_residual-in_err-fixed-2.ensures.1 in
    rw (p.1, p.2) (base_unclosed c.in_ok-take.ensures (kind_seen (kind.Operator sign.LeftParenthesis)
    (sym c.sees.ensures ∙ c.if-not-sees.false) c.in_ok-take.ensures.here) c.in_ok-base.ensures
    c.in_err-fixed-2.ensures)

pub returns : goal.returns
returns g c = base_read c.in_ok-take.ensures (kind_seen (kind.Operator sign.LeftParenthesis)
    (sym c.sees.ensures ∙ c.if-not-sees.false) c.in_ok-take.ensures.here) c.in_ok-base.ensures c.in_ok-fixed-2.ensures
