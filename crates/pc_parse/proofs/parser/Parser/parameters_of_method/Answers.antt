use Rattle.std.proofs.Common.{[], refl, sym, ◌∙◌}
use Rattle.std.proofs.lemmas.Result.{err_from_is_err_and}
use Rattle.pc_token.specs.declared.token.TokenKind.TheVariants as kind
use Rattle.pc_token.specs.declared.token.Operator.TheVariants as sign
use Rattle.pc_reader.proofs.Steps.{kind_seen}
use Rattle.pc_reader.proofs.Streams.{blame}
use Rattle.std.specs.Prelude.{codes}
use Rattle.pc_grammar.specs.Machine.{at}
use Rattle.pc_grammar.specs.Machine.States.{fixed, self_read}
use Rattle.pc_grammar.specs.Machine.Kinds.{a_form}
use Rattle.pc_reader.proofs.Words.{form_due, form_read}
use Rattle.pc_parse.proofs.Functions.{after_self, self_alone, self_unclosed}
use Rattle.pc_parse.proofs.parser.Parser.parameters_of_method.Goals as goal

pub returns-in_err-expect_name : goal.returns-in_err-expect_name
returns-in_err-expect_name g c = let p = err_from_is_err_and c.from_residual.result c.from_residual.ensures.1 in
    rw (p.1, p.2) (blame (λ o w. λ d. w (fixed (a_form (codes "self")) [] (self_read d))
    (form_due (codes "self") [] (self_read d))) c.in_err-expect_name.ensures)

pub returns-in_err-take : goal.returns-in_err-take
returns-in_err-take g c = let p = err_from_is_err_and c.from_residual-in_err-take.result
    c.from_residual-in_err-take.ensures.1 in
    rw (p.1, p.2) (blame (λ o w. λ d. form_read c.in_ok-expect_name.ensures [] (self_read d) o
    (w (at (self_read d)) (λ q. refl))) c.in_err-take.ensures)

pub returns-then-sees : goal.returns-then-sees
returns-then-sees g c = after_self c.args.self.now (record { reader = c.take.new.self; deep = c.args.self.now.deep })
    c.parameters.new.self c.in_ok-expect_name.ensures c.in_ok-take.ensures
    (kind_seen (kind.Operator sign.Comma) (sym c.sees.ensures ∙ c.if-sees.true) c.in_ok-take.ensures.here) refl
    c.parameters.result c.parameters.ensures

pub returns-in_err-expect : goal.returns-in_err-expect
returns-in_err-expect g c = let p = err_from_is_err_and c.from_residual-in_err-expect.result
    c.from_residual-in_err-expect.ensures.1 in
    rw (p.1, p.2) (self_unclosed c.in_ok-expect_name.ensures (sym c.sees.ensures ∙ c.if-sees.false)
    c.in_err-expect.ensures.taken)

pub returns : goal.returns
returns g c = self_alone c.in_ok-expect_name.ensures c.in_ok-expect.ensures.taken c.in_ok-expect.ensures.kind refl
    c.new.ensures.items
