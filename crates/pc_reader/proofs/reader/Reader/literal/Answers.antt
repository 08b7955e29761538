use Rattle.std.proofs.Common.{refl, sym, ◌∙◌}
use Rattle.pc_token.specs.declared.token.TokenKind.TheVariants as kind
use Rattle.pc_token.specs.declared.token.Operator.TheVariants as sign
use Rattle.pc_grammar.specs.Machine.States.{literal_due}
use Rattle.pc_reader.specs.Reading.{lexeme}
use Rattle.pc_reader.proofs.Steps.{kind_seen}
use Rattle.pc_reader.proofs.Streams.{blame}
use Rattle.pc_reader.proofs.Literals.{after_minus, rejects_other}
use Rattle.pc_reader.proofs.reader.Reader.literal.Goals as goal

pub returns-then-sees : goal.returns-then-sees
returns-then-sees g c = after_minus c.negative.new.self c.in_ok-minus.ensures
    (kind_seen (kind.Operator sign.Minus) (sym c.sees.ensures ∙ c.if-sees.true) c.in_ok-minus.ensures.here)
    c.negative.result (c.negative.ensures (lexeme g.X.AsStr.text c.in_ok-minus.minus) refl)

pub returns-then-not-sees_literal : goal.returns-then-not-sees_literal
returns-then-not-sees_literal g c = blame (λ o w. λ k. w (literal_due k)
    (rejects_other g.X.AsStr.text c.args.self.now k (sym c.sees_literal.ensures ∙ c.if-not-sees_literal.true)
    (sym c.sees.ensures ∙ c.if-sees.false))) c.misfit.ensures
