use Rattle.std.proofs.Common.{refl, arith, ap, sym, ◌∙◌}
use Rattle.pc_token.specs.declared.token.TokenKind.TheVariants as kind
use Rattle.pc_token.specs.declared.token.Operator.TheVariants as sign
use Rattle.pc_grammar.specs.Machine.{at}
use Rattle.pc_grammar.specs.Machine.States.{operand, have, go}
use Rattle.pc_reader.specs.Internal.Expressions.{value_ahead}
use Rattle.pc_reader.proofs.Streams.{blame}
use Rattle.pc_reader.proofs.Steps.{same_place, step_to, not_seen, skipped, nothing_ahead}
use Rattle.pc_reader.proofs.Values.{no_operand, no_value, undenied}
use Rattle.pc_reader.specs.Reading.{lexeme}
use Rattle.pc_reader.proofs.reader.Reader.single.Goals as goal

pub returns-in_default-clause-reads : goal.returns-in_default-clause-reads
returns-in_default-clause-reads g c = blame (λ o w. λ s h. w (operand s) (record {
  unfinished = refl;
  stuck_at = λ t e. absurd (nothing_ahead c.in_default.is e);
})) c.misfit.ensures

pub returns-then-not-is_value-clause-reads : goal.returns-then-not-is_value-clause-reads
returns-then-not-is_value-clause-reads g c = blame (λ o w. λ s h. w (operand s) (record {
  unfinished = refl;
  stuck_at = λ t e. no_operand s (lexeme g.X.AsStr.text t) t.kind
      (no_value (ap value_ahead c.in-Some.is ∙ sym c.is_value.ensures ∙ c.if-not-is_value.true) e)
      (not_seen (kind.Operator sign.LeftParenthesis) h.parenthesis e)
      (not_seen (kind.Operator sign.LeftBracket) h.bracket e) (not_seen (kind.Operator sign.LeftBrace) h.brace e)
      (not_seen (kind.Operator sign.Minus) h.primary.plain e) (undenied s h.primary.undenied e);
})) c.misfit-then-not-is_value.ensures

pub returns-in-Err-clause-reads : goal.returns-in-Err-clause-reads
returns-in-Err-clause-reads g c = blame (λ o w. λ s h. w (at (operand s)) (λ _. refl)) c.in-Err.ensures

pub returns-clause-reads : goal.returns-clause-reads
returns-clause-reads g c = let t = skipped c.in-Some.is c.in-Ok.ensures in
    let v = c.in_ok-operand.ensures.1 (sym c.is_value.ensures ∙ c.if-not-is_value.false) in record {
      part = v.part;
      keeps = v.keeps;
      low = omega (arith, c.in_ok-operand.ensures.0);
      ready = t.ready;
      later = t.later;
      begins = λ u e. v.begins ∙ same_place t.here e;
      leads = λ s f. step_to (operand s) (have c.in_ok-operand.operand.level v.part s) t
          (v.leads s ∙ ap (λ n. go (have n v.part s)) (sym c.in_ok-operand.ensures.0));
    }
