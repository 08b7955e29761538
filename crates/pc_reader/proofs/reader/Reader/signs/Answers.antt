use Rattle.std.proofs.Common.{[], ◌∷◌, ◌++◌, refl, arith, ap, sym, ◌∙◌, subst}
use Rattle.std.proofs.lemmas.Result.{err_from_is_err_and}
use Rattle.pc_grammar.specs.Machine.{at}
use Rattle.pc_grammar.specs.Machine.States.{applying, operand}
use Rattle.pc_reader.specs.Internal.Operands.{prefix_of, signs_on}
use Rattle.pc_reader.specs.Reading.{lexeme, Came}
use Rattle.pc_reader.proofs.Streams.{blame}
use Rattle.pc_reader.proofs.Steps.{same_place, step_to, kind_seen}
use Rattle.pc_reader.proofs.Signs.{some_sign, signs_more, starts_push, takes_signs, sign_turn}
use Rattle.std.proofs.Common.{append_assoc}
use Rattle.pc_grammar.specs.Grammar.{first_place}
use Rattle.pc_grammar.specs.Fronts.Expressions.{prefix_kind}
use Rattle.pc_reader.specs.Reading.{IsAhead}
use Rattle.pc_reader.proofs.reader.Reader.signs.Goals as goal

pub returns-in_err-sign-clause-reads : goal.returns-in_err-sign-clause-reads
returns-in_err-sign-clause-reads g c = let p = err_from_is_err_and c.from_residual.result c.from_residual.ensures.1 in
    rw (p.1, p.2) (blame (λ o w. λ s h. c.loop-kind.invariant.leads s h o
    (w (at (operand (signs_on (prefix_of c.args.prefix) c.loop-kind.invariant.tokens s))) (λ _. refl)))
    c.in_err-sign.ensures)

pub loop-kind-preserved : goal.loop-kind-preserved
loop-kind-preserved g c = let v = c.loop-kind.invariant in let h = c.in_ok-sign.ensures.takes in record {
  tokens = v.tokens ++ ((lexeme g.X.AsStr.text c.in_ok-sign.ensures.token) ∷ []);
  starts = starts_push v.tokens (lexeme g.X.AsStr.text c.in_ok-sign.ensures.token)
      ∙ ap (λ z. z ++ (c.in_ok-sign.ensures.token.place.start ∷ [])) v.starts
      ∙ ap (λ z. c.loop-kind.signs.items ++ (z ∷ [])) c.in_ok-sign.ensures.starts ∙ sym c.in_ok-push.ensures.items;
  ready = h.ready;
  later = omega (arith, v.later, h.later);
  same = λ e. absurd (some_sign _ _ (sym c.in_ok-push.ensures.items ∙ e));
  begins = λ us f u e. ap first_place (append_assoc v.tokens ((lexeme g.X.AsStr.text c.in_ok-sign.ensures.token) ∷ [])
      us)
      ∙ v.begins ((lexeme g.X.AsStr.text c.in_ok-sign.ensures.token) ∷ us) (λ z d. same_place h.here d) u e;
  leads = λ s w o x. v.leads s w o (step_to (operand (signs_on (prefix_of c.args.prefix) v.tokens s))
      (operand (applying (prefix_of c.args.prefix) ((lexeme g.X.AsStr.text c.in_ok-sign.ensures.token) ∷ [])
      (signs_on (prefix_of c.args.prefix) v.tokens s))) h
      (sign_turn (prefix_of c.args.prefix) (signs_on (prefix_of c.args.prefix) v.tokens s)
      (lexeme g.X.AsStr.text c.in_ok-sign.ensures.token) _ (kind_seen (prefix_kind (prefix_of c.args.prefix))
      (ap (λ z. IsAhead z c.loop-kind.self.ahead) (sym c.kind-kind.ensures) ∙ sym c.sees.ensures
      ∙ c.loop-kind-test.true) h.here) (takes_signs (prefix_of c.args.prefix) v.tokens s w)) o
      (subst (λ z. Came g.X.AsStr.text g.I.Iterator.next_gives c.take_place.new.self (at (operand z)) o)
      (signs_more (prefix_of c.args.prefix) v.tokens (lexeme g.X.AsStr.text c.in_ok-sign.ensures.token) s) x));
}

pub loop-kind-init : goal.loop-kind-init
loop-kind-init g c = record {
  tokens = [];
  starts = sym c.new-signs.ensures.items;
  ready = c.requires;
  later = omega arith;
  same = λ e. refl;
  begins = λ us f. f;
  leads = λ s w o x. x;
}
