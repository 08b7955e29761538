use Rattle.std.proofs.Common.{[], ◌∷◌, refl, arith}
use Rattle.std.proofs.lemmas.Result.{err_from_is_err_and}
use Rattle.pc_token.specs.declared.token.TokenKind.TheVariants as kind
use Rattle.pc_token.specs.declared.token.Keyword.TheVariants as word
use Rattle.pc_tree.specs.declared.tree.ComparisonOperator.TheVariants as cmp
use Rattle.pc_grammar.specs.Machine.Kinds.{comparison, linking, denying, identifying}
use Rattle.pc_grammar.specs.Machine.States.{joining, operand, have, denied, identified}
use Rattle.pc_reader.specs.Internal.Operands.{infix_of}
use Rattle.pc_reader.specs.Reading.{lexeme}
use Rattle.pc_reader.proofs.Streams.{blame}
use Rattle.pc_reader.proofs.Steps.{step_to, needs, meets, link_turn}
use Rattle.pc_reader.proofs.reader.Reader.infix.Goals as goal

pub returns-in_err-expect_place-in-Not : goal.returns-in_err-expect_place-in-Not
returns-in_err-expect_place-in-Not g c = let p = err_from_is_err_and c.from_residual-in_err-expect_place-in-Not.result
    c.from_residual-in_err-expect_place-in-Not.ensures.1 in
    rw (c.in-Not.is, p.1, p.2) (blame (λ o w. λ il lev p s le rk. step_to (have lev p s)
    (denied p ((lexeme g.X.AsStr.text c.in_ok-skip.ensures.token) ∷ []) s) c.in_ok-skip.ensures.takes
    (link_turn denying lev p s _ _ (il _ c.in_ok-skip.ensures.takes.here) le rk) o
    (w (denied p ((lexeme g.X.AsStr.text c.in_ok-skip.ensures.token) ∷ []) s)
    (needs (λ t. operand (joining (comparison cmp.NotIn) p ((lexeme g.X.AsStr.text c.in_ok-skip.ensures.token) ∷ t ∷ [])
    s)) refl (λ t k. refl)))) c.in_err-expect_place-in-Not.ensures)

pub returns-in-Infix : goal.returns-in-Infix
returns-in-Infix g c = rw c.in-Infix.is (record {
  tokens = (lexeme g.X.AsStr.text c.in_ok-skip.ensures.token) ∷ [];
  own =
      refl;
  ready = c.in_ok-skip.ensures.takes.ready;
  later = c.in_ok-skip.ensures.takes.later;
  leads = λ il lev p s le rk.
      step_to (have lev p s)
      (operand (joining (infix_of c.in-Infix.infix) p ((lexeme g.X.AsStr.text c.in_ok-skip.ensures.token) ∷ []) s))
      c.in_ok-skip.ensures.takes (link_turn (linking (infix_of c.in-Infix.infix)) lev p s _ _ (il _
      c.in_ok-skip.ensures.takes.here)
      le rk);
})

pub returns-in_ok-expect_place-in-Not : goal.returns-in_ok-expect_place-in-Not
returns-in_ok-expect_place-in-Not g c = let e = c.in_ok-expect_place-in-Not.ensures.takes in let u =
    lexeme g.X.AsStr.text c.in_ok-expect_place-in-Not.ensures.token in rw c.in-Not.is
    (record {
      tokens = (lexeme g.X.AsStr.text c.in_ok-skip.ensures.token) ∷ u ∷ [];
      own = refl;
      ready = e.ready;
      later =
          omega (arith, c.in_ok-skip.ensures.takes.later, e.later);
      leads = λ il lev p s le rk o x. step_to (have lev p s)
          (denied p ((lexeme g.X.AsStr.text c.in_ok-skip.ensures.token) ∷ []) s) c.in_ok-skip.ensures.takes
          (link_turn denying lev p s _ _ (il _ c.in_ok-skip.ensures.takes.here) le rk) o
          (step_to (denied p ((lexeme g.X.AsStr.text c.in_ok-skip.ensures.token) ∷ []) s)
          (operand (joining (comparison cmp.NotIn) p ((lexeme g.X.AsStr.text c.in_ok-skip.ensures.token) ∷ u ∷ []) s)) e
          (meets (kind.Keyword word.In) _ _ c.in_ok-expect_place-in-Not.ensures.is) o x);
    })

pub returns-in-Is : goal.returns-in-Is
returns-in-Is g c = rw c.in-Is.is (record {
  token = (lexeme g.X.AsStr.text c.in_ok-skip.ensures.token);
  own = refl;
  ready =
      c.in_ok-skip.ensures.takes.ready;
  later = c.in_ok-skip.ensures.takes.later;
  leads = λ il lev p s le rk. step_to (have lev p s)
      (identified p ((lexeme g.X.AsStr.text c.in_ok-skip.ensures.token) ∷ []) s) c.in_ok-skip.ensures.takes
      (link_turn identifying lev p s _ _ (il _ c.in_ok-skip.ensures.takes.here) le rk);
})
