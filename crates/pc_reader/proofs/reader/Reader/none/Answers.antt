use Rattle.std.proofs.Common.{[], ◌∷◌, ◌++◌, refl, arith, ap, sym, ◌∙◌}
use Rattle.std.proofs.lemmas.Result.{err_from_is_err_and}
use Rattle.pc_token.specs.declared.token.TokenKind.TheVariants as kind
use Rattle.pc_token.specs.declared.token.Keyword.TheVariants as word
use Rattle.pc_tree.specs.Tree.{is_none, is_not_none}
use Rattle.pc_grammar.specs.Machine.{transition, at}
use Rattle.pc_grammar.specs.Machine.Kinds.{same_kind}
use Rattle.pc_grammar.specs.Machine.States.{have, identified, unidentified, stuck, on}
use Rattle.pc_grammar.specs.Machine.Expressions.{bare_part}
use Rattle.pc_reader.specs.Reading.{lexeme}
use Rattle.pc_reader.proofs.Building.{ends_more, ends_at}
use Rattle.pc_reader.proofs.Streams.{blame}
use Rattle.pc_reader.proofs.Steps.{step_to, needs, meets, kind_seen, not_seen}
use Rattle.pc_reader.proofs.reader.Reader.none.Goals as goal

pub returns-in_err-skip : goal.returns-in_err-skip
returns-in_err-skip g c = let p = err_from_is_err_and c.from_residual.result c.from_residual.ensures.1 in
    rw (p.1, p.2) (blame (λ o w. λ d q s. w (at (identified q (d ∷ []) s)) (λ _. refl)) c.in_err-skip.ensures)

pub returns-in_err-none : goal.returns-in_err-none
returns-in_err-none g c = let p = err_from_is_err_and c.from_residual-in_err-none.result
    c.from_residual-in_err-none.ensures.1 in let no = lexeme g.X.AsStr.text c.in_ok-skip.ensures.token in
    rw (p.1, p.2) (blame (λ o w. λ d q s. step_to (identified q (d ∷ []) s) (unidentified q (d ∷ no ∷ []) s)
    c.in_ok-skip.ensures.takes (ap (transition (identified q (d ∷ []) s) no)
    (kind_seen (kind.Keyword word.Not) (sym c.sees.ensures ∙ c.if-sees.true) c.in_ok-skip.ensures.takes.here)) o
    (w (unidentified q (d ∷ no ∷ []) s)
    (needs (λ t. have 3 (bare_part (λ z. is_not_none z q.tree) (q.tokens ++ (d ∷ no ∷ t ∷ []))) s) refl
    (λ t k. refl)))) c.in_err-none.ensures)

pub returns-then-sees : goal.returns-then-sees
returns-then-sees g c = let no = lexeme g.X.AsStr.text c.in_ok-skip.ensures.token in let n = c.in_ok-none.ensures in
    let none = lexeme g.X.AsStr.text n.token in record {
      more = no ∷ none ∷ [];
      ends = ends_more (no ∷ []) (ends_at none n.ends);
      ready = n.takes.ready;
      later = omega (arith, c.in_ok-skip.ensures.takes.later, n.takes.later);
      leads = λ d q s o x. step_to (identified q (d ∷ []) s) (unidentified q (d ∷ no ∷ []) s)
          c.in_ok-skip.ensures.takes (ap (transition (identified q (d ∷ []) s) no)
          (kind_seen (kind.Keyword word.Not) (sym c.sees.ensures ∙ c.if-sees.true) c.in_ok-skip.ensures.takes.here)) o
          (step_to (unidentified q (d ∷ no ∷ []) s)
          (have 3 (bare_part (λ z. is_not_none z q.tree) (q.tokens ++ (d ∷ no ∷ none ∷ []))) s) n.takes
          (meets (kind.Keyword word.None) _ _ n.is) o x);
    }

pub returns-in_err-none-2 : goal.returns-in_err-none-2
returns-in_err-none-2 g c = let p = err_from_is_err_and c.from_residual-in_err-none-2.result
    c.from_residual-in_err-none-2.ensures.1 in
    rw (p.1, p.2) (blame (λ o w. λ d q s. w (identified q (d ∷ []) s)
    (record {
      unfinished = refl;
      stuck_at = λ t h e. ap (λ z.
          on z (have 3 (bare_part (λ y. is_none y q.tree) (q.tokens ++ (d ∷ (lexeme g.X.AsStr.text t) ∷ []))) s)
          (on (same_kind t.kind (kind.Keyword word.Not)) (unidentified q (d ∷ (lexeme g.X.AsStr.text t) ∷ []) s) stuck))
          e ∙ ap (λ z. on z (unidentified q (d ∷ (lexeme g.X.AsStr.text t) ∷ []) s) stuck)
          (not_seen (kind.Keyword word.Not) (sym c.sees.ensures ∙ c.if-sees.false) h);
    })) c.in_err-none-2.ensures)

pub returns : goal.returns
returns g c = let n = c.in_ok-none-2.ensures in let none = lexeme g.X.AsStr.text n.token in record {
  more = none ∷ [];
  ends = ends_at none n.ends;
  ready = n.takes.ready;
  later = n.takes.later;
  leads = λ d q s. step_to (identified q (d ∷ []) s)
      (have 3 (bare_part (λ z. is_none z q.tree) (q.tokens ++ (d ∷ none ∷ []))) s) n.takes
      (ap (transition (identified q (d ∷ []) s) none) n.is);
}
