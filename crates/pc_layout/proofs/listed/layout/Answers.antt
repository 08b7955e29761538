use Rattle.std.proofs.Common.{[], ◌∷◌, Err, map, ap, ◌∙◌, rules}
use Rattle.std.proofs.lemmas.List.{map-append}
use Rattle.std.proofs.lemmas.Result.{err_from_is_err_and}
use Rattle.pc_token.specs.Lexeme.{logical_line_of, lexeme_of}
use Rattle.pc_layout.proofs.Gathering.{gathers_first, gathers_more, gathered, gathered_fault}
use Rattle.pc_layout.proofs.WithinText.{answer_within}
use Rattle.pc_layout.proofs.listed.layout.Goals as goal

pub loop-token-init : goal.loop-token-init
loop-token-init c = let i = c.into_iter-token-iterator.ensures.into_iter_gives in let n = c.new-tokens.ensures.items in
    record {
      can = λ _. (tt, tt);
      ends = search rules;
      leads = λ ys h. rw n (gathers_first c.args.source.now _ c.layout_of-token-items.result ys
          c.layout_of-token-items.ensures.begins (rw i at h));
    }

pub returns-in_err-token-clause-refused : goal.returns-in_err-token-clause-refused
returns-in_err-token-clause-refused c = let p = err_from_is_err_and c.from_residual.result c.from_residual.ensures.1 in
    let w = c.in_err-token.was in let s = c.in-Some.ensures.steps in
    rw (p.1, p.2) (gathered_fault _ _ _ c.in_err-token.field-0.0
    (c.loop-token.invariant.leads (Err c.in_err-token.field-0.0 ∷ []) (rw w at s).1))

pub loop-token-preserved : goal.loop-token-preserved
loop-token-preserved c = let w = c.in_ok-token.was in let k = c.in_ok-push.ensures.items in let s =
    c.in-Some.ensures.steps in record {
      can = λ _. (tt, tt);
      ends = search rules;
      leads = λ ys h. gathers_more _ _ (map lexeme_of c.loop-token.tokens.items) (lexeme_of c.in_ok-token.field-0)
          (map lexeme_of c.push.new.self.items) ys
          (ap (map lexeme_of) k ∙ map-append lexeme_of c.loop-token.tokens.items (c.in_ok-token.field-0 ∷ []))
          (c.loop-token.invariant.leads _ ((rw w at s) ys h));
    }

pub returns-clause-laid : goal.returns-clause-laid
returns-clause-laid c = let s = c.in-None.ensures.steps in gathered _ _ _ (c.loop-token.invariant.leads [] s.1)

pub returns-in_err-token-clause-within : goal.returns-in_err-token-clause-within
returns-in_err-token-clause-within c = λ h. answer_within c.args.source.now (map logical_line_of c.args.lines.now) _ h
    (returns-in_err-token-clause-refused c)
