use Rattle.std.proofs.Common.{ap, ◌∙◌, ◌∷◌, Ok, map, reverse}
use Rattle.std.proofs.lemmas.List.{reverse-reverse}
use Rattle.pc_token.specs.Lexeme.{logical_line_of, lexeme_of}
use Rattle.pc_layout.specs.TokenIterator.Levels.{placed_by, context_of}
use Rattle.pc_layout.specs.TokenIterator.PendingTokens.{pending_by, end_of_line}
use Rattle.pc_layout.proofs.Laying.{laid_line, laid_refused, line_given, end_given}
use Rattle.pc_layout.proofs.pending_line.PendingLine.begin.Goals as goal

pub returns-in-Err-clause-gives : goal.returns-in-Err-clause-gives
returns-in-Err-clause-gives c = λ ls.
    ap (λ d. pending_by d c.args.self.now (Ok (logical_line_of c.args.line) ∷ ls)) c.requires
    ∙ laid_refused _ _ (logical_line_of c.args.line) c.in-Err.refusal ls
    (let h = c.in-Err.ensures in rw c.as_slice.ensures.value at h)

pub returns-clause-gives : goal.returns-clause-gives
returns-clause-gives c = λ ls.
    let h = c.in-Ok.ensures in
    let g = rw c.as_slice.ensures.value at h in
    ap (λ d. pending_by d c.args.self.now (Ok (logical_line_of c.args.line) ∷ ls)) c.requires
    ∙ laid_line _ _ (logical_line_of c.args.line) (placed_by (reverse c.step.new.levels.suites.items) c.in-Ok.signs) ls g.0
    ∙ line_given _ (placed_by (reverse c.step.new.levels.suites.items) c.in-Ok.signs)
    (map lexeme_of c.args.line.tokens.items) _ c.first_byte-self.result (end_of_line c.line_end-self.result)
    (context_of c.step.new.levels) ls
    (rw c.as_slice-2.ensures.value at c.first_byte-self.ensures)
    (ap (map lexeme_of) (ap reverse c.reverse.ensures.items ∙ reverse-reverse _))
    (end_given _ (map lexeme_of c.args.line.tokens.items) c.line_end-self.result c.last_byte.result
    (rw c.as_slice-3.ensures.value at c.last_byte.ensures) c.line_end-self.ensures.place
    c.line_end-self.ensures.text)
    g.1
