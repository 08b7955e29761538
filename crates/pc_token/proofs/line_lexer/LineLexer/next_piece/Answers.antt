use Rattle.std.proofs.Common.{get_or, drop, sym, ap, ◌∙◌}
use Rattle.pc_token.specs.Gaps.{starts_line_end}
use Rattle.pc_token.specs.Internal.LineReading.{context_of}
use Rattle.pc_token.proofs.Pieces.{line_feed_here, carriage_return_here, feed_next}
use Rattle.pc_token.proofs.line_lexer.LineLexer.next_piece.Goals as goal

pub returns-in-10-clause-next : goal.returns-in-10-clause-next
returns-in-10-clause-next c =
    let s = c.args.self.now in
    let rest = c.rest-bytes.ensures.rest in
    line_feed_here (context_of s) s.text.now c.rest-bytes.ensures.utf8 c.requires.boundary
    (rw rest at c.rest-bytes.ensures.some)
    (ap (λ x. get_or x 0 0) (sym rest) ∙ sym c.byte_at.ensures ∙ c.in-10.is)

pub returns-in-13-clause-next : goal.returns-in-13-clause-next
returns-in-13-clause-next c =
    let s = c.args.self.now in
    let rest = c.rest-bytes.ensures.rest in
    carriage_return_here (context_of s) s.text.now c.rest-bytes.ensures.utf8 c.requires.boundary
    (ap (λ x. get_or x 0 0) (sym rest) ∙ sym c.byte_at.ensures ∙ c.in-13.is)
    (feed_next (drop s.at s.text.now) (ap starts_line_end (sym rest) ∙ sym c.starts_line_end.ensures
    ∙ c.if-starts_line_end.true) (ap (λ x. get_or x 0 0) (sym rest) ∙ sym c.byte_at.ensures ∙ c.in-13.is))
