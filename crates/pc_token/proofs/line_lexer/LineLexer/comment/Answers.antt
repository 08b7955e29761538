use Rattle.std.proofs.Common.{◌∙◌}
use Rattle.pc_token.specs.Internal.LineReading.{context_of}
use Rattle.pc_token.proofs.Pieces.{comment_here}
use Rattle.pc_token.proofs.Slices.{first_from}
use Rattle.pc_token.proofs.line_lexer.LineLexer.comment.Goals as goal

pub returns : goal.returns
returns c =
    let s = c.args.self.now in
    let rest = c.rest.ensures.rest in
    rw (c.comment_len.ensures.len, rest) (comment_here (context_of s) s.text.now c.rest.ensures.utf8 c.requires.boundary
    (rw rest at c.rest.ensures.some) (first_from s.text.now s.at ∙ c.requires.here))
