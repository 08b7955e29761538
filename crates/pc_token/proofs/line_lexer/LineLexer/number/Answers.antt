use Rattle.std.proofs.Common.{rules}
use Rattle.pc_token.specs.Internal.LineReading.{context_of}
use Rattle.pc_token.proofs.PiecesAtBytes.{number_read}
use Rattle.pc_token.proofs.line_lexer.LineLexer.number.Goals as goal

pub returns-clause-next : goal.returns-clause-next
returns-clause-next c =
    let s = c.args.self.now in
    number_read (context_of s) s.text.now c.rest-bytes.result.now c.number_len-len.result c.rest-bytes.ensures.rest
    c.rest-bytes.ensures.utf8 c.requires.boundary
    c.rest-bytes.ensures.some c.requires.here c.number_len-len.ensures.len (search rules) (search rules)
