use Rattle.std.proofs.Common.{inl, inr, refl, rules}
use Rattle.pc_source.specs.declared.fault.RefusalCode.TheVariants.{L2}
use Rattle.pc_token.specs.Internal.LineReading.{context_of}
use Rattle.pc_token.proofs.PiecesAtBytes.{string_read, bad_string_read}
use Rattle.pc_token.proofs.Refusing.{refused_here}
use Rattle.pc_token.proofs.line_lexer.LineLexer.string.Goals as goal
use Rattle.pc_token.proofs.line_lexer.LineLexer.string.Goals.{then-touches_word-via-then-touches_word}
use Rattle.pc_token.proofs.line_lexer.LineLexer.string.Goals.{then-touches_word-via-else-touches_word+then-is_tripled}

pub returns-then-touches_word-clause-refused : goal.returns-then-touches_word-clause-refused
returns-then-touches_word-clause-refused c =
    let s = c.args.self.now in
    refused_here (context_of s) s.text.now L2 s.at c.refused_at.result c.refused_at.ensures refl
    (bad_string_read (context_of s) s.text.now c.rest-bytes.result.now c.rest-bytes.ensures.rest c.requires.here
    (elim c.then-touches_word.branch [
      | then-touches_word-via-then-touches_word w ↦ inr (inl (search rules))
      | then-touches_word-via-else-touches_word+then-is_tripled w ↦ inr (inr (search rules))
    ]))

pub returns-in-Some-clause-next : goal.returns-in-Some-clause-next
returns-in-Some-clause-next c =
    let s = c.args.self.now in
    string_read (context_of s) s.text.now c.rest-bytes.result.now c.in-Some.len c.rest-bytes.ensures.rest
    c.rest-bytes.ensures.utf8 c.requires.boundary
    (search rules) (search rules) c.in-Some.ensures.0 c.in-Some.ensures.1

pub returns-in-None-clause-refused : goal.returns-in-None-clause-refused
returns-in-None-clause-refused c =
    let s = c.args.self.now in
    refused_here (context_of s) s.text.now L2 s.at c.refused_at-in-None.result c.refused_at-in-None.ensures refl
    (bad_string_read (context_of s) s.text.now c.rest-bytes.result.now c.rest-bytes.ensures.rest c.requires.here
    (inl c.in-None.ensures))
