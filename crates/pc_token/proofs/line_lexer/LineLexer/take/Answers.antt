use Rattle.std.proofs.Common.{map, slice_range, arith, rules, refl}
use Rattle.pc_token.specs.Context.{lexeme_at}
use Rattle.pc_token.specs.Lexeme.{lexeme_of}
use Rattle.pc_token.specs.Internal.LineReading.{context_of}
use Rattle.pc_token.proofs.Steps.{taken, lexeme_is, lexemes_more}
use Rattle.pc_token.proofs.line_lexer.LineLexer.take.Goals as goal

pub returns : goal.returns
returns c =
    let s = c.args.self.now in
    let f = c.args.found in
    let piece = c.requires.found.piece in
    let later = piece.later in
    let edge = piece.boundary.0 in
    record {
      text = refl;
      at = refl;
      context = taken (context_of s) s.text.now f.end f.kind c.turn_bracket.new.brackets.items
          (map lexeme_of c.put.new.items.items) (omega arith) edge (search rules)
          (lexemes_more s.tokens.items c.put.new.items.items
          (record {
            kind = f.kind;
            place = record { start = s.at; end = f.end };
            text = c.range.result;
            form =
                f.form;
          })
          (lexeme_at s.at f.kind (slice_range s.text.now s.at f.end)) (search rules)
          (lexeme_is s.text.now s.at f.end f.kind c.range.result f.form (omega arith) edge c.range.ensures.value
          c.requires.found.form));
    }
