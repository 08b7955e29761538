use Rattle.std.proofs.Common.{◌≡◌, Some, drop, refl, rules}
use Rattle.std.specs.Prelude.{find, nat_eq}
use Rattle.std.specs.List.{starts_with}
use Rattle.pc_source.specs.declared.fault.RefusalCode.TheVariants.{L1}
use Rattle.pc_token.specs.Operators.{operator_text, operators}
use Rattle.pc_token.specs.Internal.LineReading.{context_of}
use Rattle.pc_token.proofs.PiecesAtBytes.{stray_read}
use Rattle.pc_token.proofs.LongestOperator.{operator_begins, operator_longest}
use Rattle.pc_token.proofs.Refusing.{refused_here}
use Rattle.pc_token.proofs.line_lexer.LineLexer.word_or_operator.Goals as goal

pub operator-requires-clause-here : goal.operator-requires-clause-here
operator-requires-clause-here c =
    let rest = c.rest.ensures.rest in
    let found : find (λ y. starts_with nat_eq c.rest.result.now (operator_text y)) operators ≡ Some c.in-Some.operator =
    search rules in
    operator_longest (drop c.args.self.now.at c.args.self.now.text.now) c.in-Some.operator (rw rest at found)

pub operator-requires-clause-front : goal.operator-requires-clause-front
operator-requires-clause-front c =
    let rest = c.rest.ensures.rest in
    let found : find (λ y. starts_with nat_eq c.rest.result.now (operator_text y)) operators ≡ Some c.in-Some.operator =
    search rules in
    operator_begins (drop c.args.self.now.at c.args.self.now.text.now) c.in-Some.operator (rw rest at found)

pub returns-in-None-clause-refused : goal.returns-in-None-clause-refused
returns-in-None-clause-refused c =
    let s = c.args.self.now in
    let r = c.requires in
    refused_here (context_of s) s.text.now L1 s.at c.refused_at.result c.refused_at.ensures refl
    (stray_read (context_of s) s.text.now c.rest.result.now c.rest.ensures.rest c.rest.ensures.utf8 r.boundary
    c.rest.ensures.some r.no_blank r.no_comment r.no_line_end r.no_quote r.no_digit
    (search rules) (search rules))
