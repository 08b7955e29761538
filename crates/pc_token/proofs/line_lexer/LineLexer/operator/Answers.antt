use Rattle.std.proofs.Common.{refl, rules}
use Rattle.pc_token.specs.Operators.{role_of}
use Rattle.pc_token.specs.Internal.LineReading.{context_of}
use Rattle.pc_token.proofs.PiecesAtBytes.{operator_read, bracket_read}
use Rattle.pc_token.proofs.Refusing.{refused_here}
use Rattle.pc_token.proofs.line_lexer.LineLexer.operator.Goals as goal

pub returns-in-Some-clause-refused : goal.returns-in-Some-clause-refused
returns-in-Some-clause-refused c =
    let s = c.args.self.now in
    refused_here (context_of s) s.text.now c.in-Some.code s.at c.refused_at.result c.refused_at.ensures refl
    (bracket_read (context_of s) s.text.now c.args.operator c.in-Some.code c.requires.front (role_of c.args.operator)
    refl c.in-Some.ensures)

pub returns-clause-next : goal.returns-clause-next
returns-clause-next c =
    let s = c.args.self.now in
    rw c.text.ensures (operator_read (context_of s) s.text.now c.args.operator c.rest.ensures.utf8 c.requires.boundary
    c.requires.front c.requires.here (search rules) (search rules))
