use Rattle.std.proofs.Common.{◌≡◌, ◌≤◌, ◌-◌, List, Result, length}
use Rattle.std.specs.Str.{IsCharBoundary}
use Rattle.pc_source.specs.declared.fault.Refusal.{Refusal}
use Rattle.pc_token.specs.Lexeme.{LogicalLine}
use Rattle.pc_token.specs.Internal.LineReading.{LeavesFrom}
use Rattle.pc_token.proofs.line_lexer.LineLexer.read.Given as goal

abbrev pub invariant-loop-self : goal.invariant-loop-self
invariant-loop-self l = record {
  text : l.self.text.now ≡ l.fn.self.text.now;
  boundary : IsCharBoundary l.self.text.now l.self.at;
  later : l.fn.self.at ≤ l.self.at;
  leads : (items : List (Result LogicalLine Refusal)) → LeavesFrom l.self items → LeavesFrom l.fn.self items;
}

abbrev pub decreases-loop-self : goal.decreases-loop-self
decreases-loop-self l = length l.self.text.now - l.self.at
