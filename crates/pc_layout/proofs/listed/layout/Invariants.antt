use Rattle.std.proofs.Common.{List, Result, map}
use Rattle.pc_source.specs.declared.fault.Fault.{Fault}
use Rattle.pc_token.specs.Lexeme.{Lexeme, lexeme_of, logical_line_of}
use Rattle.pc_layout.specs.TokenIterator.Items.{ItemsLeft}
use Rattle.pc_layout.specs.Internal.ListedLines.{gives_line}
use Rattle.pc_layout.proofs.Gathering.{Gathers}
use Rattle.pc_layout.proofs.listed.layout.Given as goal

abbrev pub invariant-loop-token : goal.invariant-loop-token
invariant-loop-token l = record {
  can : (goal.iterator-loop-token).can_next l.token-iterator;
  ends : (goal.iterator-loop-token).is_finite l.token-iterator;
  leads : (ys : List (Result Lexeme Fault)) → ItemsLeft gives_line l.token-iterator.pending_line l.token-iterator.lines ys
      → Gathers l.source (map logical_line_of l.lines) (map lexeme_of l.tokens.items) ys;
}
