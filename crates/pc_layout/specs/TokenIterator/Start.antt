-- The iterator of tokens before its first token.
use Rattle.std.specs.Prelude.{◌≡◌, ℕ, List, Result}
use Rattle.pc_source.specs.declared.fault.Fault.{Fault}
use Rattle.pc_token.specs.Lexeme.{LogicalLine}
use Rattle.pc_layout.specs.Stepping.{layout_lexemes, start}
use Rattle.pc_layout.specs.TokenIterator.PendingTokens.{pending}
use Rattle.pc_layout.specs.declared.pending_line.LineStage.TheVariants.{Lines}
use Rattle.pc_layout.specs.declared.layout_tokens.LayoutTokens.{LayoutTokens}

-- the iterator is at its start: all tokens of the lines left in the iterator of lines are left
pub record IsAtStart {I : Type 0} (text : List ℕ) (lines : I) (iterator : LayoutTokens I) : Type 0 where
  pub over : iterator.lines ≡ lines
  pub due : iterator.pending_line.due ≡ Lines
  pub tokens : (ls : List (Result LogicalLine Fault)) → pending iterator.pending_line ls ≡ layout_lexemes text start ls
