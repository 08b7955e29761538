use Rattle.std.proofs.Common.{◌++◌, List, Result}
use Rattle.pc_source.specs.declared.fault.Refusal.{Refusal}
use Rattle.pc_token.specs.Lexeme.{LogicalLine}
use Rattle.pc_token.specs.Remaining.{HasLeft, all_read}
use Rattle.pc_token.specs.Splitting.{HasLines}
use Rattle.pc_token.proofs.source_lines.tokens.Given as goal

abbrev pub invariant-loop-line : goal.invariant-loop-line
invariant-loop-line l = (items : List (Result LogicalLine Refusal)) → HasLeft l.line-iterator items
    → HasLines l.source (all_read l.found.items ++ items)
