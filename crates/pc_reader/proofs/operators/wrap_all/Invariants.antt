use Rattle.std.proofs.Common.{◌≡◌, ◌≤◌, List, vec_len}
use Rattle.pc_token.specs.Lexeme.{Lexeme}
use Rattle.pc_grammar.specs.Machine.States.{Part}
use Rattle.pc_reader.specs.Internal.Operands.{KeepsPart, prefix_of, starts_of}
use Rattle.pc_reader.specs.Internal.Expressions.{HasAppliedSigns}
use Rattle.pc_reader.proofs.operators.wrap_all.Given as goal

abbrev pub invariant-loop-start : goal.invariant-loop-start
invariant-loop-start l = record {
  depth : l.operand.depth ≤ 65;
  wrapped : (ts : List Lexeme) (p : Part) → starts_of ts ≡ l.fn.signs.items → KeepsPart l.fn.operand p
      → HasAppliedSigns (prefix_of l.prefix) ts p l.fn.operand l.signs.items l.operand;
}

abbrev pub decreases-loop-start : goal.decreases-loop-start
decreases-loop-start l = vec_len l.signs
