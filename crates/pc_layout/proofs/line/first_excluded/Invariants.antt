use Rattle.std.proofs.Common.{◌≡◌, map, drop}
use Rattle.pc_token.specs.Lexeme.{lexeme_of}
use Rattle.pc_layout.specs.Placing.{first_excluded}
use Rattle.pc_layout.proofs.line.first_excluded.Given as goal

abbrev pub invariant-loop-token : goal.invariant-loop-token
invariant-loop-token l = first_excluded l.header (map lexeme_of l.tokens) ≡ first_excluded l.header
    (map lexeme_of (drop l.token-index l.tokens))
