use Rattle.std.proofs.Common.{◌≡◌, map, take}
use Rattle.pc_token.specs.Lexeme.{lexeme_of}
use Rattle.pc_layout.proofs.listed.copied.Given as goal

abbrev pub invariant-loop-token : goal.invariant-loop-token
invariant-loop-token l = map lexeme_of l.tokens.items ≡ map lexeme_of (take l.token-index l.line.tokens.items)
