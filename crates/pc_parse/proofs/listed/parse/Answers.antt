use Rattle.std.proofs.Common.{refl}
use Rattle.std.specs.Prelude.{map}
use Rattle.pc_token.specs.Lexeme.{lexeme_of}
use Rattle.pc_parse.proofs.Copied.{listed_read, listed_refused, only}
use Rattle.pc_parse.proofs.WithinTokens.{answer_within}
use Rattle.pc_parse.proofs.listed.parse.Goals as goal

pub returns-clause-found : goal.returns-clause-found
returns-clause-found c = listed_read _ (λ b. refl) (record { tokens = c.args.tokens; at = 0 }) c.parse_from.result
    c.parse_from.ensures.read

pub returns-clause-only : goal.returns-clause-only
returns-clause-only c = only (map lexeme_of c.args.tokens.now) c.parse_from.result
    (listed_read _ (λ b. refl) (record { tokens = c.args.tokens; at = 0 }) c.parse_from.result
    c.parse_from.ensures.read)
    (listed_refused _ (λ b. refl) (record { tokens = c.args.tokens; at = 0 }) c.parse_from.result
    c.parse_from.ensures.refused)

pub returns-clause-refused : goal.returns-clause-refused
returns-clause-refused c = listed_refused _ (λ b. refl) (record { tokens = c.args.tokens; at = 0 }) c.parse_from.result
    c.parse_from.ensures.refused

pub returns-clause-within : goal.returns-clause-within
returns-clause-within c = answer_within (map lexeme_of c.args.tokens.now) c.parse_from.result (returns-clause-refused c)
