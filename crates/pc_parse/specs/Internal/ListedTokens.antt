-- The iterator over the tokens of a list.
use Rattle.std.specs.Prelude.{◌≡◌, ℕ, List, [], ◌∷◌, Option, Result, MatchOption, MatchResult, map, drop}
use Rattle.std.specs.Borrow.{Bor}
use Rattle.pc_source.specs.declared.fault.Fault.{Fault}
use Rattle.pc_source.specs.declared.fault.Fault.TheVariants.{OutOfMemory}
use Rattle.pc_token.specs.declared.token.Token.{Token}
use Rattle.pc_token.specs.Lexeme.{Lexeme, lexeme_of}
use Rattle.pc_parse.specs.declared.listed.Listed.{Listed}

-- the tokens that are left
abbrev pub tokens_left : Listed → List Lexeme
tokens_left s = map lexeme_of (drop s.at s.tokens.now)

-- the iterator gives the first of the tokens that are left, or an allocation failed
abbrev pub gives_token : Listed → Option (Result (Token (Bor (List ℕ))) Fault) → Listed → Type 0
gives_token s r t = MatchOption r ((tokens_left s ≡ []) × (tokens_left t ≡ []))
    (λ i. MatchResult i (λ x. tokens_left s ≡ lexeme_of x ∷ tokens_left t) (λ e. e ≡ OutOfMemory))
