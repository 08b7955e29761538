-- A state of the machine before the token ahead, and the turn at that token.
use Rattle.std.specs.Prelude.{ℕ, ◌≡◌, List, Option, Some, Result}
use Rattle.pc_source.specs.declared.fault.Fault.{Fault}
use Rattle.pc_token.specs.declared.token.Token.{Token}
use Rattle.pc_token.specs.declared.token.TokenKind.{TokenKind}
use Rattle.pc_grammar.specs.Machine.{at, transition, stop_at, short}
use Rattle.pc_grammar.specs.Machine.States.{State, Transition}
use Rattle.pc_reader.specs.declared.reader.Reader.{Reader}
use Rattle.pc_reader.specs.Reading.{lexeme, Onward}

-- the state ends no module, and its turn at the token ahead is this one
pub record StandsBefore {X I : Type 0} (text : X → List ℕ) (a : Reader X I) (st : State)
    (next : TokenKind → Transition) : Type 0 where
  pub unfinished : stop_at st ≡ short
  pub goes : (t : Token X) → a.ahead ≡ Some t → transition st (lexeme text t) t.kind ≡ next t.kind

-- the tokens that were read lead from the state to one whose turn at the token ahead is this one
pub record LeadsTo {X I : Type 0} (text : X → List ℕ) (steps : I → Option (Result (Token X) Fault) → I → Type 0)
    (a b : Reader X I) (st : State) (next : TokenKind → Transition) : Type 0 where
  pub behind : State
  pub stands : StandsBefore text b behind next
  pub leads : Onward text steps a b (at st) (at behind)
