-- The result for tokens that come one at a time: their module, a fault among them, or their refusal.
use Rattle.std.specs.Prelude.{ℕ, List, [], ◌∷◌, ◌++◌, map, Option, Result, Ok, Err}
use Rattle.pc_source.specs.declared.fault.Fault.{Fault}
use Rattle.pc_source.specs.declared.fault.Refusal.{Refusal}
use Rattle.pc_source.specs.Stream.{Yields}
use Rattle.pc_token.specs.declared.token.Token.{Token}
use Rattle.pc_tree.specs.Tree.{Module}
use Rattle.pc_grammar.specs.Faults.{IsModule, IsRefusal}
use Rattle.pc_reader.specs.Reading.{lexeme}

module _ {X I : Type 0} (text : X → List ℕ) (steps : I → Option (Result (Token X) Fault) → I → Type 0) where
  -- the iterator yields tokens without a fault, and they are the tokens of this module
  pub record IsRead (it : I) (m : Module) : Type 0 where
    pub tokens : List (Token X)
    pub came : Yields steps it (map Ok tokens)
    pub is : IsModule (map (lexeme text) tokens) m

  -- the iterator yields tokens without a fault, and this is their refusal
  pub record IsRefusedByTokens (it : I) (r : Refusal) : Type 0 where
    pub tokens : List (Token X)
    pub came : Yields steps it (map Ok tokens)
    pub is : IsRefusal (map (lexeme text) tokens) r

  -- the iterator yields some tokens, and then this fault
  pub record IsFaulty (it : I) (e : Fault) : Type 0 where
    pub tokens : List (Token X)
    pub came : Yields steps it (map Ok tokens ++ Err e ∷ [])
