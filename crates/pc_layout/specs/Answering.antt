-- The result of laying out lines: the tokens of their layout, or a fault.
use Rattle.std.specs.Prelude.{◌≡◌, ◌⊎◌, ℕ, List, [], ◌∷◌, ◌++◌, map, length, Option, Some, None, Result, Ok, Err}
use Rattle.std.specs.Prelude.{MatchOption}
use Rattle.std.specs.Borrow.{Bor}
use Rattle.pc_source.specs.declared.fault.Refusal.{Refusal}
use Rattle.pc_source.specs.declared.fault.Fault.{Fault}
use Rattle.pc_source.specs.declared.fault.Fault.TheVariants.{Refused}
use Rattle.pc_source.specs.Stream.{Yields}
use Rattle.pc_token.specs.declared.token.Line.{Line}
use Rattle.pc_token.specs.declared.token.Token.{Token}
use Rattle.pc_token.specs.Lexeme.{Lexeme, LogicalLine}
use Rattle.pc_layout.specs.Faults.{HasFault, IsLayoutRefusal}
use Rattle.pc_layout.specs.Layouts.{IsLayout, AreInOrder}
use Rattle.pc_layout.specs.TokenIterator.Items.{line_item_of, token_item_of}

-- the lines among these items
abbrev pub lines_came : List (Result LogicalLine Fault) → List LogicalLine
lines_came [] = []
lines_came (Ok l ∷ is) = l ∷ lines_came is
lines_came (Err e ∷ is) = lines_came is

-- the first fault among these items, if there is one
abbrev pub fault_came : List (Result LogicalLine Fault) → Option Fault
fault_came [] = None
fault_came (Ok l ∷ is) = fault_came is
fault_came (Err e ∷ is) = Some e

-- the refusal of these lines: one of their faults, and the first if the lines are in order
pub record Refuses (text : List ℕ) (ls : List LogicalLine) (refusal : Refusal) : Type 0 where
  pub stands : HasFault (length text) [] ls refusal.code refusal.byte
  pub first : AreInOrder ls → IsLayoutRefusal (length text) ls refusal

-- the items are all tokens of the layout
pub record ComesWhole (text : List ℕ) (ls : List LogicalLine) (items : List (Result Lexeme Fault)) : Type 0 where
  pub tokens : List Lexeme
  pub all : items ≡ map Ok tokens
  pub layout : IsLayout text ls tokens

-- the items are some tokens, and then this fault
pub record ComesFaulty (items : List (Result Lexeme Fault)) (fault : Fault) : Type 0 where
  pub tokens : List Lexeme
  pub all : items ≡ map Ok tokens ++ Err fault ∷ []

-- the items are some tokens, and then the refusal of the lines
pub record ComesRefused (text : List ℕ) (ls : List LogicalLine) (items : List (Result Lexeme Fault)) : Type 0 where
  pub refusal : Refusal
  pub fault : ComesFaulty items (Refused refusal)
  pub refuses : Refuses text ls refusal

-- the items that result from these lines and faults: some tokens and the fault among the lines if there is one;
-- otherwise the layout, or some tokens and the refusal
abbrev pub AnswersLines : List ℕ → List (Result LogicalLine Fault) → List (Result Lexeme Fault) → Type 0
AnswersLines text lines items =
    MatchOption (fault_came lines)
    (ComesWhole text (lines_came lines) items ⊎ ComesRefused text (lines_came lines) items) (ComesFaulty items)

module _ {I T : Type 0} (steps : I → Option (Result Line Fault) → I → Type 0)
    (gives : T → Option (Result (Token (Bor (List ℕ))) Fault) → T → Type 0) where
  -- the items of the iterator of tokens are always the result of lines that the iterator of lines yields
  abbrev pub LaysOut : List ℕ → I → T → Type 0
  LaysOut text it iterator = (items : List (Result (Token (Bor (List ℕ))) Fault)) → Yields gives iterator items →
      (ks : List (Result Line Fault)) × Yields steps it ks
      × AnswersLines text (map line_item_of ks) (map token_item_of items)
