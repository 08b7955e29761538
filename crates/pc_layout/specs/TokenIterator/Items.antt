-- The items that the iterator of tokens gives, over any iterator of lines.
use Rattle.std.specs.Prelude.{◌≡◌, ◌⊎◌, ℕ, ◌+◌, ◌*◌, ◌^◌, true, false, not, List, [], Option, Result, Ok, Err, map}
use Rattle.std.specs.Borrow.{Bor}
use Rattle.std.specs.Iterator.{Count, at_most, count_add, count_map, count_unless}
use Rattle.pc_source.specs.declared.fault.Refusal.{Refusal}
use Rattle.pc_source.specs.declared.fault.Fault.{Fault}
use Rattle.pc_source.specs.Stream.{Yields}
use Rattle.pc_token.specs.declared.token.Line.{Line}
use Rattle.pc_token.specs.declared.token.Token.{Token}
use Rattle.pc_token.specs.Lexeme.{Lexeme, LogicalLine, logical_line_of, lexeme_of}
use Rattle.pc_layout.specs.Stepping.{outrank}
use Rattle.pc_layout.specs.TokenIterator.PendingTokens.{pending, asks, at_hand}
use Rattle.pc_layout.specs.declared.pending_line.PendingLine.{PendingLine}

-- an item of lines, independent of its layout in memory
abbrev pub line_item_of : Result Line Fault → Result LogicalLine Fault
line_item_of (Ok l) = Ok (logical_line_of l)
line_item_of (Err e) = Err e

-- an item of tokens, independent of its layout in memory
abbrev pub token_item_of : Result (Token (Bor (List ℕ))) Fault → Result Lexeme Fault
token_item_of (Ok t) = Ok (lexeme_of t)
token_item_of (Err e) = Err e

-- an upper bound on the tokens left: those that are ready, and a fixed number for each line that is left and for the
-- end
abbrev pub most_tokens_left : PendingLine → Count → Count
most_tokens_left h lines = count_add (at_most (at_hand h))
    (count_unless (not (asks h.due)) (count_map (λ n. (n + 1) * (2 ^ 65 + 3)) lines))

module _ {I : Type 0} (steps : I → Option (Result Line Fault) → I → Type 0) where
  -- these items are left, over the lines that are left
  abbrev pub ItemsLeft : PendingLine → I → List (Result Lexeme Fault) → Type 0
  ItemsLeft h it ys = ((asks h.due ≡ false) × (pending h [] ≡ ys))
      ⊎ ((asks h.due ≡ true) ×
      ((ks : List (Result Line Fault)) × Yields steps it ks × (pending h (map line_item_of ks) ≡ ys)))

  -- this fault is reported for a refusal, over the lines that are left
  abbrev pub OutrankedBy : Refusal → I → Fault → Type 0
  OutrankedBy r it e = (ks : List (Result Line Fault)) × Yields steps it ks × (outrank r (map line_item_of ks) ≡ e)
