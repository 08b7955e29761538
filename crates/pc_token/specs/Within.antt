-- Tokens and logical lines within a text of a given length.
use Rattle.std.specs.Prelude.{ℕ, ◌≤◌, List, [], ◌∷◌, Result, Ok, Err, length}
use Rattle.pc_source.specs.declared.fault.Refusal.{Refusal}
use Rattle.pc_source.specs.Within.{StandsWithin}
use Rattle.pc_token.specs.Lexeme.{Lexeme, LogicalLine}
use Rattle.pc_token.specs.Splitting.{HasLines}

-- each of these tokens lies within a text of this length
abbrev pub AreWithin : ℕ → List Lexeme → Type 0
AreWithin len [] = Unit {0}
AreWithin len (x ∷ xs) = StandsWithin len x.place × AreWithin len xs

-- the tokens of each of these lines lie within a text of this length
abbrev pub LinesWithin : ℕ → List LogicalLine → Type 0
LinesWithin len [] = Unit {0}
LinesWithin len (l ∷ ls) = AreWithin len l.lexemes × LinesWithin len ls

-- the tokens of these lines lie within a text of this length, and so does a refusal after them
abbrev pub ItemsWithin : ℕ → List (Result LogicalLine Refusal) → Type 0
ItemsWithin len [] = Unit {0}
ItemsWithin len (Ok l ∷ items) = AreWithin len l.lexemes × ItemsWithin len items
ItemsWithin len (Err refusal ∷ items) = (refusal.byte ≤ len) × ItemsWithin len items

-- the logical lines of a text, up to its first fault, lie within it, and so does its refusal
abbrev pub TextHoldsItems : Type 0
TextHoldsItems = (text : List ℕ) (items : List (Result LogicalLine Refusal)) → HasLines text items
    → ItemsWithin (length text) items
