-- The tokens of lines, line by line.
use Rattle.std.proofs.Common.{◌≡◌, ℕ, List, [], ◌∷◌, slice_range, Result, Ok, Err, length, refl, ap}
use Rattle.pc_source.specs.declared.fault.Refusal.{Refusal}
use Rattle.pc_source.specs.declared.fault.Fault.{Fault}
use Rattle.pc_token.specs.Lexeme.{Lexeme, LogicalLine}
use Rattle.pc_layout.specs.Placing.{LayoutContext, Placement}
use Rattle.pc_layout.specs.Spelling.{first_byte, last_byte}
use Rattle.pc_layout.specs.Flat.{newline, line_end}
use Rattle.pc_layout.specs.TokenIterator.PendingTokens.{end_of_line}
use Rattle.pc_layout.specs.declared.line_end.LineEnd.{LineEnd}
use Rattle.pc_layout.specs.Stepping.{layout_lexemes, layout_lexemes_by, give, dedents, indents, placed_line, closed_all}
use Rattle.pc_layout.specs.Stepping.{step, after, outrank}

pub laid_end : (text : List ℕ) (x : LayoutContext) → layout_lexemes text x [] ≡ closed_all (length text) x
unfolding layout_lexemes
laid_end text x = refl

pub laid_fault : (text : List ℕ) (x : LayoutContext) (e : Fault) (ls : List (Result LogicalLine Fault))
    → layout_lexemes text x (Err e ∷ ls) ≡ Err e ∷ []
unfolding layout_lexemes
laid_fault text x e ls = refl

pub laid_line : (text : List ℕ) (x : LayoutContext) (l : LogicalLine) (p : Placement)
    (ls : List (Result LogicalLine Fault)) → step (length text) x l ≡ Ok p →
    layout_lexemes text x (Ok l ∷ ls) ≡ placed_line text p l.lexemes (layout_lexemes text (after p l.lexemes) ls)
unfolding layout_lexemes
laid_line text x l p ls e = ap (λ r. layout_lexemes_by r text l.lexemes ls (λ y. layout_lexemes text y ls)) e

pub laid_refused : (text : List ℕ) (x : LayoutContext) (l : LogicalLine) (r : Refusal)
    (ls : List (Result LogicalLine Fault)) → step (length text) x l ≡ Err r →
    layout_lexemes text x (Ok l ∷ ls) ≡ Err (outrank r ls) ∷ []
unfolding layout_lexemes
laid_refused text x l r ls e = ap (λ q. layout_lexemes_by q text l.lexemes ls (λ y. layout_lexemes text y ls)) e

-- a line's tokens, whose parts were found so
pub line_given : (text : List ℕ) (p : Placement) (xs left : List Lexeme) (first : ℕ) (end : Lexeme) (y : LayoutContext)
    (ls : List (Result LogicalLine Fault)) →
    first ≡ first_byte (length text) xs → left ≡ xs → end ≡ newline text xs → y ≡ after p xs →
    placed_line text p xs (layout_lexemes text (after p xs) ls) ≡ give (dedents p.dedents first)
    (give (indents p.indent first) (give left (Ok end ∷ layout_lexemes text y ls)))
line_given text p xs left first end y ls a b c d = rw (a, b, c, d) refl

-- the end of a line, whose parts were found so
pub end_given : (text : List ℕ) (xs : List Lexeme) (e : LineEnd) (from : ℕ) → from ≡ last_byte (length text) xs
    → e.place ≡ line_end text from → e.text.now ≡ slice_range text e.place.start e.place.end
    → end_of_line e ≡ newline text xs
end_given text xs e from a b c = rw (c, b, a) refl
