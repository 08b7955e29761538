-- Small cases of the definitions, each as it should come out.
use Rattle.std.proofs.Common.{◌≡◌, ℕ, ◌+◌, [], ◌∷◌, refl, inl, inr, arith}
use Rattle.pc_source.specs.declared.place.Place.{Place}
use Rattle.pc_token.specs.declared.token.TokenKind.TheVariants.{Name, Newline, Indent, Dedent, End}
use Rattle.pc_token.specs.Lexeme.{LogicalLine}
use Rattle.pc_layout.specs.Forest.{nothing, line}
use Rattle.pc_layout.specs.Flat.{line_end, flat, empty_token}
use Rattle.pc_layout.specs.Faults.{IsOpen, ReturnsNowhere}

abbrev place : ℕ → ℕ → Place
place start end = record { start = start; end = end }

-- a line feed, one after a carriage return, and none
line_feed_row : line_end (120 ∷ 32 ∷ 10 ∷ 121 ∷ []) 1 ≡ place 2 3
line_feed_row = refl

carriage_return_row : line_end (120 ∷ 13 ∷ 10 ∷ 121 ∷ []) 1 ≡ place 1 3
carriage_return_row = refl

no_end_row : line_end (120 ∷ 32 ∷ []) 1 ≡ place 2 2
no_end_row = refl

-- a line of one name
abbrev name_at : ℕ → ℕ → LogicalLine
name_at column byte = record {
  column = column;
  lexemes = record {
    kind = Name;
    place = place byte (byte + 1);
    text =
        120 ∷ [];
    form = 120 ∷ [];
  } ∷ [];
}

-- after lines at columns 0, 4 and 8 the suite of column 4 is open, and none of column 2
open_row : IsOpen 4 (name_at 8 20 ∷ name_at 4 10 ∷ name_at 0 0 ∷ [])
open_row = inr (omega arith, inl refl)

nowhere_row : ReturnsNowhere (name_at 2 30) (name_at 8 20 ∷ name_at 4 10 ∷ name_at 0 0 ∷ [])
nowhere_row = (
  omega arith,
  λ h. elim h [
    | inl e ↦ omega (arith, e)
    | inr g ↦ elim g.1 [
      | inl e ↦ omega (arith, e)
      | inr i ↦ elim i.1 [ inl e ↦ omega (arith, e) | inr j ↦ omega (arith, j.0) ]
    ]
  ],
)

-- `x`, and deeper `x`, with a line feed each: two NEWLINEs, one INDENT, one DEDENT, END
flat_row : flat (120 ∷ 10 ∷ 32 ∷ 120 ∷ 10 ∷ []) (line (name_at 0 0) (line (name_at 1 3) nothing nothing) nothing)
    ≡ record { kind = Name; place = place 0 1; text = 120 ∷ []; form = 120 ∷ [] }
    ∷ record { kind = Newline; place = place 1 2; text = 10 ∷ []; form = 10 ∷ [] }
    ∷ empty_token Indent 3
    ∷ record { kind = Name; place = place 3 4; text = 120 ∷ []; form = 120 ∷ [] }
    ∷ record { kind = Newline; place = place 4 5; text = 10 ∷ []; form = 10 ∷ [] }
    ∷ empty_token Dedent 5
    ∷ empty_token End 5
    ∷ []
flat_row = refl
