-- One call of the iterator of tokens.
use Rattle.std.specs.Prelude.{◌≡◌, ℕ, List, [], ◌∷◌, Option, Result, Ok, Err, MatchOption, MatchResult}
use Rattle.std.specs.Borrow.{Bor}
use Rattle.pc_source.specs.declared.fault.Fault.{Fault}
use Rattle.pc_token.specs.declared.token.Line.{Line}
use Rattle.pc_token.specs.declared.token.Token.{Token}
use Rattle.pc_token.specs.Lexeme.{Lexeme, lexeme_of}
use Rattle.pc_layout.specs.TokenIterator.Items.{ItemsLeft}
use Rattle.pc_layout.specs.declared.pending_line.PendingLine.{PendingLine}
use Rattle.pc_layout.specs.declared.pending_line.LineStage.TheVariants.{Nothing}

-- the iterator gives the first of the items that are left; after a fault and after END it gives nothing
abbrev pub gives_next_token : {I : Type 0} → (I → Option (Result Line Fault) → I → Type 0) → PendingLine → I
    → Option (Result (Token (Bor (List ℕ))) Fault) → PendingLine → I → Type 0
gives_next_token steps h it r h' it' = MatchOption r
    ((h'.due ≡ Nothing) × ItemsLeft steps h it [])
    (λ i. MatchResult i
    (λ x. (ys : List (Result Lexeme Fault)) → ItemsLeft steps h' it' ys → ItemsLeft steps h it (Ok (lexeme_of x) ∷ ys))
    (λ e. (h'.due ≡ Nothing) × ItemsLeft steps h it (Err e ∷ [])))
