-- A single token as an operand.
use Rattle.std.proofs.Common.{◌≡◌, ◌≢◌, ◌<◌, ◌⊎◌, inl, inr, true, false, [], ◌∷◌, Option, Some, Result, Ok, Err}
use Rattle.std.proofs.Common.{MatchResult, IfOk, refl, sym, ap, ◌∙◌}
use Rattle.pc_source.specs.declared.fault.Fault.{Fault}
use Rattle.pc_source.specs.declared.fault.Fault.TheVariants as fault
use Rattle.pc_token.specs.declared.token.Token.{Token}
use Rattle.pc_token.specs.declared.token.TokenKind.{TokenKind}
use Rattle.pc_token.specs.declared.token.TokenKind.TheVariants as kind
use Rattle.pc_token.specs.declared.token.Keyword.TheVariants as word
use Rattle.pc_token.specs.declared.token.Operator.TheVariants as sign
use Rattle.pc_token.specs.Lexeme.{Lexeme}
use Rattle.pc_grammar.specs.Machine.Kinds.{same_kind, operand_start}
use Rattle.pc_grammar.specs.Machine.States.{Stack, applying, operand, have, denial, stuck, go, on}
use Rattle.pc_grammar.specs.Machine.Expressions.{needed_level, name_part, operand_turn}
use Rattle.pc_reader.specs.Internal.Expressions.{is_value_start, value_ahead}
use Rattle.pc_reader.specs.Reading.{IsAhead}
use Rattle.pc_reader.proofs.Frames.{not_le}

-- a token that begins no operand here
pub no_operand : (s : Stack) (t : Lexeme) (k : TokenKind) → is_value_start (operand_start k) ≡ false
    → same_kind k (kind.Operator sign.LeftParenthesis) ≡ false → same_kind k (kind.Operator sign.LeftBracket) ≡ false
    → same_kind k (kind.Operator sign.LeftBrace) ≡ false → same_kind k (kind.Operator sign.Minus) ≡ false → (2 < needed_level s)
    ⊎ (same_kind k (kind.Keyword word.Not) ≡ false)
    → operand_turn s t (operand_start k) ≡ stuck
no_operand s t kind.Name v a b c m n = cc
no_operand s t kind.Int v a b c m n = cc
no_operand s t kind.Str v a b c m n = cc
no_operand s t (kind.Keyword word.True) v a b c m n = cc
no_operand s t (kind.Keyword word.False) v a b c m n = cc
no_operand s t (kind.Keyword word.None) v a b c m n = cc
no_operand s t (kind.Operator sign.LeftParenthesis) v a b c m n = cc
no_operand s t (kind.Operator sign.LeftBracket) v a b c m n = cc
no_operand s t (kind.Operator sign.LeftBrace) v a b c m n = cc
no_operand s t (kind.Operator sign.Minus) v a b c m n = cc
no_operand s t (kind.Keyword word.Not) v a b c m (inl h) = ap (λ z. on z (operand (applying denial (t ∷ []) s)) stuck)
    (not_le (needed_level s) 2 h)
no_operand s t (kind.Keyword word.Not) v a b c m (inr h) = cc
no_operand s t _ v a b c m n = refl

-- a value that is no number, no string and no word is a name
pub only_name : (s : Stack) (t : Lexeme) (k : TokenKind) → is_value_start (operand_start k) ≡ true → k ≢ kind.Int
    → k ≢ kind.Str → k ≢ kind.Keyword word.True → k ≢ kind.Keyword word.False → k ≢ kind.Keyword word.None
    → operand_turn s t (operand_start k) ≡ go (have 7 (name_part t) s)
only_name s t kind.Name v i j a b c = refl
only_name s t kind.Int v i j a b c = absurd (i refl)
only_name s t kind.Str v i j a b c = absurd (j refl)
only_name s t (kind.Keyword word.True) v i j a b c = absurd (a refl)
only_name s t (kind.Keyword word.False) v i j a b c = absurd (b refl)
only_name s t (kind.Keyword word.None) v i j a b c = absurd (c refl)
only_name s t (kind.Operator sign.Minus) v i j a b c = cc
only_name s t _ v i j a b c = cc

module _ {X : Type 0} where
  pub no_value : {a : Option (Token X)} {t : Token X} → value_ahead a ≡ false → a ≡ Some t
      → is_value_start (operand_start t.kind) ≡ false
  no_value e h = sym (ap value_ahead h) ∙ e

pub undenied : {X : Type 0} (s : Stack) {a : Option (Token X)} {t : Token X} → (2 < needed_level s)
    ⊎ (IsAhead (kind.Keyword word.Not) a ≡ false) → a ≡ Some t → (2 < needed_level s)
    ⊎ (same_kind t.kind (kind.Keyword word.Not) ≡ false)
undenied s (inl h) e = inl h
undenied s (inr h) e = inr (sym (ap (IsAhead (kind.Keyword word.Not)) e) ∙ h)

pub on_level : {A : Type 0} (r : Result A Fault) (P Q : A → Type 0) → ((x : A) → P x → Q x)
    → MatchResult r P (λ e. e ≡ fault.OutOfMemory) → IfOk r Q
on_level (Ok x) P Q f h = f x h
on_level (Err e) P Q f h = tt
