-- The bytes of each token. Python Language Reference 3.12, 2.1.7 "Other tokens" and 2.1.9: if several tokens begin at a
-- place, the longest is read.
use Rattle.std.specs.Prelude.{◌≡◌, ℕ, true, List, [], ◌++◌}
use Rattle.pc_token.specs.declared.token.Keyword.{Keyword}
use Rattle.pc_token.specs.declared.token.TokenKind.{TokenKind}
use Rattle.pc_token.specs.declared.token.TokenKind.TheVariants as t
use Rattle.pc_token.specs.Keywords.{keyword_text}
use Rattle.pc_token.specs.Names.{IsName}
use Rattle.pc_token.specs.Numbers.{is_number}
use Rattle.pc_token.specs.Operators.{operator_text}
use Rattle.pc_token.specs.Strings.{IsString}

-- the bytes are a token of this kind
abbrev pub IsToken : TokenKind → List ℕ → Type 0
IsToken t.Name bytes = IsName bytes × ((k : Keyword) → keyword_text k ≡ bytes → ⊥)
IsToken t.Int bytes = is_number bytes ≡ true
IsToken t.Str bytes = IsString bytes
IsToken (t.Keyword k) bytes = keyword_text k ≡ bytes
IsToken (t.Operator o) bytes = operator_text o ≡ bytes
IsToken _ bytes = ⊥

-- the bytes are a token, and no longer prefix of the text here is one
pub record IsLongest (kind : TokenKind) (bytes rest : List ℕ) : Type 0 where
  pub token : IsToken kind bytes
  pub longest : (other : TokenKind) (more after : List ℕ) → rest ≡ more ++ after → IsToken other (bytes ++ more)
      → more ≡ []
