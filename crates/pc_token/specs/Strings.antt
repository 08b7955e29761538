-- Strings. Python Language Reference 3.12, 2.4.1 "String and Bytes literals"; the refusals are own rules of the
-- profile.
use Rattle.std.specs.Prelude.{◌≡◌, ℕ, Bool, true, not, ◌&&◌, ◌||◌, ◌==◌, List, [], ◌∷◌, ◌++◌, slice_index}

-- a quotation mark or an apostrophe
abbrev pub is_quote : ℕ → Bool
is_quote b = b == 34 || b == 39

-- the byte may follow a backslash: it is a backslash, a quote, or one of the letters n, t and r
abbrev pub is_escape : ℕ → Bool
is_escape b = ((b == 92 || is_quote b) || b == 110) || (b == 116 || b == 114)

-- the byte means itself between these quotes: it is not that quote, a backslash or a line feed
abbrev pub is_plain : ℕ → ℕ → Bool
is_plain quote b = not (b == quote) && (not (b == 92) && not (b == 10))

-- the body of a string between these quotes: plain bytes and escapes
pub data IsBody (quote : ℕ) : List ℕ → Type 0 where
  none : IsBody quote []
  plain : {b : ℕ} {bs : List ℕ} → is_plain quote b ≡ true → IsBody quote bs → IsBody quote (b ∷ bs)
  escape : {b e : ℕ} {bs : List ℕ} → b ≡ 92 → is_escape e ≡ true → IsBody quote bs → IsBody quote (b ∷ e ∷ bs)

-- a string: a quote, a body for such quotes, and the same quote again
abbrev pub IsString : List ℕ → Type 0
IsString bytes = (quote : ℕ) × (body : List ℕ) × (is_quote quote ≡ true) × IsBody quote body
    × (bytes ≡ quote ∷ (body ++ (quote ∷ [])))

-- an empty string, followed directly by the same quote
abbrev pub is_tripled : List ℕ → Bool
is_tripled text = slice_index text 1 == slice_index text 0 && slice_index text 2 == slice_index text 0
