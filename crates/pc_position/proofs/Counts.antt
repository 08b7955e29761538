-- Sums of the units of texts.
use Rattle.std.proofs.Common.{◌≡◌, ℕ, ◌*◌, ◌<◌, ◌≤◌, List, [], ◌∷◌, length, ◌-◌, take, length-take, length-drop, refl}
use Rattle.std.proofs.Common.{arith}
use Rattle.std.specs.Prelude.{◌==◌, not, sum_by, All}
use Rattle.std.specs.List.{after_last, suffix_len}
use Rattle.std.proofs.lemmas.List.Elements.{All-take, All-drop, All-head, All-tail}
use Rattle.std.proofs.lemmas.List.Sums.{sum_by-cons, sum_by-le}
use Rattle.std.proofs.lemmas.Bool.Decides.{nat_tests}
use Rattle.pc_position.specs.declared.positions.Encoding.{Encoding}
use Rattle.pc_position.specs.declared.positions.Encoding.TheVariants.{Utf8, Utf16, Utf32}
use Rattle.pc_position.specs.Positions.{units, character_at}

-- no byte begins more than two units
pub units_few : (encoding : Encoding) (byte : ℕ) → units encoding byte ≤ 2
units_few Utf8 byte = omega arith
units_few Utf16 byte = grind (arith, nat_tests)
units_few Utf32 byte = grind (arith, nat_tests)

-- a character of a line is at most twice its byte
pub character_few : (encoding : Encoding) (text : List ℕ) (byte : ℕ) → character_at encoding text byte ≤ 2 * byte
character_few encoding text byte =
    let front : List ℕ = take byte text in
    let last : List ℕ = after_last (λ b. b == 10) front in
    let short : length last ≤ length front =
    grind (arith, length-drop (length front - suffix_len (λ b. not (b == 10)) front) front) in
    let front_short : length front ≤ byte = grind (arith, length-take byte text) in
    omega (arith, short, front_short, sum_by-le (units encoding) 2 last (λ k d h. units_few encoding _))

-- each byte of ASCII begins one unit
units_ascii : (encoding : Encoding) (byte : ℕ) → byte < 128 → units encoding byte ≡ 1
units_ascii Utf8 byte low = omega arith
units_ascii Utf16 byte low = grind (arith, nat_tests)
units_ascii Utf32 byte low = grind (arith, nat_tests)

units_alike : (encoding other : Encoding) (bytes : List ℕ) → All (λ b. b < 128) bytes
    → sum_by (units encoding) bytes ≡ sum_by (units other) bytes
units_alike encoding other [] ascii = refl
units_alike encoding other (b ∷ bs) ascii =
    let low : b < 128 = All-head (λ b. b < 128) b bs ascii in
    omega (
      arith,
      sum_by-cons (units encoding) b bs,
      sum_by-cons (units other) b bs,
      units_ascii encoding b low,
      units_ascii other b low,
      units_alike encoding other bs (All-tail (λ b. b < 128) b bs ascii),
    )

-- in a text of ASCII the encodings count alike
pub characters_alike : (encoding other : Encoding) (text : List ℕ) (byte : ℕ) → All (λ b. b < 128) text
    → character_at encoding text byte ≡ character_at other text byte
characters_alike encoding other text byte ascii =
    let front : List ℕ = take byte text in
    units_alike encoding other (after_last (λ b. b == 10) front)
    (All-drop (λ b. b < 128) _ front (All-take (λ b. b < 128) byte text ascii))
