-- Texts as lists of characters: their equality, order and parts, and the texts of other values.
-- Language Reference 6.10 "Comparisons"; Library Reference, "Text Sequence Type".
use Rattle.std.specs.Prelude.{◌≡◌, ℕ, Bool, true, false, ◌||◌, List, [], ◌∷◌, length, take, bytes_eq, ℤ, codes, refl}
use Rattle.std.specs.Fmt.{signed_decimal}
use Rattle.std.specs.Cmp.Lexicographic.{slice_cmp}
use Rattle.std.specs.Ordering.{nat_cmp}
use Rattle.std.specs.declared.cmp.Ordering.{Ordering}
use Rattle.std.specs.declared.cmp.Ordering.TheVariants.{Less, Equal, Greater}

-- whether two texts have the same characters
abbrev pub same_text : List ℕ → List ℕ → Bool
same_text = bytes_eq

-- whether an order is Less
abbrev pub is_less : Ordering → Bool
is_less Less = true
is_less Equal = false
is_less Greater = false

-- whether one text is ordered before another: by the first characters that differ, else the shorter one first
abbrev pub text_below : List ℕ → List ℕ → Bool
text_below s t = is_less (slice_cmp nat_cmp s t)

-- whether a text begins with another one
abbrev pub begins_with : List ℕ → List ℕ → Bool
begins_with part whole = same_text part (take (length part) whole)

-- whether a text occurs in another one: at its front, or after its first character
abbrev pub occurs_in : List ℕ → List ℕ → Bool
occurs_in part [] = begins_with part []
occurs_in part (c ∷ rest) = begins_with part (c ∷ rest) || occurs_in part rest

-- the texts of True and False
abbrev pub text_of_truth : Bool → List ℕ
text_of_truth true = codes "True"
text_of_truth false = codes "False"

-- a whole number in digits, with `-` before it if it is below zero
abbrev pub text_of_number : ℤ → List ℕ
text_of_number = signed_decimal

-- ---- rows

front_first : text_below (codes "ab") (codes "abc") ≡ true
front_first = refl

later_letter : text_below (codes "b") (codes "abc") ≡ false
later_letter = refl

not_below_itself : text_below (codes "ab") (codes "ab") ≡ false
not_below_itself = refl

inside : occurs_in (codes "bc") (codes "abcd") ≡ true
inside = refl

not_inside : occurs_in (codes "bd") (codes "abcd") ≡ false
not_inside = refl

empty_inside : occurs_in [] [] ≡ true
empty_inside = refl
