-- A number begins with a digit and holds digits and underscores alone.
use Rattle.std.proofs.Common.{◌≡◌, ◌==◌, ℕ, List, [], ◌∷◌, ◌++◌, ◌||◌, ◌&&◌, Bool, true, false, not, get_or, codes}
use Rattle.std.proofs.Common.{refl, ap}
use Rattle.std.specs.Prelude.{bytes_eq}
use Rattle.std.specs.Char.{is_ascii_digit}
use Rattle.std.specs.List.{list_all}
use Rattle.std.proofs.lemmas.Bool.{and_parts}
use Rattle.pc_token.specs.Numbers.{is_number, is_number_byte, underscores_fit}
use Rattle.pc_token.proofs.OneFault.{number_same}

-- one of two tests is passed
either : (a b : Bool) → (C : Type 0) → (a ≡ true → C) → (b ≡ true → C) → (a || b) ≡ true → C
either true b C f g h = f refl
either false b C f g h = g h

-- the digits of a number that is not `0`
abbrev others : ℕ → List ℕ → Bool
others b bs = (is_ascii_digit b && not (b == 48)) && (list_all is_number_byte (b ∷ bs) && underscores_fit (b ∷ bs))

zero_digit : (b : ℕ) (bs : List ℕ) → bytes_eq (b ∷ bs) (codes "0") ≡ true → (b ≡ 48) × (bytes_eq bs [] ≡ true)
zero_digit b bs h = let parts = and_parts (b == 48) (bytes_eq bs []) h in (number_same b 48 parts.0, parts.1)

pub number_digit : (bytes rest : List ℕ) → is_number bytes ≡ true → is_ascii_digit (get_or (bytes ++ rest) 0 0) ≡ true
number_digit [] rest h = cc
number_digit (b ∷ bs) rest h = either (bytes_eq (b ∷ bs) (codes "0")) (others b bs) (is_ascii_digit b ≡ true)
    (λ z. ap is_ascii_digit (zero_digit b bs z).0)
    (λ o. (and_parts (is_ascii_digit b) (not (b == 48)) (and_parts (is_ascii_digit b && not (b == 48))
    (list_all is_number_byte (b ∷ bs) && underscores_fit (b ∷ bs)) o).0).0) h

alone : (b : ℕ) (bs : List ℕ) → b ≡ 48 → bytes_eq bs [] ≡ true → list_all is_number_byte (b ∷ bs) ≡ true
alone b [] e h = ap (λ x. list_all is_number_byte (x ∷ [])) e
alone b (x ∷ bs) e h = cc

pub number_bytes : (bytes : List ℕ) → is_number bytes ≡ true → list_all is_number_byte bytes ≡ true
number_bytes [] h = refl
number_bytes (b ∷ bs) h = either (bytes_eq (b ∷ bs) (codes "0")) (others b bs)
    (list_all is_number_byte (b ∷ bs) ≡ true) (λ z. alone b bs (zero_digit b bs z).0 (zero_digit b bs z).1)
    (λ o. (and_parts (list_all is_number_byte (b ∷ bs)) (underscores_fit (b ∷ bs))
    (and_parts (is_ascii_digit b && not (b == 48)) (list_all is_number_byte (b ∷ bs) && underscores_fit (b ∷ bs))
    o).1).0) h
