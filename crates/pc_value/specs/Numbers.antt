-- Whole numbers without bound: the value of digits, floor division, and order.
-- Language Reference 2.4.4 "Numeric literals", 6.7 "Binary arithmetic operations".
use Rattle.std.specs.Prelude.{◌≡◌, ℕ, zero, suc, ◌-◌, ◌/◌, ◌%◌, ◌^◌, Bool, true, false, List, [], ◌∷◌, ℤ, pos}
use Rattle.std.specs.Prelude.{negsuc, ◌+ℤ◌, ◌*ℤ◌, neg_ℤ, nat_eq, nat_lt, refl}
use Rattle.pc_tree.specs.Digits.{number_behind}

-- the value of a sequence of digits
abbrev pub number_of_digits : List ℕ → ℤ
number_of_digits digits = pos (number_behind 0 digits)

-- the value of a sequence of digits with `-` before it
abbrev pub negative_of_digits : List ℕ → ℤ
negative_of_digits digits = neg_ℤ (number_of_digits digits)

-- the quotient by a positive number, rounded toward minus infinity
abbrev pub floor_div_by : ℤ → ℕ → ℤ
floor_div_by (pos a) n = pos (a / n)
floor_div_by (negsuc a) n = negsuc (a / n)

-- the remainder of floor division by a positive number: at least zero, and less than the divisor
abbrev pub floor_mod_by : ℤ → ℕ → ℤ
floor_mod_by (pos a) n = pos (a % n)
floor_mod_by (negsuc a) n = pos (n - 1 - a % n)

-- the floor quotient by a divisor other than zero; a negative one divides the opposite number by the opposite divisor
abbrev pub floor_div : ℤ → ℤ → ℤ
floor_div x (pos n) = floor_div_by x n
floor_div x (negsuc n) = floor_div_by (neg_ℤ x) (suc n)

-- the remainder of floor division, which has the sign of the divisor
abbrev pub floor_mod : ℤ → ℤ → ℤ
floor_mod x (pos n) = floor_mod_by x n
floor_mod x (negsuc n) = neg_ℤ (floor_mod_by (neg_ℤ x) (suc n))

-- whether a number is zero
abbrev pub is_zero : ℤ → Bool
is_zero (pos zero) = true
is_zero (pos (suc n)) = false
is_zero (negsuc n) = false

-- whether two numbers are equal
abbrev pub same_number : ℤ → ℤ → Bool
same_number (pos a) (pos b) = nat_eq a b
same_number (pos a) (negsuc b) = false
same_number (negsuc a) (pos b) = false
same_number (negsuc a) (negsuc b) = nat_eq a b

-- whether the first number is less than the second
abbrev pub number_below : ℤ → ℤ → Bool
number_below (pos a) (pos b) = nat_lt a b
number_below (pos a) (negsuc b) = false
number_below (negsuc a) (pos b) = true
number_below (negsuc a) (negsuc b) = nat_lt b a

-- whether a number fits 128 signed bits
abbrev pub fits : ℤ → Bool
fits (pos n) = nat_lt n (2 ^ 127)
fits (negsuc n) = nat_lt n (2 ^ 127)

-- ---- rows

seven_by_two : floor_div (pos 7) (pos 2) ≡ pos 3
seven_by_two = refl

minus_seven_by_two : floor_div (negsuc 6) (pos 2) ≡ negsuc 3
minus_seven_by_two = refl

seven_by_minus_two : floor_div (pos 7) (negsuc 1) ≡ negsuc 3
seven_by_minus_two = refl

six_by_minus_two : floor_div (pos 6) (negsuc 1) ≡ negsuc 2
six_by_minus_two = refl

minus_seven_by_minus_two : floor_div (negsuc 6) (negsuc 1) ≡ pos 3
minus_seven_by_minus_two = refl

minus_seven_mod_two : floor_mod (negsuc 6) (pos 2) ≡ pos 1
minus_seven_mod_two = refl

seven_mod_minus_two : floor_mod (pos 7) (negsuc 1) ≡ negsuc 0
seven_mod_minus_two = refl

minus_seven_mod_minus_two : floor_mod (negsuc 6) (negsuc 1) ≡ negsuc 0
minus_seven_mod_minus_two = refl

digits_of_305 : number_of_digits (51 ∷ 48 ∷ 53 ∷ []) ≡ pos 305
digits_of_305 = refl

-- the quotient times the divisor plus the remainder is the number
made_again : pos 7 ≡ (negsuc 1 *ℤ floor_div (pos 7) (negsuc 1)) +ℤ floor_mod (pos 7) (negsuc 1)
made_again = refl

made_again_below : negsuc 6 ≡ (pos 2 *ℤ floor_div (negsuc 6) (pos 2)) +ℤ floor_mod (negsuc 6) (pos 2)
made_again_below = refl
