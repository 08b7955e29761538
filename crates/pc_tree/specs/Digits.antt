-- The value of digits. Language Reference 2.4.4 "Numeric literals".
use Rattle.std.specs.Prelude.{ℕ, ◌+◌, ◌*◌, ◌-◌, List, [], ◌∷◌}

-- the number written by digits that follow those of n
abbrev pub number_behind : ℕ → List ℕ → ℕ
number_behind n [] = n
number_behind n (d ∷ ds) = number_behind (10 * n + (d - 48)) ds
