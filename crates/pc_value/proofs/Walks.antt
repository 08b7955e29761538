-- The loops over texts and digits.
use Rattle.std.proofs.Common.{◌≡◌, ℕ, suc, ◌+◌, ◌-◌, ◌*◌, ◌<◌, ◌≤◌, ◌^◌, false, List, [], ◌∷◌, length, get_or, take}
use Rattle.std.proofs.Common.{drop, drop-cons, refl, arith}
use Rattle.std.proofs.lemmas.Grind.{common_steps}
use Rattle.pc_tree.specs.Digits.{number_behind}
use Rattle.pc_value.specs.Texts.{begins_with, occurs_in}

-- a text that does not begin with the part
pub occurs_later : (part whole : List ℕ) (i : ℕ) → i < length whole → begins_with part (drop i whole) ≡ false
    → occurs_in part (drop i whole) ≡ occurs_in part (drop (suc i) whole)
occurs_later part whole i lt h = let e = drop-cons whole i 0 lt in let h' = rw e at h in rw (e, h') refl

-- the same, of the slice that the loop tests
pub occurs_in_rest : (part whole : List ℕ) (i : ℕ) → i < length whole
    → begins_with part (take (length whole - i) (drop i whole)) ≡ false → occurs_in part (drop i whole) ≡ occurs_in part
    (drop (suc i) whole)
occurs_in_rest part whole i lt h =
    let whole_rest : take (length whole - i) (drop i whole) ≡ drop i whole = grind (arith, common_steps) in
    occurs_later part whole i lt (rw whole_rest at h)

-- digits after a number make no smaller one
pub no_smaller : (n : ℕ) (ds : List ℕ) → n ≤ number_behind n ds
no_smaller n [] = omega arith
no_smaller n (d ∷ ds) = let h = no_smaller (10 * n + (d - 48)) ds in omega arith

pub too_wide : (ds : List ℕ) (i n : ℕ) → i < length ds → 2 ^ 128 ≤ 10 * n + (get_or ds i 0 - 48)
    → number_behind 0 ds ≡ number_behind n (drop i ds) → 2 ^ 128 ≤ number_behind 0 ds
too_wide ds i n lt h e =
    let h' = no_smaller (10 * n + (get_or ds i 0 - 48)) (drop (suc i) ds) in
    let e' = rw (drop-cons ds i 0 lt) at e in
    omega arith
