use Rattle.std.proofs.Common.{◌≡◌, ℕ, ◌-◌, ◌<◌, ◌≤◌, ◌≢◌, List, length, get_or, take, drop, ap, sym, arith}
use Rattle.std.specs.Prelude.{true, false, ◌==◌, not}
use Rattle.std.specs.List.{after_last, suffix_len}
use Rattle.std.proofs.lemmas.List.{take_rest}
use Rattle.std.proofs.lemmas.List.Sums.{suffix_len_is}
use Rattle.std.proofs.lemmas.Bool.Decides.{nat_tests}

differs : (a b : ℕ) → a ≢ b → not (a == b) ≡ true
differs a b h = grind (arith, nat_tests)

same : (a b : ℕ) → a ≡ b → not (a == b) ≡ false
same a b h = grind (arith, nat_tests)

-- the last line is the text from n on, if it has no line feed and one is right before it
pub last_line_is : (bs : List ℕ) (n : ℕ) → n ≤ length bs →
    ((k : ℕ) → n ≤ k → k < length bs → get_or bs k 0 ≢ 10) →
    (0 < n → get_or bs (n - 1) 0 ≡ 10) →
    take (length bs - n) (drop n bs) ≡ after_last (λ b. b == 10) bs
last_line_is bs n in_range none one =
    let len : suffix_len (λ b. not (b == 10)) bs ≡ length bs - n =
    suffix_len_is (λ b. not (b == 10)) bs n 0 in_range
    (λ k low high. differs (get_or bs k 0) 10 (none k low high))
    (λ h. same (get_or bs (n - 1) 0) 10 (one h)) in
    let from : length bs - suffix_len (λ b. not (b == 10)) bs ≡ n = omega arith in
    rw take_rest (ap (λ k. drop k bs) (sym from))
