-- Line feeds counted piece by piece.
use Rattle.std.proofs.Common.{◌≡◌, ℕ, ◌+◌, ◌≤◌, ◌-◌, List, take, drop, Bool, count_by, sym, ap, ◌∙◌, arith}
use Rattle.std.proofs.lemmas.List.{take-take, drop-take}
use Rattle.std.proofs.lemmas.List.Sums.{sum_by-take-drop}

-- the number counted before a, with that from a up to b, is the number counted before b
pub counted_on : (p : ℕ → Bool) (s : List ℕ) (a b : ℕ) → a ≤ b
    → count_by p (take a s) + count_by p (take (b - a) (drop a s)) ≡ count_by p (take b s)
counted_on p s a b h =
    let n : a + (b - a) ≡ b = omega arith in
    let front : take a (take b s) ≡ take a s = take-take a b s h in
    let back : drop a (take b s) ≡ take (b - a) (drop a s) = ap (λ m. drop a (take m s)) (sym n)
    ∙ drop-take a (b - a) s in
    (λ i. count_by p (sym front i) + count_by p (sym back i)) ∙ sum_by-take-drop _ (take b s) a
