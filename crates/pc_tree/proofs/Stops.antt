-- A list of the program, from one element on.
use Rattle.std.proofs.Common.{◌≡◌, ◌<◌, ℕ, suc, ◌+◌, ap, ◌∙◌, sym, arith, List, [], ◌∷◌, ◌++◌, map, length, get_or}
use Rattle.std.proofs.Common.{take, drop}
use Rattle.std.proofs.Math.Seq.{drop-cons}
use Rattle.std.proofs.lemmas.List.{map_more}

-- the element, and then those after it
pub cons_at : {X : Type 0} (xs : List X) (i : ℕ) (d : X) → i < length xs → d ≡ get_or xs i d
    → drop i xs ≡ d ∷ drop (i + 1) xs
cons_at xs i d lt is = let e : suc i ≡ i + 1 = omega arith in drop-cons xs i d lt
    ∙ ap (λ k. get_or xs i d ∷ drop k xs) e ∙ ap (λ x. x ∷ drop (i + 1) xs) (sym is)

-- the first i + 1 elements are the first i, and then the element
pub more_at : {X Y : Type 0} (f : X → Y) (xs : List X) (i : ℕ) (d : X) → i < length xs → d ≡ get_or xs i d
    → map f (take (i + 1) xs) ≡ map f (take i xs) ++ f d ∷ []
more_at f xs i d lt is = map_more f xs i d lt ∙ ap (λ x. map f (take i xs) ++ f x ∷ []) (sym is)
