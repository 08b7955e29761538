-- Loops over mapped lists: the items still to come.
use Rattle.std.proofs.Common.{◌≡◌, ◌+◌, ◌<◌, ◌≤◌, ℕ, suc, ◌∷◌, [], List, ap, sym, ◌∙◌, length, drop, get_or, add-one}
use Rattle.std.proofs.Common.{drop-cons}
use Rattle.std.specs.Prelude.{map}
use Rattle.std.proofs.lemmas.List.{drop-map, drop_all}

-- the rest of a mapped list from an item on
pub mapped_rest : {X Y : Type 0} (f : X → Y) (xs : List X) (i : ℕ) (x : X) → i < length xs → x ≡ get_or xs i x
    → drop i (map f xs) ≡ f x ∷ drop (i + 1) (map f xs)
mapped_rest f xs i x h e =
    drop-map f i xs ∙ ap (map f) (drop-cons xs i x h ∙ ap (λ y. y ∷ drop (suc i) xs) (sym e))
    ∙ ap (λ l. f x ∷ l) (sym (drop-map f (suc i) xs)) ∙ ap (λ n. f x ∷ drop n (map f xs)) (sym (add-one i))

-- nothing is left of a mapped list
pub mapped_end : {X Y : Type 0} (f : X → Y) (xs : List X) (i : ℕ) → length xs ≤ i → drop i (map f xs) ≡ []
mapped_end f xs i h = drop-map f i xs ∙ ap (map f) (drop_all i xs h)
