-- One part of a list behind another.
use Rattle.std.proofs.Common.{◌≡◌, List, ◌++◌, ap, ◌∙◌, sym, subst, append_assoc}
use Rattle.std.specs.Prelude.{Result, OnOk}

-- a list with a first part and then the rest appended is the list with the whole appended
pub stepped : {X : Type 0} (old mid xs ys zs : List X) → mid ≡ old ++ xs → zs ≡ xs ++ ys → mid ++ ys ≡ old ++ zs
stepped old mid xs ys zs is all = ap (λ l. l ++ ys) is ∙ (append_assoc old xs ys ∙ ap (λ l. old ++ l) (sym all))

-- two steps add what both add
pub joined : {X T E : Type 0} (r : Result T E) (old mid new xs ys zs : List X) → mid ≡ old ++ xs → zs ≡ xs ++ ys
    → OnOk r (new ≡ mid ++ ys) → OnOk r (new ≡ old ++ zs)
joined r old mid new xs ys zs is all h = subst (λ l. OnOk r (new ≡ l)) (stepped old mid xs ys zs is all) h
