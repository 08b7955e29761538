-- Findings of one code, at places that are found one part after another.
use Rattle.std.proofs.Common.{◌≡◌, List, [], ◌∷◌, ◌++◌, refl, ap, ◌∙◌, sym, subst, append_assoc}
use Rattle.std.specs.Prelude.{Result, OnOk}
use Rattle.pc_source.specs.declared.place.Place.{Place}
use Rattle.pc_tree.specs.declared.code.Code.{Code}
use Rattle.pc_tree.specs.declared.code.Finding.{Finding}
use Rattle.pc_tree.specs.Code.{finding, at_code}

-- a code at the places of two lists
pub at_both : (c : Code) (xs ys : List Place) → at_code c (xs ++ ys) ≡ at_code c xs ++ at_code c ys
at_both c [] ys = refl
at_both c (x ∷ xs) ys = ap (λ fs. finding x c ∷ fs) (at_both c xs ys)

-- the findings of a step, joined with those at the places after it
pub stepped : (c : Code) (old mid : List Finding) (xs ys zs : List Place) → mid ≡ old ++ at_code c xs → zs ≡ xs ++ ys
    → mid ++ at_code c ys ≡ old ++ at_code c zs
stepped c old mid xs ys zs is all = ap (λ (fs : List Finding). fs ++ at_code c ys) is
    ∙ append_assoc old (at_code c xs) (at_code c ys) ∙ ap (λ (fs : List Finding). old ++ fs) (sym (at_both c xs ys))
    ∙ ap (λ (ps : List Place). old ++ at_code c ps) (sym all)

-- two steps find what is to be found at the places of both
pub joined : {T E : Type 0} (r : Result T E) (c : Code) (old mid new : List Finding) (xs ys zs : List Place)
    → mid ≡ old ++ at_code c xs → zs ≡ xs ++ ys → OnOk r (new ≡ mid ++ at_code c ys)
    → OnOk r (new ≡ old ++ at_code c zs)
joined r c old mid new xs ys zs is all h = subst (λ (fs : List Finding). OnOk r (new ≡ fs))
    (stepped c old mid xs ys zs is all) h

-- two steps, each with findings of its own
pub behind : {T E : Type 0} (r : Result T E) (old mid new xs ys : List Finding) → mid ≡ old ++ xs
    → OnOk r (new ≡ mid ++ ys) → OnOk r (new ≡ old ++ (xs ++ ys))
behind r old mid new xs ys is h = subst (λ (fs : List Finding). OnOk r (new ≡ fs))
    (ap (λ (fs : List Finding). fs ++ ys) is ∙ append_assoc old xs ys) h
