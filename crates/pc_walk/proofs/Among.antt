-- Membership in lists of locals.
use Rattle.std.proofs.Common.{◌≡◌, ◌∙◌, ℕ, List, ◌++◌, refl, sym}
use Rattle.std.specs.Prelude.{Bool, true, false, ◌||◌, nat_eq}
use Rattle.std.proofs.lemmas.List.Folds.{list_any-append}
use Rattle.pc_flow.specs.Agreement.{is_among}

pub among_both : (x : ℕ) (xs ys : List ℕ) → is_among (xs ++ ys) x ≡ (is_among xs x || is_among ys x)
among_both x xs ys = list_any-append (nat_eq x) xs ys

shuffled : (a b c d : Bool) → ((a || b) || (c || d)) ≡ ((a || c) || (b || d))
shuffled true b c d = refl
shuffled false true true d = refl
shuffled false true false d = refl
shuffled false false true d = refl
shuffled false false false d = refl

-- four lists in another order
pub among_four : (x : ℕ) (a b c d : List ℕ) → is_among ((a ++ b) ++ (c ++ d)) x ≡ is_among ((a ++ c) ++ (b ++ d)) x
among_four x a b c d =
    among_both x (a ++ b) (c ++ d)
    ∙ (λ i. among_both x a b i || among_both x c d i)
    ∙ shuffled (is_among a x) (is_among b x) (is_among c x) (is_among d x)
    ∙ sym (among_both x (a ++ c) (b ++ d) ∙ (λ i. among_both x a c i || among_both x b d i))
