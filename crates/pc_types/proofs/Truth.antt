-- A test says whether a fact holds: of `and` and `or`, which stop at the first test that decides.
use Rattle.std.proofs.Common.{◌≡◌, ◌↔◌, ◌⊎◌, Bool as Test, IsTrue, true, false, true≢false, refl, sym, ◌∙◌, ⊎_elim}

pub yes_is : {X : Type 0} → X → IsTrue true ↔ X
yes_is x = (λ h. x, λ y. refl)

pub no_is : {X : Type 0} → (X → ⊥) → IsTrue false ↔ X
no_is n = (λ h. absurd (true≢false (sym h)), λ x. absurd (n x))

pub is_no : {X : Type 0} {r : Test} → r ≡ false → (IsTrue r ↔ X) → X → ⊥
is_no f i x = true≢false (sym (i.1 x) ∙ f)

-- both: the first test passed, and the second decides
pub both_second : {X Y Z : Type 0} {r q : Test} → r ≡ true → (IsTrue r ↔ X) → (IsTrue q ↔ Y) → (Z → X × Y) → (X → Y → Z)
    → IsTrue q ↔ Z
both_second t i j f g = (λ h. g (i.0 t) (j.0 h), λ z. j.1 (f z).1)

-- both: the first test failed
pub both_first : {X Z : Type 0} {r : Test} → r ≡ false → (IsTrue r ↔ X) → (Z → X) → IsTrue r ↔ Z
both_first f i g = (λ h. absurd (true≢false (sym h ∙ f)), λ z. i.1 (g z))

-- either: the first test passed
pub either_first : {X Z : Type 0} {r : Test} → r ≡ true → (IsTrue r ↔ X) → (X → Z) → IsTrue r ↔ Z
either_first t i g = (λ h. g (i.0 h), λ z. t)

-- either: the first test failed, and the second decides
pub either_second : {X Y Z : Type 0} {r q : Test} → r ≡ false → (IsTrue r ↔ X) → (IsTrue q ↔ Y) → (Z → X ⊎ Y) → (Y → Z)
    → IsTrue q ↔ Z
either_second f i j s g = (λ h. g (j.0 h), λ z. ⊎_elim (λ x. absurd (is_no f i x)) j.1 (s z))

-- the same fact said otherwise
pub through_is : {X Z : Type 0} {r : Test} → (IsTrue r ↔ X) → (X ↔ Z) → IsTrue r ↔ Z
through_is i j = (λ h. j.0 (i.0 h), λ z. i.1 (j.1 z))

-- two tests of one fact are one
pub same_test : {X : Type 0} (a b : Test) → IsTrue a ↔ X → IsTrue b ↔ X → a ≡ b
same_test true true f g = refl
same_test true false f g = sym (g.1 (f.0 refl))
same_test false true f g = f.1 (g.0 refl)
same_test false false f g = refl
