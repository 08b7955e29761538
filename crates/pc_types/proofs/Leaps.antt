-- A search for an ancestor that leaps over others ends as one that goes from base to base.
use Rattle.std.proofs.Common.{◌≡◌, ◌≢◌, ◌≤◌, ◌↔◌, ℕ, Bool as Test, IsTrue, true, false, nat_eq, Some, refl, sym}
use Rattle.std.proofs.Common.{◌∙◌, arith, ⊎_elim}
use Rattle.std.proofs.lemmas.Bool.{cases_eq}
use Rattle.std.proofs.lemmas.Bool.Decides.{nat_tests}
use Rattle.pc_types.specs.Tree.{Class}
use Rattle.pc_types.specs.Below.{Bases, base_of, AreSmaller, Below}
use Rattle.pc_types.specs.Join.{reaches}
use Rattle.pc_types.proofs.Ancestors.{reaches_base, reaches_down, reaches_leap, reaches_itself}
use Rattle.pc_types.proofs.Descent.{reaches_below, below_reaches}

-- a leap goes to no greater number
pub leap_down : (bases : Bases) → AreSmaller bases → (c j : ℕ) → reaches bases c c j ≡ true → j ≤ c
leap_down bases o c j e = reaches_down bases o j c c e

-- the class that a class's base leaps to is an ancestor of the class
pub leap_of_base : (bases : Bases) → AreSmaller bases → (c b j : ℕ) → base_of bases c ≡ Some b
    → reaches bases b b j ≡ true → reaches bases c c j ≡ true
leap_of_base bases o c b j e h =
    let l = o c b e in
    let k = leap_down bases o b j h in
    reaches_base bases o j c b e (λ q. omega (arith, l, k, q)) ∙ h

-- an ancestor of an ancestor is one
pub leap_of_leap : (bases : Bases) → AreSmaller bases → (c j k : ℕ) → reaches bases c c j ≡ true
    → reaches bases j j k ≡ true → reaches bases c c k ≡ true
leap_of_leap bases o c j k e f = reaches_leap bases o k j c c (omega arith) (leap_down bases o j k f) e ∙ f

-- a search that leaps to an ancestor that isn't above the other one goes on from there
pub goes_on_from : (bases : Bases) → AreSmaller bases → (c j d : ℕ) → d ≤ j → reaches bases c c j ≡ true
    → reaches bases c c d ≡ reaches bases j j d
goes_on_from bases o c j d l e = reaches_leap bases o d j c c (omega arith) l e

-- a class reaches none of a greater number, and itself
pub ends_there : (bases : Bases) → AreSmaller bases → (c d : ℕ) → c ≤ d → nat_eq c d ≡ reaches bases c c d
ends_there bases o c d l = ⊎_elim (λ q. same q) (λ n. other n) (cases_eq c d)
  where
    same : c ≡ d → nat_eq c d ≡ reaches bases c c d
    same q = (grind (arith, nat_tests, q)) ∙ sym (reaches_itself bases c d q)

    not_reached : (x : Test) → reaches bases c c d ≡ x → c ≢ d → x ≡ false
    not_reached true e n = let k = leap_down bases o c d e in absurd (n (omega (arith, l, k)))
    not_reached false e n = refl

    other : c ≢ d → nat_eq c d ≡ reaches bases c c d
    other n = (grind (arith, nat_tests, n)) ∙ sym (not_reached (reaches bases c c d) refl n)

-- a class is below those that it reaches
pub reached_is_below : (bases : Bases) → AreSmaller bases → (c d : ℕ) (x : Test) → x ≡ reaches bases c c d
    → IsTrue x ↔ Below bases (Class c) (Class d)
reached_is_below bases o c d x e = (λ h. reaches_below bases c c d (sym e ∙ h), λ h. e ∙ below_reaches o h)
