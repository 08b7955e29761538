-- A class reaches another one by its bases if and only if it is a subtype of it.
use Rattle.std.proofs.Common.{◌≡◌, ◌⊎◌, ◌==◌, ℕ, zero, suc, true, false, Option, Some, None, refl, ◌∙◌, subst, inl, inr}
use Rattle.std.proofs.Common.{⊎_elim}
use Rattle.std.proofs.lemmas.Bool.{false≢true, eqb-true, or_cases, cases_eq}
use Rattle.std.specs.Option.{option_map_or}
use Rattle.pc_types.specs.Tree.{Class}
use Rattle.pc_types.specs.Below.{Bases, base_of, Below, AreSmaller, same, through, base}
use Rattle.pc_types.specs.Join.{reaches}
use Rattle.pc_types.proofs.Ancestors.{reaches_base, reaches_itself}
use Rattle.pc_types.proofs.Structural.{Chain, here, up, Sub, s_class, sub_of}

-- the ancestors that are reached are those above
pub reaches_below : (bases : Bases) (n c d : ℕ) → reaches bases n c d ≡ true → Below bases (Class c) (Class d)
reaches_below bases zero c d e = subst (λ x. Below bases (Class c) (Class x)) (eqb-true c d e) same
reaches_below bases (suc n) c d e = ⊎_elim (λ h. subst (λ x. Below bases (Class c) (Class x)) (eqb-true c d h) same)
    (go (λ b. reaches_below bases n b d) (base_of bases c) refl) (or_cases (c == d) _ e)
  where
    go : ((b : ℕ) → reaches bases n b d ≡ true → Below bases (Class b) (Class d)) → (o : Option ℕ) → base_of bases c ≡ o
        → option_map_or (λ b. reaches bases n b d) o false ≡ true → Below bases (Class c) (Class d)
    go f None q h = absurd (false≢true h)
    go f (Some b) q h = through (base q) (f b h)

-- a class below another one has a chain of bases up to it
pub chain_of : {bases : Bases} {c d : ℕ} → Below bases (Class c) (Class d) → Chain bases c d
chain_of h = go (sub_of h)
  where
    go : {bases : Bases} {c d : ℕ} → Sub bases (Class c) (Class d) → Chain bases c d
    go (s_class k) = k

-- a class at the end of a chain is reached from the class at its start
pub chain_reaches : {bases : Bases} {c d : ℕ} → AreSmaller bases → Chain bases c d → reaches bases c c d ≡ true
chain_reaches {bases} {c} o here = reaches_itself bases c c refl
chain_reaches {bases} {c} {d} o (up {b = b} e k) = ⊎_elim (λ q. reaches_itself bases c d q)
    (λ n. reaches_base bases o d c b e n ∙ chain_reaches o k) (cases_eq c d)

-- the ancestors above are reached
pub below_reaches : {bases : Bases} {c d : ℕ} → AreSmaller bases → Below bases (Class c) (Class d)
    → reaches bases c c d ≡ true
below_reaches o h = chain_reaches o (chain_of h)

-- of two ancestors of a class one is an ancestor of the other: the ancestors of a class stand in one line
pub comparable : {bases : Bases} {c d e : ℕ} → Chain bases c d → Chain bases c e → Chain bases d e ⊎ Chain bases e d
comparable here k = inl k
comparable (up e k) here = inr (up e k)
comparable {bases} {c} {d} {e} (up {b = b} p k) (up {b = a} q l) = let f : a ≡ b = cc in
    comparable k (subst (λ x. Chain bases x e) f l)
