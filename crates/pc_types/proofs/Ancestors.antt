-- The ancestors of a class: as many steps up as its number are enough to find each.
use Rattle.std.proofs.Common.{◌≡◌, ◌≢◌, ◌<◌, ◌≤◌, ◌||◌, ◌&&◌, ◌==◌, not, ℕ, zero, suc, Bool as Test, true, false}
use Rattle.std.proofs.Common.{Option, Some, None, refl, sym, ap, ◌∙◌, arith, ⊎_elim}
use Rattle.std.proofs.lemmas.Bool.{false≢true, eqb-true, or_cases, cases_eq}
use Rattle.std.proofs.lemmas.Bool.Decides.{nat_tests}
use Rattle.std.specs.Option.{option_map_or}
use Rattle.pc_types.specs.Below.{Bases, base_of, AreSmaller}
use Rattle.pc_types.specs.Join.{reaches}

or_false : (x : Test) → x ≡ (x || false)
or_false true = refl
or_false false = refl

module _ (bases : Bases) (ordered : AreSmaller bases) (d : ℕ) where
  -- the steps that are left don't matter where they are enough
  pub enough : (n m c : ℕ) → c ≤ n → c ≤ m → reaches bases n c d ≡ reaches bases m c d
  enough zero zero c h k = refl
  enough zero (suc m) c h k = or_false (c == d) ∙ ap (λ x. (c == d) || x) (sym (rootless (base_of bases c) refl))
    where
      rootless : (o : Option ℕ) → base_of bases c ≡ o → option_map_or (λ b. reaches bases m b d) o false ≡ false
      rootless None e = refl
      rootless (Some b) e = let l = ordered c b e in absurd (omega arith)
  enough (suc n) zero c h k = ap (λ x. (c == d) || x) (rootless (base_of bases c) refl) ∙ sym (or_false (c == d))
    where
      rootless : (o : Option ℕ) → base_of bases c ≡ o → option_map_or (λ b. reaches bases n b d) o false ≡ false
      rootless None e = refl
      rootless (Some b) e = let l = ordered c b e in absurd (omega arith)
  enough (suc n) (suc m) c h k = ap (λ x. (c == d) || x) (go (λ b l. enough n m b (omega arith) (omega arith))
      (base_of bases c) refl)
    where
      go : ((b : ℕ) → b < c → reaches bases n b d ≡ reaches bases m b d) → (o : Option ℕ) → base_of bases c ≡ o
          → option_map_or (λ b. reaches bases n b d) o false ≡ option_map_or (λ b. reaches bases m b d) o false
      go f None e = refl
      go f (Some b) e = f b (ordered c b e)

  pub other_class : (c : ℕ) (x : Test) → c ≢ d → ((c == d) || x) ≡ x
  other_class c x n = let f : (c == d) ≡ false = grind (arith, nat_tests) in ap (λ y. y || x) f

  -- one step up
  pub reaches_base : (c b : ℕ) → base_of bases c ≡ Some b → c ≢ d → reaches bases c c d ≡ reaches bases b b d
  reaches_base zero b e n = let l = ordered zero b e in absurd (omega arith)
  reaches_base (suc c) b e n =
      other_class (suc c) _ n ∙ ap (λ o. option_map_or (λ b. reaches bases c b d) o false) e
      ∙ (let l = ordered (suc c) b e in enough c b b (omega arith) (omega arith))

  -- an ancestor has no greater number
  pub reaches_down : (n c : ℕ) → reaches bases n c d ≡ true → d ≤ c
  reaches_down zero c e = let q = eqb-true c d e in omega (arith, q)
  reaches_down (suc n) c e = ⊎_elim (λ q. let r = eqb-true c d q in omega (arith, r))
      (go (λ b r. reaches_down n b r) (base_of bases c) refl) (or_cases (c == d) _ e)
    where
      go : ((b : ℕ) → reaches bases n b d ≡ true → d ≤ b) → (p : Option ℕ) → base_of bases c ≡ p
          → option_map_or (λ b. reaches bases n b d) p false ≡ true → d ≤ c
      go f None q r = absurd (false≢true r)
      go f (Some b) q r = let l = ordered c b q in let k = f b r in omega (arith, l, k)

-- a search may leap to an ancestor that isn't above the one that is looked for
pub reaches_leap : (bases : Bases) → AreSmaller bases → (d j n c : ℕ) → c ≤ n → d ≤ j → reaches bases n c j ≡ true
    → reaches bases n c d ≡ reaches bases j j d
reaches_leap bases o d j zero c h k e =
    enough bases o d zero c c h (omega arith) ∙ ap (λ x. reaches bases x x d) (eqb-true c j e)
reaches_leap bases o d j (suc n) c h k e = ⊎_elim
    (λ q. enough bases o d (suc n) c c h (omega arith) ∙ ap (λ x. reaches bases x x d) q)
    (λ x. let z = reaches_down bases o j (suc n) c e in
    other_class bases o d c _ (λ y. x (omega (arith, y, z, k)))
    ∙ go (λ b l r. reaches_leap bases o d j n b (omega (arith, l, h)) k r) (base_of bases c) refl
    (sym (other_class bases o j c _ x) ∙ e))
    (cases_eq c j)
  where
    go : ((b : ℕ) → b < c → reaches bases n b j ≡ true → reaches bases n b d ≡ reaches bases j j d)
        → (p : Option ℕ) → base_of bases c ≡ p → option_map_or (λ b. reaches bases n b j) p false ≡ true
        → option_map_or (λ b. reaches bases n b d) p false ≡ reaches bases j j d
    go f None q r = absurd (false≢true r)
    go f (Some b) q r = f b (o c b q) r

-- a class without base reaches itself alone
pub reaches_root : (bases : Bases) (c d : ℕ) → base_of bases c ≡ None → c ≢ d → reaches bases c c d ≡ false
reaches_root bases zero d e n = grind (arith, nat_tests)
reaches_root bases (suc c) d e n =
    let f : (suc c == d) ≡ false = grind (arith, nat_tests) in
    ap (λ x. x || option_map_or (λ b. reaches bases c b d) (base_of bases (suc c)) false) f
    ∙ ap (λ o. option_map_or (λ b. reaches bases c b d) o false) e

pub reaches_itself : (bases : Bases) (c d : ℕ) → c ≡ d → reaches bases c c d ≡ true
reaches_itself bases zero d e = grind (arith, nat_tests)
reaches_itself bases (suc c) d e = let f : (suc c == d) ≡ true = grind (arith, nat_tests) in
    ap (λ x. x || option_map_or (λ b. reaches bases c b d) (base_of bases (suc c)) false) f

-- a class absorbs another one where that one reaches it
pub absorbs_other : (c d : ℕ) (x : Test) → c ≢ d → x ≡ (not (c == d) && x)
absorbs_other c d x n = let f : (c == d) ≡ false = grind (arith, nat_tests) in sym (ap (λ y. not y && x) f)
