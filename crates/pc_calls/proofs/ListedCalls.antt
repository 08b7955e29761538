-- Which parameters of a list need an argument, from the last on.
use Rattle.std.proofs.Common.{◌≡◌, ◌<◌, ◌≤◌, ◌+◌, ◌-◌, ℕ, zero, suc, List, [], ◌∷◌, map, take, drop, length}
use Rattle.std.proofs.Common.{get_or, Bool as Test, true, false, Some, refl, sym, ap, ◌∙◌, arith, add-one}
use Rattle.std.proofs.Common.{subst, ◌⊎◌, inl, inr}
use Rattle.std.specs.Prelude.{◌||◌, ◌&&◌, slice_get, if◌then◌else◌}
use Rattle.std.proofs.lemmas.Bool.{false≢true}
use Rattle.std.proofs.lemmas.List.{drop-map, take-map}
use Rattle.pc_types.specs.Tree.{Tree}
use Rattle.pc_class.specs.declared.table.Parameter.{Parameter as RustParameter}
use Rattle.pc_class.specs.Listed.{names_listed, needed_in, is_defaulted}
use Rattle.pc_class.specs.Parts.{parameter_name}
use Rattle.pc_class.specs.Tables.{parameter_with, parameters_with}
use Rattle.pc_rules.specs.Calls.{are_filled, parameter_names}
use Rattle.pc_calls.specs.JudgedCalls.{filled_listed, fills_at}
use Rattle.pc_calls.proofs.Filling.{filled_more, filled_last, filled_meant}
use Rattle.pc_calls.proofs.FirstNames.{listed_names}

module _ {Ty : Type 0} where
  there_at : (ps : List (RustParameter Ty)) (i : ℕ) (p : RustParameter Ty) → slice_get ps i ≡ Some p → p ≡ get_or ps i p
  there_at [] i p e = absurd (grind (arith, e))
  there_at (q ∷ ps) zero p e = sym (same_some q p e)
    where
      same_some : (a b : RustParameter Ty) → Some a ≡ Some b → a ≡ b
      same_some a b f = cc
  there_at (q ∷ ps) (suc i) p e = there_at ps i p e

  there_is : (ps : List (RustParameter Ty)) (i : ℕ) → i < length ps → (p : RustParameter Ty) × (slice_get ps i ≡ Some p)
  there_is [] i less = absurd (omega (arith, less))
  there_is (q ∷ ps) zero less = (q, refl)
  there_is (q ∷ ps) (suc i) less = there_is ps i (omega (arith, less))

  -- ---- up to where parameters need an argument

  pub needed_within : (ps : List (RustParameter Ty)) (k : ℕ) → needed_in ps k ≤ k
  needed_within ps zero = omega arith
  needed_within ps (suc k) = go (is_defaulted (slice_get ps k)) (needed_within ps k)
    where
      go : (b : Test) → needed_in ps k ≤ k → (if b then needed_in ps k else suc k) ≤ suc k
      go true l = omega (arith, l)
      go false l = omega arith

  pub needed_plain : (ps : List (RustParameter Ty)) (k j : ℕ) → needed_in ps k ≡ suc j
      → is_defaulted (slice_get ps j) ≡ false
  needed_plain ps zero j e = absurd (omega (arith, e))
  needed_plain ps (suc k) j e = go (is_defaulted (slice_get ps k)) refl e (needed_plain ps k j)
    where
      go : (b : Test) → is_defaulted (slice_get ps k) ≡ b → (if b then needed_in ps k else suc k) ≡ suc j
          → (needed_in ps k ≡ suc j → is_defaulted (slice_get ps j) ≡ false) → is_defaulted (slice_get ps j) ≡ false
      go true f g rest = rest g
      go false f g rest = subst (λ i. is_defaulted (slice_get ps i) ≡ false) (let h : k ≡ j = omega (arith, g) in h) f

  module _ (named : List (List ℕ)) (ps : List (RustParameter Ty)) where
    -- each parameter from one on has a default or an argument by name
    abbrev pub filled_past : ℕ → Test
    filled_past k = filled_listed named (names_listed (take k ps)) (drop k ps)

    filled_step : (i : ℕ) → i < length ps
        → filled_past i ≡ ((is_defaulted (slice_get ps i) || fills_at named (slice_get ps i) i (names_listed ps))
        && filled_past (suc i))
    filled_step i less =
        let t = there_is ps i less in
        let n = parameter_name t.0 in
        filled_more named ps i t.0 less (there_at ps i t.0 t.1)
        ∙ ap (λ o. (is_defaulted o || fills_at named o i (names_listed ps)) && filled_past (i + 1)) (sym t.1)
        ∙ ap (λ j. (is_defaulted (slice_get ps i) || fills_at named (slice_get ps i) i (names_listed ps))
        && filled_past j) (add-one i)

    pub filled_end : (k : ℕ) → length ps ≤ k → filled_past k ≡ true
    filled_end k h = filled_last named ps k (names_listed (take k ps)) h

    -- where all from one on are filled, those from one before it that needs no argument are
    pub filled_over : (k : ℕ) → k ≤ length ps → filled_past k ≡ true → filled_past (needed_in ps k) ≡ true
    filled_over zero less e = e
    filled_over (suc k) less e = go (is_defaulted (slice_get ps k)) refl (filled_over k (omega (arith, less)))
      where
        go : (b : Test) → is_defaulted (slice_get ps k) ≡ b → (filled_past k ≡ true
            → filled_past (needed_in ps k) ≡ true) → filled_past (if b then needed_in ps k else suc k) ≡ true
        go true f rest = rest (filled_step k (omega (arith, less)) ∙ rw (f, e) refl)
        go false f rest = e

    -- and those from one that an argument by name is for
    pub filled_by_name : (i end : ℕ) → end ≡ suc i → i < length ps
        → fills_at named (slice_get ps i) i (names_listed ps) ≡ true → filled_past end ≡ true → filled_past i ≡ true
    filled_by_name i end one less f e = filled_step i less
        ∙ go (is_defaulted (slice_get ps i)) (fills_at named (slice_get ps i) i (names_listed ps)) f
        (sym (ap filled_past one) ∙ e)
      where
        go : (a b : Test) → b ≡ true → filled_past (suc i) ≡ true → ((a || b) && filled_past (suc i)) ≡ true
        go true b g h = h
        go false b g h = rw (g, h) refl

    filled_up_by : (d i : ℕ) → i + d ≤ length ps → filled_past i ≡ true → filled_past (i + d) ≡ true
    filled_up_by zero i less e = subst (λ k. filled_past k ≡ true) (let f : i ≡ i + 0 = omega arith in f) e
    filled_up_by (suc d) i less e = subst (λ k. filled_past k ≡ true)
        (let f : suc i + d ≡ i + suc d = omega arith in f)
        (filled_up_by d (suc i) (omega (arith, less)) (go (is_defaulted (slice_get ps i) || fills_at named
        (slice_get ps i) i (names_listed ps)) (sym (filled_step i (omega (arith, less))) ∙ e)))
      where
        go : (a : Test) → (a && filled_past (suc i)) ≡ true → filled_past (suc i) ≡ true
        go true h = h
        go false h = absurd (false≢true h)

    pub filled_up : (i j : ℕ) → i ≤ j → filled_past i ≡ true → filled_past j ≡ true
    filled_up i j less e = go (j - i) (let f : j ≡ i + (j - i) = omega (arith, less) in f)
      where
        past : (k : ℕ) → ((k ≤ length ps) ⊎ (length ps ≤ k))
        past k = grind arith

        go : (d : ℕ) → j ≡ i + d → filled_past j ≡ true
        go d f = one d f (past j)
          where
            one : (d : ℕ) → j ≡ i + d → (j ≤ length ps) ⊎ (length ps ≤ j) → filled_past j ≡ true
            one d f (inl h) = subst (λ k. filled_past k ≡ true) (sym f) (filled_up_by d i (omega (arith, h, f)) e)
            one d f (inr h) = filled_end j h

    -- one without default that no argument is for
    pub filled_not : (i j : ℕ) → i ≤ j → j < length ps → is_defaulted (slice_get ps j) ≡ false
        → fills_at named (slice_get ps j) j (names_listed ps) ≡ false → filled_past i ≡ false
    filled_not i j less within d f = go (filled_past i) refl
      where
        no : filled_past j ≡ false
        no = filled_step j within ∙ rw (d, f) refl

        go : (b : Test) → filled_past i ≡ b → b ≡ false
        go true e = absurd (false≢true (sym no ∙ filled_up i j less e))
        go false e = refl

    -- the answer of the definition for the parameters after the first so many by position
    pub filled_meant_past : (tree : Ty → Tree) (k : ℕ)
        → are_filled named (parameter_names (take k (parameters_with tree ps))) (drop k (parameters_with tree ps))
        ≡ filled_past k
    filled_meant_past tree k =
        ap (λ (ns : List (List ℕ)). are_filled named ns (drop k (map (parameter_with tree) ps)))
        (ap parameter_names (take-map (parameter_with tree) k ps) ∙ listed_names tree (take k ps))
        ∙ ap (are_filled named (names_listed (take k ps))) (drop-map (parameter_with tree) k ps)
        ∙ filled_meant tree named (names_listed (take k ps)) (drop k ps)
