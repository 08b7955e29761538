-- The classes above a class are its base, and those above that one.
use Rattle.std.proofs.Common.{◌≡◌, ◌∙◌, ◌==◌, ◌<◌, ◌≤◌, ◌+◌, ◌||◌, ◌&&◌, ◌++◌, ◌∷◌, [], ℕ, suc, List, Bool, true, false}
use Rattle.std.proofs.Common.{not}
use Rattle.std.proofs.Common.{Some, None, arith, ap, cond, eq-eqb, length, refl, sym}
use Rattle.std.proofs.lemmas.Bool.{eqb-true, false≢true}
use Rattle.std.proofs.lemmas.Grind.{flat_map-append}
use Rattle.std.proofs.lemmas.List.{append-nil}
use Rattle.std.proofs.lemmas.List.Elements.{filter_agree}
use Rattle.std.proofs.lemmas.Option.{slice_get_within}
use Rattle.std.specs.Prelude.{filter, flat_map, slice_get}
use Rattle.pc_tree.specs.Tree.{Module}
use Rattle.pc_scope.specs.Bindings.{classes_in}
use Rattle.pc_types.specs.Below.{AreSmaller, Bases, base_of}
use Rattle.pc_types.specs.Join.{absorbs, reaches}
use Rattle.pc_types.specs.Tree.{Class}
use Rattle.pc_types.proofs.Ancestors.{reaches_base, reaches_down, reaches_itself, reaches_root}
use Rattle.pc_annotations.specs.Bases.{bases_of}
use Rattle.pc_annotations.proofs.Earlier.{smaller}
use Rattle.pc_class.proofs.ClassesBuilt.{has_base}
use Rattle.pc_detail_rules.specs.Names.{OwnedMember, above, members_above, members_of_number}
use Rattle.pc_detail_rules.specs.Operations.{numbers_from}

-- ---- numbers that pass a test

-- no number from one on passes
none_from : {A : Type 0} (test : ℕ → Bool) (n : ℕ) (xs : List A) → ((a : ℕ) → n ≤ a → test a ≡ false)
    → filter test (numbers_from n xs) ≡ []
none_from test n [] h = refl
none_from test n (x ∷ xs) h = ap (λ (b : Bool). cond b (n ∷ filter test (numbers_from (suc n) xs))
    (filter test (numbers_from (suc n) xs))) (h n (omega arith))
    ∙ none_from test (suc n) xs (λ a less. h a (omega (arith, less)))

apart : (a b : ℕ) → (a == b) ≡ false → a ≡ b → ⊥
apart a b e q = false≢true (sym e ∙ eq-eqb a b q)

-- a number that is greater than all that pass
one_more : {A : Type 0} (test : ℕ → Bool) (b n : ℕ) (xs : List A) → ((a : ℕ) → test a ≡ true → a < b) → n ≤ b
    → b < n + length xs
    → filter (λ a. (b == a) || test a) (numbers_from n xs) ≡ filter test (numbers_from n xs) ++ b ∷ []
one_more test b n [] below low high = absurd (omega arith)
one_more {A} test b n (x ∷ xs) below low high =
    by (λ less. one_more test b (suc n) xs below (omega (arith, less)) (omega (arith, high))) (b == n) refl (test n) refl
  where
    past : b ≡ n → filter (λ a. (b == a) || test a) (numbers_from (suc n) xs) ≡ []
    past q = none_from (λ a. (b == a) || test a) (suc n) xs (λ a less. other a less (b == a) refl (test a) refl)
      where
        other : (a : ℕ) → suc n ≤ a → (s : Bool) → (b == a) ≡ s → (t : Bool) → test a ≡ t
            → ((b == a) || test a) ≡ false
        other a less true e t g = let r = eqb-true b a e in absurd (omega (arith, q, r, less))
        other a less false e true g = let r = below a g in absurd (omega (arith, q, r, less))
        other a less false e false g = ap (λ s. s || test a) e ∙ g

    last : b ≡ n → filter test (numbers_from (suc n) xs) ≡ []
    last q = none_from test (suc n) xs (λ a less. other a less (test a) refl)
      where
        other : (a : ℕ) → suc n ≤ a → (t : Bool) → test a ≡ t → test a ≡ false
        other a less true g = let r = below a g in absurd (omega (arith, q, r, less))
        other a less false g = g

    by : (n < b → filter (λ a. (b == a) || test a) (numbers_from (suc n) xs)
        ≡ filter test (numbers_from (suc n) xs) ++ b ∷ []) → (s : Bool) → (b == n) ≡ s → (t : Bool) → test n ≡ t
        → cond ((b == n) || test n) (n ∷ filter (λ a. (b == a) || test a) (numbers_from (suc n) xs))
        (filter (λ a. (b == a) || test a) (numbers_from (suc n) xs))
        ≡ cond (test n) (n ∷ filter test (numbers_from (suc n) xs)) (filter test (numbers_from (suc n) xs)) ++ b ∷ []
    by next true e true g = let r = below n g in let q = eqb-true b n e in absurd (omega (arith, r, q))
    by next true e false g =
        let q : b ≡ n = eqb-true b n e in
        rw (e, g) (rw (past q, last q) (ap (λ k. k ∷ []) (sym q)))
    by next false e true g =
        let r : n < b = below n g in
        rw (e, g) (ap (λ (l : List ℕ). n ∷ l) (next r))
    by next false e false g =
        let r = apart b n e in
        rw (e, g) (next (omega (arith, r, low)))

-- ---- what a class absorbs

module _ (bases : Bases) where
  -- a class without a base has none above it
  root_alone : (c a : ℕ) → base_of bases c ≡ None → absorbs bases (Class a) (Class c) ≡ false
  root_alone c a e = by (c == a) refl
    where
      by : (t : Bool) → (c == a) ≡ t → (not (c == a) && reaches bases c c a) ≡ false
      by true q = ap (λ (x : Bool). not x && reaches bases c c a) q
      by false q = ap (λ (x : Bool). not x && reaches bases c c a) q ∙ reaches_root bases c a e (apart c a q)

  module _ (ordered : AreSmaller bases) where
    -- a class above another one has a smaller number
    above_less : (c a : ℕ) → absorbs bases (Class a) (Class c) ≡ true → a < c
    above_less c a h = by (c == a) refl
      where
        by : (t : Bool) → (c == a) ≡ t → a < c
        by true q = absurd (false≢true (sym (ap (λ (x : Bool). not x && reaches bases c c a) q) ∙ h))
        by false q =
            let other = apart c a q in
            let down = reaches_down bases ordered a c c (sym (ap (λ (x : Bool). not x && reaches bases c c a) q) ∙ h) in
            omega (arith, other, down)

    -- a class is above another one if it is its base, or above that
    one_up : (c b a : ℕ) → base_of bases c ≡ Some b
        → absorbs bases (Class a) (Class c) ≡ ((b == a) || absorbs bases (Class a) (Class b))
    one_up c b a e = by (c == a) refl (b == a) refl
      where
        less : b < c
        less = ordered c b e

        by : (s : Bool) → (c == a) ≡ s → (t : Bool) → (b == a) ≡ t
            → (not (c == a) && reaches bases c c a) ≡ ((b == a) || (not (b == a) && reaches bases b b a))
        by true q true r = let x = eqb-true c a q in let y = eqb-true b a r in let z = less in absurd (omega (arith, x, y, z))
        by true q false r = rw (q, r) (never (reaches bases b b a) refl)
          where
            never : (u : Bool) → reaches bases b b a ≡ u → false ≡ u
            never false g = refl
            never true g =
                let x = eqb-true c a q in
                let y = reaches_down bases ordered a b b g in
                let z = less in
                absurd (omega (arith, x, y, z))
        by false q true r = rw (q, r) (reaches_base bases ordered a c b e (apart c a q)
            ∙ reaches_itself bases b a (eqb-true b a r))
        by false q false r = rw (q, r) (reaches_base bases ordered a c b e (apart c a q))

-- ---- the classes of a module

above_root : (m : Module) (c : ℕ) → base_of (bases_of m) c ≡ None → above m c ≡ []
above_root m c e = none_from (λ a. absorbs (bases_of m) (Class a) (Class c)) 0 (classes_in m.items)
    (λ a less. root_alone (bases_of m) c a e)

above_base : (m : Module) (c b : ℕ) → base_of (bases_of m) c ≡ Some b → above m c ≡ above m b ++ b ∷ []
above_base m c b e =
    let less : b < c = smaller m c b e in
    let based = has_base m c b e in
    let within = slice_get_within (classes_in m.items) c based.class based.is in
    filter_agree (λ a. absorbs (bases_of m) (Class a) (Class c))
    (λ a. (b == a) || absorbs (bases_of m) (Class a) (Class b)) (λ a. one_up (bases_of m) (smaller m) c b a e)
    (numbers_from 0 (classes_in m.items))
    ∙ one_more (λ a. absorbs (bases_of m) (Class a) (Class b)) b 0 (classes_in m.items)
    (above_less (bases_of m) (smaller m) b) (omega arith) (omega (arith, less, within))

-- no members are above a class without a base
pub members_above_root : (m : Module) (c : ℕ) → base_of (bases_of m) c ≡ None → members_above m c ≡ []
members_above_root m c e =
    ap (flat_map (λ a. members_of_number m a (slice_get (classes_in m.items) a))) (above_root m c e)

-- the members above a class are those above its base, and then those of its base
pub members_above_base : (m : Module) (c b : ℕ) → base_of (bases_of m) c ≡ Some b
    → members_above m c ≡ members_above m b ++ members_of_number m b (slice_get (classes_in m.items) b)
members_above_base m c b e =
    let members = λ (a : ℕ). members_of_number m a (slice_get (classes_in m.items) a) in
    ap (flat_map members) (above_base m c b e)
    ∙ flat_map-append members (above m b) (b ∷ [])
    ∙ ap (λ (l : List OwnedMember). members_above m b ++ l) (append-nil (members b))
