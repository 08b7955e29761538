-- How many expressions of a list are at a place.
use Rattle.std.proofs.Common.{◌≡◌, ◌≤◌, ◌<◌, ◌+◌, ℕ, List, [], ◌∷◌, ◌++◌, length, Bool as Test, true, false, refl}
use Rattle.std.proofs.Common.{sym, ap, ◌∙◌, subst, inr, arith, length-append}
use Rattle.std.proofs.lemmas.List.Elements.{filter-append}
use Rattle.std.specs.Prelude.{filter, if◌then◌else◌}
use Rattle.pc_source.specs.declared.place.Place.{Place}
use Rattle.pc_notes.specs.Notes.{is_same_place}
use Rattle.pc_module_rules.proofs.Places.{same_place}
use Rattle.pc_detail_rules.proofs.Spelled.Between.{Fact, Apart, none_apart, beside, same_apart, fewer}
use Rattle.pc_detail_rules.proofs.Spelled.Between.{not_before, not_behind}

module _ {A : Type 0} (place : A → Place) where
  -- how many of these are at a place
  abbrev pub at : List A → Place → ℕ
  at xs p = length (filter (λ x. is_same_place p (place x)) xs)

  pub at_append : (xs ys : List A) (p : Place) → at (xs ++ ys) p ≡ at xs p + at ys p
  at_append xs ys p = ap length (filter-append (λ x. is_same_place p (place x)) xs ys)
      ∙ length-append (filter (λ x. is_same_place p (place x)) xs) (filter (λ x. is_same_place p (place x)) ys)

  -- two lists, one after the other
  pub at_both : {a b c d : ℕ} (xs ys : List A) → Apart a b (at xs) → Apart c d (at ys) → a ≤ b → b ≤ c → c ≤ d
      → Apart a d (at (xs ++ ys))
  at_both {a} {b} {c} {d} xs ys h k x y z =
      same_apart (λ p. at xs p + at ys p) (at (xs ++ ys)) (λ p. sym (at_append xs ys p))
      (beside (at xs) (at ys) h k x y z)

  -- one thing
  one_fact : (a b : ℕ) (x : A) (p : Place) (t : Test) → is_same_place p (place x) ≡ t → a ≤ (place x).start
      → (place x).start < (place x).end → (place x).end ≤ b → Fact a b p (length (if t then x ∷ [] else []))
  one_fact a b x p true e l s h =
      let same : p ≡ place x = same_place p (place x) e in
      subst (λ (q : Place). Fact a b q 1) (sym same)
      (inr (record { one = refl; low = l; some = s; high = h }))
  one_fact a b x p false e l s h = none_apart a b p

  pub one_apart : (a b : ℕ) (x : A) → a ≤ (place x).start → (place x).start < (place x).end → (place x).end ≤ b
      → Apart a b (at (x ∷ []))
  one_apart a b x l s h p = one_fact a b x p (is_same_place p (place x)) refl l s h

  -- one thing around others, none of which is at its place
  pub around : (x : A) (xs : List A) → (place x).start < (place x).end → Apart (place x).start (place x).end (at xs)
      → at xs (place x) ≡ 0 → Apart (place x).start (place x).end (at (x ∷ xs))
  around x xs s h nothing p = subst (Fact (place x).start (place x).end p) (sym (at_append (x ∷ []) xs p))
      (go (is_same_place p (place x)) refl)
    where
      start : (place x).start ≤ (place x).start
      start = omega arith

      end : (place x).end ≤ (place x).end
      end = omega arith

      go : (t : Test) → is_same_place p (place x) ≡ t
          → Fact (place x).start (place x).end p (length (if t then x ∷ [] else []) + at xs p)
      go true e =
          let same : p ≡ place x = same_place p (place x) e in
          let alone : at xs p ≡ 0 = ap (at xs) same ∙ nothing in
          subst (Fact (place x).start (place x).end p) (let i : 1 ≡ 1 + at xs p = omega (arith, alone) in i)
          (subst (λ (q : Place). Fact (place x).start (place x).end q 1) (sym same)
          (inr (record { one = refl; low = start; some = s; high = end })))
      go false e = subst (Fact (place x).start (place x).end p) (let i : at xs p ≡ 0 + at xs p = omega arith in i) (h p)

  -- one thing around two groups, the first of which ends before it, and the second begins behind its start
  pub around_two : {m k : ℕ} (x : A) (xs ys : List A) → Apart (place x).start m (at xs) → m < (place x).end
      → Apart k (place x).end (at ys) → (place x).start < k → m ≤ k → (place x).start ≤ m → k ≤ (place x).end
      → Apart (place x).start (place x).end (at (x ∷ (xs ++ ys)))
  around_two {m} {k} x xs ys h ends g begins mk sm ke =
      let some : (place x).start < (place x).end = omega (arith, begins, ke) in
      let e = at_append xs ys (place x) in
      let y = not_behind (place x).start m (place x) (at xs (place x)) (h (place x)) ends in
      let z = not_before k (place x).end (place x) (at ys (place x)) (g (place x)) begins in
      around x (xs ++ ys) some (at_both xs ys h g sm mk ke) (omega (arith, e, y, z))

  -- of one thing and others, the others
  pub others : {a b : ℕ} (x : A) (xs : List A) → Apart a b (at (x ∷ xs)) → Apart a b (at xs)
  others x xs h = fewer (at (x ∷ xs)) (at xs) (λ p. let e = at_append (x ∷ []) xs p in omega (arith, e)) h
