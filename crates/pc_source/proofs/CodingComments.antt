-- The coding comment of a line begins at its first `#`.
use Rattle.std.proofs.Common.{◌≡◌, ◌≢◌, ℕ, ◌<◌, ◌≤◌, List, length, get_or, drop, not, true, false, ◌==◌, refl, sym, ap}
use Rattle.std.proofs.Common.{◌∙◌, subst, inl, inr, arith}
use Rattle.std.specs.Prelude.{IsTrue}
use Rattle.std.specs.List.{prefix_len, position_or_len}
use Rattle.std.proofs.lemmas.Bool.{cases_lt}
use Rattle.std.proofs.lemmas.Bool.Decides.{nat_tests}
use Rattle.std.proofs.lemmas.List.Sums.{prefix_len_passes, prefix_len_stops}
use Rattle.pc_source.specs.Coding.{IsCodingComment, names_other_coding}

-- another coding is named after the byte
abbrev pub NamesOther : List ℕ → ℕ → Type 0
NamesOther line byte = (k : ℕ) × (k < length line) × (byte < k) × IsTrue (names_other_coding (drop k line))

hash_is : (n : ℕ) → not (n == 35) ≡ false → n ≡ 35
hash_is n e = grind (arith, nat_tests)

hash_is_not : (n : ℕ) → not (n == 35) ≡ true → n ≢ 35
hash_is_not n e = grind (arith, nat_tests)

module _ (line : List ℕ) (hash : ℕ) (place : hash ≡ position_or_len (λ b. b == 35) line) where
  before : (k : ℕ) → k < hash → get_or line k 0 ≢ 35
  before k h = hash_is_not _ (prefix_len_passes (λ b. not (b == 35)) line k 0 (omega arith))

  here : hash < length line → get_or line hash 0 ≡ 35
  here h = hash_is _ (ap (λ n. not (get_or line n 0 == 35)) place ∙ prefix_len_stops (λ b. not (b == 35)) line 0
      (omega arith))

  pub comment_is : hash < length line → NamesOther line hash → IsCodingComment line hash
  comment_is h other = record { within = h; hash = here h; first = before; other = other }

  pub no_comment : (hash < length line → NamesOther line hash → ⊥) → (k : ℕ) → IsCodingComment line k → ⊥
  no_comment none k w =
      elim (cases_lt k hash) [
        | inl low ↦ before k low w.hash
        | inr high ↦ elim (cases_lt hash k) [
          | inl past ↦ let inside = w.within in w.first hash past (here (omega arith))
          | inr same ↦ let e : k ≡ hash = omega arith in
              let inside = w.within in
              none (omega arith) (subst (λ n. NamesOther line n) e w.other)
        ]
      ]
