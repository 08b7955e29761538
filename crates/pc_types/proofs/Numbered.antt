-- Lists of bases are the same where the numbers that tell them are.
use Rattle.std.proofs.Common.{◌≡◌, ◌↔◌, ◌<◌, ℕ, List, length, Option, Some, None, slice_get, get_or, unwrap_or, refl, sym, ap}
use Rattle.std.proofs.Common.{◌∙◌, arith}
use Rattle.std.proofs.lemmas.List.{ext_get_or}
use Rattle.std.proofs.lemmas.Option.{slice_get-get_or}
use Rattle.pc_types.specs.Below.{Bases, base_of, AreSmaller}
use Rattle.pc_types.specs.Internal.Numbered.{base_number, AreNumbers}

-- two bases below a class, or none, are the same where their numbers are
same_base : (c : ℕ) (o p : Option ℕ) → ((b : ℕ) → o ≡ Some b → b < c) → ((b : ℕ) → p ≡ Some b → b < c)
    → unwrap_or o c ≡ unwrap_or p c → o ≡ p
same_base c None None l k e = refl
same_base c None (Some b) l k e = let q = k b refl in absurd (omega (arith, q, e))
same_base c (Some a) None l k e = let q = l a refl in absurd (omega (arith, q, e))
same_base c (Some a) (Some b) l k e = ap Some e

-- the number of a class
number_at : (bases : Bases) (numbers : List ℕ) → AreNumbers bases numbers → (c : ℕ) → c < length numbers
    → get_or numbers c 0 ≡ base_number bases c
number_at bases numbers h c l = h c (get_or numbers c 0) (slice_get-get_or numbers c 0 l)

module _ (a b : Bases) (m n : List ℕ) (k : AreNumbers a m) (l : AreNumbers b n)
    (p : length m ≡ length a) (q : length n ≡ length b) where
  -- the same numbers tell the same bases
  bases_same : AreSmaller a → AreSmaller b → m ≡ n → a ≡ b
  bases_same s t e = ext_get_or None a b (omega (arith, p, q, ap length e)) (λ c r.
      same_base c (base_of a c) (base_of b c) (s c) (t c)
      (sym (number_at a m k c (omega (arith, r, p))) ∙ (ap (λ (x : List ℕ). get_or x c 0) e
      ∙ number_at b n l c (omega (arith, r, p, ap length e)))))

  -- the same bases have the same numbers
  numbers_same : a ≡ b → m ≡ n
  numbers_same e = ext_get_or 0 m n (omega (arith, p, q, ap length e)) (λ c r.
      number_at a m k c r ∙ (ap (λ (x : Bases). base_number x c) e
      ∙ sym (number_at b n l c (omega (arith, r, p, q, ap length e)))))

  -- the bases are the same exactly where their numbers are
  pub told_by_numbers : AreSmaller a → AreSmaller b → (m ≡ n) ↔ (a ≡ b)
  told_by_numbers s t = (bases_same s t, numbers_same)
