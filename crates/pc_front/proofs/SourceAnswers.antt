-- Bytes that are no text have a refusal. By contradiction: it is shown that there cannot be none.
use Rattle.std.proofs.Common.{◌≡◌, ℕ, zero, suc, ◌<◌, ◌≤◌, List, length, ◌⊎◌, refl, subst, inl, inr, arith}
use Rattle.std.specs.Prelude.{IsUtf8}
use Rattle.std.proofs.lemmas.Bool.Decides.{leb_tells}
use Rattle.std.specs.Str.Lossy.{utf8_valid_len}
use Rattle.pc_source.specs.Control.{IsControl}
use Rattle.pc_source.specs.Coding.{IsCoding}
use Rattle.pc_source.specs.declared.fault.Refusal.{Refusal}
use Rattle.pc_source.specs.declared.fault.RefusalCode.{RefusalCode}
use Rattle.pc_source.specs.declared.fault.RefusalCode.TheVariants.{S1, S2, S3, S4, S5}
use Rattle.pc_source.specs.Text.{source_limit, IsMarked, IsText, IsReadable, IsSourceFault, IsSourceRefusal}

-- a proposition holds or does not: what follows from both, follows
pub cases : {A : Type 0} → (A → ⊥) → (¬ A → ⊥) → ⊥
cases f g = g f

-- one number is at most another, or over it
pub order : (a b : ℕ) → (a ≤ b) ⊎ (b < a)
order a b = elim (leb_tells a b) [ inl x ↦ inl x.1 | inr x ↦ inr x.1 ]

-- a number below the successor of another is below that or is it
pub below_or_at : (a b : ℕ) → a ≤ b → (a < b) ⊎ (a ≡ b)
below_or_at a b h = elim (order b a) [ inl x ↦ inr (omega (arith, h, x)) | inr x ↦ inl x ]

-- if P holds somewhere, there cannot be no least place
module _ (P : ℕ → Type 0) (none : (j : ℕ) → P j → ((i : ℕ) → i < j → ¬ (P i)) → ⊥) where
  none_below : (n i : ℕ) → i < n → ¬ (P i)
  none_below zero i low h = absurd (omega (arith, low))
  none_below (suc n) i low h = elim (below_or_at i n (omega (arith, low))) [
    | inl less ↦ none_below n i less h
    | inr same ↦ none n (subst P same h) (none_below n)
  ]

  pub nowhere : (k : ℕ) → ¬ (P k)
  nowhere k h = none k h (none_below k)

module _ (bytes : List ℕ) (none : (refusal : Refusal) → ¬ (IsSourceRefusal bytes refusal)) where
  -- no refusal with this code at this byte
  no_fault : (code : RefusalCode) (byte : ℕ) → ¬ (IsSourceFault bytes code byte)
  no_fault code byte h = none (record { code = code; byte = byte }) h

  -- a fault among the characters
  abbrev IsFaulty : ℕ → Type 0
  IsFaulty k = IsControl bytes k ⊎ IsCoding bytes k

  first : IsReadable bytes → (j : ℕ) → IsFaulty j → ((i : ℕ) → i < j → ¬ (IsFaulty i)) → ⊥
  first readable j fault before = cases control no_control
    where
      control : IsControl bytes j → ⊥
      control h = no_fault S4 j (
        readable,
        record {
          here = h;
          no_control = λ k low c. before k low (inl c);
          no_coding = λ k low c. before k low (inr c);
        },
      )

      no_control : ¬ (IsControl bytes j) → ⊥
      no_control h = elim fault [
        | inl here ↦ h here
        | inr coding ↦ no_fault S5 j (
          readable,
          record {
            here = coding;
            no_control = λ k low c. elim (below_or_at k j low) [
              | inl less ↦ before k less (inl c)
              | inr same ↦ h (subst (λ x. IsControl bytes x) same c)
            ];
            no_coding = λ k low c. before k low (inr c);
          },
        )
      ]

  readable_text : IsReadable bytes → IsText bytes
  readable_text readable = record {
    short = readable.short;
    unmarked = readable.unmarked;
    utf8 = readable.utf8;
    no_control = λ k h. nowhere IsFaulty (first readable) k (inl h);
    no_coding = λ k h. nowhere IsFaulty (first readable) k (inr h);
  }

  short_text : ¬ (IsText bytes) → length bytes ≤ source_limit → ⊥
  short_text none_such short = cases marked unmarked
    where
      marked : IsMarked bytes → ⊥
      marked h = no_fault S3 0 (short, h, refl)

      unmarked : ¬ (IsMarked bytes) → ⊥
      unmarked h = cases {A = IsUtf8 bytes}
          (λ utf8. none_such (readable_text (record { short = short; unmarked = h; utf8 = utf8 })))
          (λ bad. no_fault S2 (utf8_valid_len bytes) (short, h, bad, refl))

  -- bytes that are no text cannot be without a refusal
  pub text_or_refusal : ¬ (IsText bytes) → ⊥
  text_or_refusal none_such = elim (order (length bytes) source_limit) [
    | inl short ↦ short_text none_such short
    | inr long ↦ no_fault S1 source_limit (long, refl)
  ]
