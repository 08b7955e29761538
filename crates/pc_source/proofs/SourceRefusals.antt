-- Bytes have one refusal at most, none where they are a text, and it stands within them.
use Rattle.std.proofs.Common.{◌≡◌, ℕ, ◌+◌, ◌-◌, ◌<◌, ◌≤◌, List, length, take, drop, ◌==◌, refl, sym, ap, ◌∙◌, inl, inr}
use Rattle.std.proofs.Common.{arith, length-append}
use Rattle.std.specs.Prelude.{◌⊎◌, IsUtf8}
use Rattle.std.specs.List.{position_or_len}
use Rattle.std.specs.Str.Lossy.{utf8_valid_len}
use Rattle.std.proofs.lemmas.Bool.{cases_lt}
use Rattle.std.proofs.lemmas.List.{take-append-drop, length-take-le, length-drop}
use Rattle.std.proofs.lemmas.Str.{utf8_valid_len_le}
use Rattle.pc_source.specs.declared.fault.Refusal.{Refusal}
use Rattle.pc_source.specs.declared.fault.RefusalCode.{RefusalCode}
use Rattle.pc_source.specs.declared.fault.RefusalCode.TheVariants.{S1, S2, S3, S4, S5}
use Rattle.pc_source.specs.Coding.{IsCoding, first_line, later_lines}
use Rattle.pc_source.specs.Text.{source_limit, IsMarked, IsText, IsReadable, IsFirstControl, IsFirstCoding}
use Rattle.pc_source.specs.Text.{IsSourceFault, IsSourceRefusal}

-- ---- a refusal stands within the bytes

first_line_le : (text : List ℕ) → length (first_line text) ≤ length text
first_line_le text =
    let n = position_or_len (λ b. b == 10) text in
    let whole = ap length (take-append-drop n text) in
    omega (arith, whole, length-append (take n text) (drop n text))

coding_within : (text : List ℕ) (byte : ℕ) → IsCoding text byte → byte < length text
coding_within text byte (inl w) = omega (arith, w.within, first_line_le text)
coding_within text byte (inr (k, at, w)) =
    let n = position_or_len (λ b. b == 10) text in
    let inside : k < length text - (n + 1) = omega (
      arith,
      w.within,
      first_line_le (later_lines text),
      length-drop (n + 1) text,
    ) in
    omega (arith, at, inside, length-take-le n text (omega (arith, inside)))

fault_within : (bytes : List ℕ) (code : RefusalCode) (byte : ℕ) → IsSourceFault bytes code byte → byte ≤ length bytes
fault_within bytes S1 byte h = omega (arith, h.0, h.1)
fault_within bytes S2 byte h = omega (arith, h.3, utf8_valid_len_le bytes)
fault_within bytes S3 byte h = omega (arith, h.2)
fault_within bytes S4 byte h = omega (arith, h.1.here.within)
fault_within bytes S5 byte h = omega (arith, coding_within bytes byte h.1.here)
fault_within bytes _ byte h = absurd h.1

pub within : (bytes : List ℕ) (refusal : Refusal) → IsSourceRefusal bytes refusal → refusal.byte ≤ length bytes
within bytes refusal h = fault_within bytes refusal.code refusal.byte h

-- ---- a text has none

no_fault : (bytes : List ℕ) (code : RefusalCode) (byte : ℕ) → IsSourceFault bytes code byte → ¬ (IsText bytes)
no_fault bytes S1 byte h text = let long = h.0 in let short = text.short in absurd (omega arith)
no_fault bytes S2 byte h text = h.2 text.utf8
no_fault bytes S3 byte h text = text.unmarked h.1
no_fault bytes S4 byte h text = text.no_control byte h.1.here
no_fault bytes S5 byte h text = text.no_coding byte h.1.here
no_fault bytes _ byte h text = h.1

pub no_refusal : (bytes : List ℕ) (refusal : Refusal) → IsText bytes → ¬ (IsSourceRefusal bytes refusal)
no_refusal bytes refusal text h = no_fault bytes refusal.code refusal.byte h text

-- ---- bytes have one

-- the five reasons, of which at most one is there
data Reason (bytes : List ℕ) (code : RefusalCode) (byte : ℕ) : Type 0 where
  too_long : code ≡ S1 → source_limit < length bytes → byte ≡ source_limit → Reason bytes code byte
  marked : code ≡ S3 → length bytes ≤ source_limit → IsMarked bytes → byte ≡ 0 → Reason bytes code byte
  no_utf8 : code ≡ S2 → length bytes ≤ source_limit → ¬ (IsMarked bytes) → ¬ (IsUtf8 bytes)
      → byte ≡ utf8_valid_len bytes → Reason bytes code byte
  control : code ≡ S4 → IsReadable bytes → IsFirstControl bytes byte → Reason bytes code byte
  coding : code ≡ S5 → IsReadable bytes → IsFirstCoding bytes byte → Reason bytes code byte

reason : (bytes : List ℕ) (code : RefusalCode) (byte : ℕ) → IsSourceFault bytes code byte → Reason bytes code byte
reason bytes S1 byte h = too_long refl h.0 h.1
reason bytes S2 byte h = no_utf8 refl h.0 h.1 h.2 h.3
reason bytes S3 byte h = marked refl h.0 h.1 h.2
reason bytes S4 byte h = control refl h.0 h.1
reason bytes S5 byte h = coding refl h.0 h.1
reason bytes _ byte h = absurd h.1

abbrev Same : RefusalCode → ℕ → RefusalCode → ℕ → Type 0
Same code byte other at = (code ≡ other) × (byte ≡ at)

module _ (bytes : List ℕ) (code : RefusalCode) (byte : ℕ) (other : RefusalCode) (at : ℕ) where
  same_control : IsFirstControl bytes byte → IsFirstControl bytes at → byte ≡ at
  same_control h g = elim (cases_lt byte at) [
    | inl less ↦ absurd (g.no_control byte less h.here)
    | inr more ↦ elim (cases_lt at byte) [ inl less ↦ absurd (h.no_control at less g.here) | inr less ↦ omega arith ]
  ]

  same_coding : IsFirstCoding bytes byte → IsFirstCoding bytes at → byte ≡ at
  same_coding h g = elim (cases_lt byte at) [
    | inl less ↦ absurd (g.no_coding byte less h.here)
    | inr more ↦ elim (cases_lt at byte) [ inl less ↦ absurd (h.no_coding at less g.here) | inr less ↦ omega arith ]
  ]

  -- a control character and a coding comment are not both the first
  not_both : (first second : ℕ) → IsFirstControl bytes first → IsFirstCoding bytes second → ⊥
  not_both first second h g = elim (cases_lt second first) [
    | inl less ↦ h.no_coding second less g.here
    | inr more ↦ g.no_control first more h.here
  ]

  one_reason : Reason bytes code byte → Reason bytes other at → Same code byte other at
  one_reason (too_long c long b) (too_long d long' b') = (c ∙ sym d, b ∙ sym b')
  one_reason (too_long c long b) (marked d short _ _) = absurd (omega arith)
  one_reason (too_long c long b) (no_utf8 d short _ _ _) = absurd (omega arith)
  one_reason (too_long c long b) (control d r _) = let short = r.short in absurd (omega arith)
  one_reason (too_long c long b) (coding d r _) = let short = r.short in absurd (omega arith)
  one_reason (marked c short m b) (too_long d long b') = absurd (omega arith)
  one_reason (marked c short m b) (marked d short' m' b') = (c ∙ sym d, b ∙ sym b')
  one_reason (marked c short m b) (no_utf8 d short' clear _ _) = absurd (clear m)
  one_reason (marked c short m b) (control d r _) = absurd (r.unmarked m)
  one_reason (marked c short m b) (coding d r _) = absurd (r.unmarked m)
  one_reason (no_utf8 c short clear u b) (too_long d long b') = absurd (omega arith)
  one_reason (no_utf8 c short clear u b) (marked d short' m b') = absurd (clear m)
  one_reason (no_utf8 c short clear u b) (no_utf8 d short' clear' u' b') = (c ∙ sym d, b ∙ sym b')
  one_reason (no_utf8 c short clear u b) (control d r _) = absurd (u r.utf8)
  one_reason (no_utf8 c short clear u b) (coding d r _) = absurd (u r.utf8)
  one_reason (control c r h) (too_long d long b') = let short = r.short in absurd (omega arith)
  one_reason (control c r h) (marked d short m b') = absurd (r.unmarked m)
  one_reason (control c r h) (no_utf8 d short clear u b') = absurd (u r.utf8)
  one_reason (control c r h) (control d r' g) = (c ∙ sym d, same_control h g)
  one_reason (control c r h) (coding d r' g) = absurd (not_both byte at h g)
  one_reason (coding c r h) (too_long d long b') = let short = r.short in absurd (omega arith)
  one_reason (coding c r h) (marked d short m b') = absurd (r.unmarked m)
  one_reason (coding c r h) (no_utf8 d short clear u b') = absurd (u r.utf8)
  one_reason (coding c r h) (control d r' g) = absurd (not_both at byte g h)
  one_reason (coding c r h) (coding d r' g) = (c ∙ sym d, same_coding h g)

-- refusals of one code and one byte are the same
pub same_refusal : (refusal other : Refusal) → refusal.code ≡ other.code → refusal.byte ≡ other.byte → refusal ≡ other
same_refusal refusal other e f =
    ap (λ c. let r : Refusal = record { code = c; byte = refusal.byte } in r) e
    ∙ ap (λ b. let r : Refusal = record { code = other.code; byte = b } in r) f

pub one_refusal : (bytes : List ℕ) (refusal other : Refusal) → IsSourceRefusal bytes refusal
    → IsSourceRefusal bytes other → refusal ≡ other
one_refusal bytes refusal other h g =
    let same = one_reason bytes refusal.code refusal.byte other.code other.byte
    (reason bytes refusal.code refusal.byte h) (reason bytes other.code other.byte g) in
    same_refusal refusal other same.0 same.1
