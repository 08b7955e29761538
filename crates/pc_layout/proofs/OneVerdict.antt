-- One refusal at most.
use Rattle.std.proofs.Common.{◌≡◌, ◌⊎◌, ◌==◌, if◌then◌else◌, ℕ, ◌<◌, ◌≤◌, List, [], ◌∷◌, refl, ap, sym, ◌∙◌, inl, inr}
use Rattle.std.proofs.Common.{arith}
use Rattle.pc_source.specs.declared.fault.Refusal.{Refusal}
use Rattle.pc_source.specs.declared.fault.RefusalCode.{RefusalCode}
use Rattle.pc_source.specs.declared.fault.RefusalCode.TheVariants.{S1, I1, I2, I3, N1, N2, N3, N4, N5}
use Rattle.pc_token.specs.Lexeme.{LogicalLine}
use Rattle.pc_layout.specs.Faults.{HasFault, IsLayoutRefusal, code_rank}
use Rattle.pc_layout.proofs.LineVerdicts.{any_rank}

code_at : ℕ → RefusalCode
code_at n =
    if n == 1 then I1 else if n == 2 then I2 else if n == 3 then I3 else if n == 4 then N1 else if n == 5 then N2
    else if n == 6 then N3 else if n == 7 then N4 else if n == 8 then N5 else S1

rank_code : (code : RefusalCode) → 1 ≤ code_rank code → code_at (code_rank code) ≡ code
unfolding code_at
rank_code I1 h = refl
rank_code I2 h = refl
rank_code I3 h = refl
rank_code N1 h = refl
rank_code N2 h = refl
rank_code N3 h = refl
rank_code N4 h = refl
rank_code N5 h = refl
rank_code _ h = absurd (omega arith)

some_rank : (len : ℕ) (before ls : List LogicalLine) (code : RefusalCode) (byte : ℕ) → HasFault len before ls code byte
    → 1 ≤ code_rank code
some_rank len before [] code byte h = absurd h
some_rank len before (l ∷ ls) code byte (inl h) = any_rank len before l code byte h
some_rank len before (l ∷ ls) code byte (inr h) = some_rank len (l ∷ before) ls code byte h

abbrev at : RefusalCode → ℕ → Refusal
at code byte = record { code = code; byte = byte }

pub one_refusal : (len : ℕ) (ls : List LogicalLine) (r s : Refusal) → IsLayoutRefusal len ls r
    → IsLayoutRefusal len ls s → r ≡ s
one_refusal len ls r s h g =
    let a : (r.byte < s.byte) ⊎ ((r.byte ≡ s.byte) × (code_rank r.code ≤ code_rank s.code)) =
    h.least s.code s.byte g.fault in
    let b : (s.byte < r.byte) ⊎ ((s.byte ≡ r.byte) × (code_rank s.code ≤ code_rank r.code)) =
    g.least r.code r.byte h.fault in
    let both : (r.byte ≡ s.byte) × (code_rank r.code ≡ code_rank s.code) = elim a [
      | inl lt ↦ elim b [ inl gt ↦ absurd (omega (arith, lt, gt)) | inr e ↦ absurd (omega (arith, lt, e.0)) ]
      | inr d ↦ elim b [ inl gt ↦ absurd (omega (arith, gt, d.0)) | inr e ↦ (d.0, omega (arith, d.1, e.1)) ]
    ] in
    let c : r.code ≡ s.code = sym (rank_code r.code (some_rank len [] ls r.code r.byte h.fault)) ∙ ap code_at both.1
    ∙ rank_code s.code (some_rank len [] ls s.code s.byte g.fault) in
    ap (λ k. at k r.byte) c ∙ ap (at s.code) both.0
