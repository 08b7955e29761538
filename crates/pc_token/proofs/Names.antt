-- The form of a name.
use Rattle.std.proofs.Common.{◌≡◌, ℕ, ◌<◌, List, true, length, ap, ◌∙◌, inl, inr, arith}
use Rattle.std.specs.Prelude.{IsAscii, nat_lt, encode_utf8_all}
use Rattle.std.proofs.lemmas.Bool.{cases_lt}
use Rattle.std.proofs.lemmas.Bool.Decides.{nat_tests}
use Rattle.std.proofs.lemmas.List.{get_or_past}
use Rattle.std.proofs.lemmas.List.Elements.{All-from_get_or}
use Rattle.std.proofs.lemmas.Str.{chars-IsAscii, encodes-IsAscii}
use Rattle.unicode_normalization.specs.Forms.{Nfkc, nfkc}
use Rattle.unicode_normalization.proofs.FormsLemmas.{normalize-ascii}
use Rattle.pc_token.specs.Names.{is_ascii, name_form}
use Rattle.pc_token.proofs.Lists.{list_all-at}

below : (b : ℕ) → nat_lt b 128 ≡ true → b < 128
below b e = grind (arith, nat_tests)

pub ascii_bytes : (bs : List ℕ) → is_ascii bs ≡ true → IsAscii bs
ascii_bytes bs e i = elim (cases_lt i (length bs)) [
  | inl within ↦ below _ (list_all-at (λ b. nat_lt b 128) bs i 0 within e)
  | inr past ↦ let zero_past = get_or_past bs i 0 past in omega arith
]

-- an ASCII name is its own form
pub name_form-ascii : (bs : List ℕ) → is_ascii bs ≡ true → name_form bs ≡ bs
unfolding name_form
name_form-ascii bs e =
    let ascii = ascii_bytes bs e in
    ap (λ cs. encode_utf8_all (nfkc cs)) (chars-IsAscii bs ascii)
    ∙ ap encode_utf8_all (normalize-ascii Nfkc bs (All-from_get_or (λ c. c < 128) bs 0 (λ i _. ascii i)))
    ∙ encodes-IsAscii bs ascii
