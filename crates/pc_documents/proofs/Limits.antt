-- Diagnostics within the limit, and beyond it.
use Rattle.std.specs.Prelude.{nat_le}
use Rattle.std.proofs.Common.{◌≡◌, ℕ, ◌-◌, ◌<◌, ◌≤◌, true, false, cond, List, [], ◌∷◌, ◌++◌, length, map, take, ap, ap₂}
use Rattle.std.proofs.Common.{◌∙◌, arith}
use Rattle.std.proofs.lemmas.Bool.Decides.{nat_tests}
use Rattle.std.proofs.lemmas.List.{length-map, take-map}
use Rattle.pc_documents.specs.declared.checker.ReportedFinding.{ReportedFinding}
use Rattle.pc_documents.specs.Agreed.{Agreed}
use Rattle.pc_documents.specs.Diagnostics.{item_data, limited, more_data}

is_below : (n : ℕ) → n ≤ 1000 → nat_le n 1000 ≡ true
is_below n h = grind (arith, nat_tests)

is_above : (n : ℕ) → 1000 < n → nat_le n 1000 ≡ false
is_above n h = grind (arith, nat_tests)

pub within : (agreed : Agreed) (text uri : List ℕ) (items : List ReportedFinding) → length items ≤ 1000
    → limited (map (item_data agreed text uri) items) ≡ map (item_data agreed text uri) items
within agreed text uri items few =
    let all = map (item_data agreed text uri) items in
    let long : length all ≡ length items = length-map items (item_data agreed text uri) in
    ap (λ b. cond b all (take 999 all ++ more_data (length all - 999) ∷ [])) (is_below (length all) (omega arith))

pub beyond : (agreed : Agreed) (text uri : List ℕ) (items : List ReportedFinding) → 1000 < length items
    → limited (map (item_data agreed text uri) items)
    ≡ map (item_data agreed text uri) (take 999 items) ++ more_data (length items - 999) ∷ []
beyond agreed text uri items many =
    let all = map (item_data agreed text uri) items in
    let long : length all ≡ length items = length-map items (item_data agreed text uri) in
    ap (λ b. cond b all (take 999 all ++ more_data (length all - 999) ∷ [])) (is_above (length all) (omega arith))
    ∙ ap₂ (λ first n. first ++ more_data (n - 999) ∷ []) (take-map (item_data agreed text uri) 999 items) long
