-- The place of a line feed.
use Rattle.std.proofs.Common.{◌≡◌, ℕ, ◌<◌, ◌≤◌, ◌+◌, ◌==◌, true, false, List, Some, None, length, drop, get_or, ap, sym}
use Rattle.std.proofs.Common.{◌∙◌, arith}
use Rattle.std.specs.List.{position}
use Rattle.std.specs.Option.{option_map_or}
use Rattle.std.proofs.lemmas.Bool.{eqb-true}
use Rattle.std.proofs.lemmas.List.{drop_all, length-drop, get_or-drop}
use Rattle.std.proofs.lemmas.List.Quantifiers.{position-Some}
use Rattle.pc_layout.specs.Flat.{line_feed_from}

pub past_end : (text : List ℕ) (from : ℕ) → length text ≤ from → length text ≡ line_feed_from text from
past_end text from h = rw (drop_all from text h)

pub none_left : (text : List ℕ) (from : ℕ) → None ≡ position (λ b. b == 10) (drop from text)
    → length text ≡ line_feed_from text from
none_left text from e = ap (λ o. option_map_or (λ n. from + n) o (length text)) e

pub one_left : (text : List ℕ) (from n : ℕ) → Some n ≡ position (λ b. b == 10) (drop from text)
    → from + n ≡ line_feed_from text from
one_left text from n e = ap (λ o. option_map_or (λ n. from + n) o (length text)) e

pub stands : (text : List ℕ) (from n : ℕ) → from ≤ length text → Some n ≡ position (λ b. b == 10) (drop from text)
    → (from + n < length text) × (get_or text (from + n) 0 ≡ 10)
stands text from n h e = let at : (n < length (drop from text)) × ((get_or (drop from text) n 0 == 10) ≡ true)
    × ((k : ℕ) → k < n → (get_or (drop from text) k 0 == 10) ≡ false) = position-Some (λ b. b == 10) (drop from text) n
    0 (sym e) in
    (omega (arith, length-drop from text, at.0), sym (get_or-drop from text n 0) ∙ eqb-true _ _ at.1)
