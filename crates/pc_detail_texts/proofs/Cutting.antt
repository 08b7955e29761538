-- Texts that are cut to fit, as they grow.
use Rattle.std.proofs.Common.{◌≡◌, ◌∙◌, ◌-◌, ◌<◌, ◌≤◌, ◌++◌, ℕ, zero, suc, List, [], true, false, refl, sym, ap, take}
use Rattle.std.proofs.Common.{length, nat_lt, get_or, arith}
use Rattle.std.specs.Prelude.{cond}
use Rattle.std.specs.Fmt.{is_char_start}
use Rattle.std.specs.Fmt.Cut.{cut_to, dots, floor_char_boundary}
use Rattle.std.specs.Fmt.InlineText.{inline_text}
use Rattle.std.proofs.lemmas.Bool.{le-leb, lt-leb, ltb-false, ltb-true, ltb_from_iff, lt-ltb}
use Rattle.std.proofs.lemmas.List.{get_or_append_left, length-append, take-append-le}
use Rattle.pc_detail_texts.specs.Shortened.{KeepsText, shortened}
use Rattle.pc_detail_texts.specs.declared.short_text.ShortText.{ShortText}

-- a text that fits is whole
pub fits : (x : List ℕ) → length x ≤ 200 → shortened x ≡ x
unfolding shortened cut_to
fits x h = rw (le-leb (length x) 200 h) refl

-- the last boundary at or before an index does not depend on bytes behind it
boundary_before : (x more : List ℕ) (i : ℕ) → i < length x
    → floor_char_boundary (x ++ more) i ≡ floor_char_boundary x i
unfolding floor_char_boundary
boundary_before x more zero h = refl
boundary_before x more (suc i) h =
    ap (λ b. cond (is_char_start b) (suc i) (floor_char_boundary (x ++ more) i)) (get_or_append_left x more 0 (suc i) h)
    ∙ ap (λ k. cond (is_char_start (get_or x (suc i) 0)) (suc i) k) (boundary_before x more i (omega (arith, h)))

boundary_within : (x : List ℕ) (i : ℕ) → floor_char_boundary x i ≤ i
unfolding floor_char_boundary
boundary_within x zero = omega arith
boundary_within x (suc i) = let below = boundary_within x i in
    elim (is_char_start (get_or x (suc i) 0)) as (λ t. cond t (suc i) (floor_char_boundary x i) ≤ suc i) [
      | true ↦ omega arith
      | false ↦ omega arith
    ]

-- a text that was cut stays as it is, whatever is appended
pub cut_stays : (x more : List ℕ) → 200 < length x → shortened (x ++ more) ≡ shortened x
unfolding shortened cut_to
cut_stays x more h =
    let longer : 200 < length (x ++ more) = omega (arith, h, length-append x more) in
    let within = boundary_within x 197 in
    rw (lt-leb (length (x ++ more)) 200 longer, lt-leb (length x) 200 h) (ap (λ l. l ++ dots 200)
    (ap (λ i. take i (x ++ more)) (boundary_before x more 197 (omega (arith, h)))
    ∙ take-append-le (floor_char_boundary x 197) x more (omega (arith, h, within))))

-- a text that has begun
pub none_yet : (short : ShortText) → inline_text short.kept ≡ [] → short.is_cut ≡ false → KeepsText short []
none_yet short e begun = record { kept = e ∙ sym (fits [] (omega arith)); cut = begun }

-- a text that was cut takes no more
pub cut_more : (short : ShortText) (whole more : List ℕ) → short.is_cut ≡ true → KeepsText short whole
    → KeepsText short (whole ++ more)
cut_more short whole more e h =
    let long : 200 < length whole = ltb-true 200 (length whole) (sym h.cut ∙ e) in
    record {
      kept = h.kept ∙ sym (cut_stays whole more long);
      cut = e ∙ sym (lt-ltb 200 (length (whole ++ more)) (omega (arith, long, length-append whole more)));
    }

-- a text that was not cut takes what fits
pub one_more : (old new : ShortText) (shown whole more : List ℕ) → old.is_cut ≡ false → shown ≡ inline_text old.kept
    → KeepsText old whole → inline_text new.kept ≡ cut_to 200 (inline_text old.kept ++ more)
    → new.is_cut ≡ nat_lt (200 - length shown) (length more) → KeepsText new (whole ++ more)
unfolding shortened
one_more old new shown whole more e s h grown cut =
    let small : length whole ≤ 200 = ltb-false 200 (length whole) (sym h.cut ∙ e) in
    let same : inline_text old.kept ≡ whole = h.kept ∙ fits whole small in
    let long = length-append whole more in
    let seen : length shown ≡ length whole = ap length (s ∙ same) in
    record {
      kept = grown ∙ ap (λ l. cut_to 200 (l ++ more)) same;
      cut = cut ∙ ltb_from_iff (
        (λ t. omega (arith, long, seen, small, ltb-true (200 - length shown) (length more) t)),
        (λ l. lt-ltb (200 - length shown) (length more) (omega (arith, long, seen, small, l))),
      );
    }
