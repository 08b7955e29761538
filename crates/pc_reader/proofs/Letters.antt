-- The digits of a number and the characters of a string, character by character.
use Rattle.std.proofs.Common.{◌≡◌, ◌≢◌, ℕ, ◌+◌, ◌<◌, ◌≤◌, ◌⊎◌, inl, inr, ◌==◌, Bool, true, false, not, if◌then◌else◌}
use Rattle.std.proofs.Common.{List, [], ◌∷◌, ◌++◌, length, get_or, encode_utf8, refl, sym, ap, ◌∙◌, arith, append_assoc}
use Rattle.std.proofs.Common.{append-nil}
use Rattle.std.specs.Prelude.{nat_le}
use Rattle.std.proofs.lemmas.Bool.{eqb-true}
use Rattle.std.proofs.lemmas.Bool.Decides.{leb_tells}
use Rattle.std.proofs.lemmas.Grind.{common_steps}
use Rattle.std.proofs.lemmas.Str.{encode_ascii, inside_one, length-encode, len_utf8_bounds}
use Rattle.pc_grammar.specs.Grammar.{digits_of, decoded, escaped}

-- a piece more is done
one_more : (done next piece left rest all : List ℕ) → done ++ left ≡ all → left ≡ piece ++ rest → next ≡ done ++ piece
    → next ++ rest ≡ all
one_more done next piece left rest all h e n = ap (λ z. z ++ rest) n ∙ append_assoc done piece rest
    ∙ ap (λ z. done ++ z) (sym e) ∙ h

size_of : (c : ℕ) → (c < 128) ⊎ (128 ≤ c)
size_of c = by_tells (leb_tells 128 c)
  where
    by_tells : ((nat_le 128 c ≡ true) × (128 ≤ c)) ⊎ ((nat_le 128 c ≡ false) × (c < 128)) → (c < 128) ⊎ (128 ≤ c)
    by_tells (inl x) = inr x.1
    by_tells (inr x) = inl x.1

other : (b n : ℕ) → 128 ≤ b → n < 128 → (b == n) ≡ false
other b n h g = grind (arith, common_steps)

unequal : (a b : ℕ) → a ≢ b → (a == b) ≡ false
unequal a b n = by_test (a == b) refl
  where
    by_test : (v : Bool) → (a == b) ≡ v → (a == b) ≡ false
    by_test true e = absurd (n (eqb-true a b e))
    by_test false e = e

none_left : (bs : List ℕ) → length bs ≡ 0 → bs ≡ []
none_left [] e = refl
none_left (b ∷ bs) e = absurd (grind (arith, common_steps))

-- all bytes of a character outside ASCII are so
high : (c k : ℕ) → 128 ≤ c → k < length (encode_utf8 c) → 128 ≤ get_or (encode_utf8 c) k 0
high c k h lt = grind (arith, inside_one c [] (encode_utf8 c) k (sym (append-nil (encode_utf8 c))) lt)

-- ---- digits

digits_wide : (bs rest : List ℕ) → ((k : ℕ) → k < length bs → 128 ≤ get_or bs k 0) → digits_of (bs ++ rest) ≡ bs
    ++ digits_of rest
digits_wide [] rest h = refl
digits_wide (b ∷ bs) rest h =
    let head : 128 ≤ b = grind (arith, common_steps, h 0) in
    let tail : (k : ℕ) → k < length bs → 128 ≤ get_or bs k 0 = λ k lt. grind (arith, common_steps, h (k + 1)) in
    ap (λ z. if not z then b ∷ digits_of (bs ++ rest) else digits_of (bs ++ rest)) (other b 95 head (omega arith))
    ∙ ap (λ r. b ∷ r) (digits_wide bs rest tail)

pub underscore_step : (c : ℕ) (old rest : List ℕ) → old ≡ encode_utf8 c ++ rest → c ≡ 95
    → digits_of old ≡ digits_of rest
underscore_step c old rest e u = ap digits_of (e ∙ ap (λ z. encode_utf8 z ++ rest) u
    ∙ ap (λ z. z ++ rest) (encode_ascii 95 (omega arith)))

digit_step : (c : ℕ) (old rest : List ℕ) → old ≡ encode_utf8 c ++ rest → (c == 95) ≡ false
    → digits_of old ≡ encode_utf8 c ++ digits_of rest
digit_step c old rest e n = by_size (size_of c)
  where
    by_size : (c < 128) ⊎ (128 ≤ c) → digits_of old ≡ encode_utf8 c ++ digits_of rest
    by_size (inl h) = ap digits_of (e ∙ ap (λ z. z ++ rest) (encode_ascii c h))
        ∙ ap (λ z. if not z then c ∷ digits_of rest else digits_of rest) n
        ∙ ap (λ z. z ++ digits_of rest) (sym (encode_ascii c h))
    by_size (inr h) = ap digits_of e ∙ digits_wide (encode_utf8 c) rest (λ k lt. high c k h lt)

pub digit_more : (c : ℕ) (done next old rest all : List ℕ) → old ≡ encode_utf8 c ++ rest → c ≢ 95
    → next ≡ done ++ encode_utf8 c → done ++ digits_of old ≡ all → next ++ digits_of rest ≡ all
digit_more c done next old rest all e n d h = one_more done next (encode_utf8 c) (digits_of old) (digits_of rest) all h
    (digit_step c old rest e (unequal c 95 n)) d

pub digits_end : (bs : List ℕ) → length bs ≡ 0 → digits_of bs ≡ []
digits_end bs e = ap digits_of (none_left bs e)

-- ---- characters of a string

decoded_wide : (bs rest : List ℕ) → ((k : ℕ) → k < length bs → 128 ≤ get_or bs k 0) → decoded false (bs ++ rest) ≡ bs
    ++ decoded false rest
decoded_wide [] rest h = refl
decoded_wide (b ∷ bs) rest h =
    let head : 128 ≤ b = grind (arith, common_steps, h 0) in
    let tail : (k : ℕ) → k < length bs → 128 ≤ get_or bs k 0 = λ k lt. grind (arith, common_steps, h (k + 1)) in
    ap (λ z. (if z then [] else b ∷ []) ++ decoded z (bs ++ rest)) (other b 92 head (omega arith))
    ∙ ap (λ r. b ∷ r) (decoded_wide bs rest tail)

escaped_wide : (c : ℕ) → 128 ≤ c → escaped c ≡ c
escaped_wide c h = ap (λ z. if z then 10 else (if c == 116 then 9 else (if c == 114 then 13 else c)))
    (other c 110 h (omega arith))
    ∙ ap (λ z. if z then 9 else (if c == 114 then 13 else c)) (other c 116 h (omega arith))
    ∙ ap (λ z. if z then 13 else c) (other c 114 h (omega arith))

escaped_ascii : (c : ℕ) → c < 128 → escaped c < 128
escaped_ascii c h = by_tests (c == 110) (c == 116) (c == 114)
  where
    by_tests : (u v w : Bool) → (if u then 10 else (if v then 9 else (if w then 13 else c))) < 128
    by_tests true v w = omega arith
    by_tests false true w = omega arith
    by_tests false false true = omega arith
    by_tests false false false = h

decoded_after : (bs rest : List ℕ) → 0 < length bs → ((k : ℕ) → k < length bs → 128 ≤ get_or bs k 0)
    → decoded true (bs ++ rest) ≡ bs ++ decoded false rest
decoded_after [] rest some h = absurd (grind (arith, common_steps))
decoded_after (b ∷ bs) rest some h =
    let head : 128 ≤ b = grind (arith, common_steps, h 0) in
    let tail : (k : ℕ) → k < length bs → 128 ≤ get_or bs k 0 = λ k lt. grind (arith, common_steps, h (k + 1)) in
    ap (λ z. z ∷ decoded false (bs ++ rest)) (escaped_wide b head) ∙ ap (λ r. b ∷ r) (decoded_wide bs rest tail)

escaped_step : (c : ℕ) (old rest : List ℕ) → old ≡ encode_utf8 c ++ rest → decoded true old ≡ encode_utf8 (escaped c)
    ++ decoded false rest
escaped_step c old rest e = by_size (size_of c)
  where
    by_size : (c < 128) ⊎ (128 ≤ c) → decoded true old ≡ encode_utf8 (escaped c) ++ decoded false rest
    by_size (inl h) = ap (decoded true) (e ∙ ap (λ z. z ++ rest) (encode_ascii c h))
        ∙ ap (λ z. z ++ decoded false rest) (sym (encode_ascii (escaped c) (escaped_ascii c h)))
    by_size (inr h) = ap (decoded true) e ∙ decoded_after (encode_utf8 c) rest
        (omega (arith, length-encode c, (len_utf8_bounds c).0)) (λ k lt. high c k h lt)
        ∙ ap (λ z. encode_utf8 z ++ decoded false rest) (sym (escaped_wide c h))

plain_step : (c : ℕ) (old rest : List ℕ) → old ≡ encode_utf8 c ++ rest → (c == 92) ≡ false
    → decoded false old ≡ encode_utf8 c ++ decoded false rest
plain_step c old rest e n = by_size (size_of c)
  where
    by_size : (c < 128) ⊎ (128 ≤ c) → decoded false old ≡ encode_utf8 c ++ decoded false rest
    by_size (inl h) = ap (decoded false) (e ∙ ap (λ z. z ++ rest) (encode_ascii c h))
        ∙ ap (λ z. (if z then [] else c ∷ []) ++ decoded z rest) n
        ∙ ap (λ z. z ++ decoded false rest) (sym (encode_ascii c h))
    by_size (inr h) = ap (decoded false) e ∙ decoded_wide (encode_utf8 c) rest (λ k lt. high c k h lt)

pub escaped_more : (after : Bool) (c : ℕ) (done next old rest all : List ℕ) → after ≡ true → old ≡ encode_utf8 c ++ rest
    → next ≡ done ++ encode_utf8 (escaped c) → done ++ decoded after old ≡ all → next ++ decoded false rest ≡ all
escaped_more true c done next old rest all a e d h = one_more done next (encode_utf8 (escaped c)) (decoded true old)
    (decoded false rest) all h (escaped_step c old rest e) d
escaped_more false c done next old rest all a e d h = cc

pub plain_more : (after : Bool) (c : ℕ) (done next old rest all : List ℕ) → after ≡ false → old ≡ encode_utf8 c ++ rest
    → c ≢ 92 → next ≡ done ++ encode_utf8 c → done ++ decoded after old ≡ all → next ++ decoded after rest ≡ all
plain_more true c done next old rest all a e n d h = cc
plain_more false c done next old rest all a e n d h = one_more done next (encode_utf8 c) (decoded false old)
    (decoded false rest) all h (plain_step c old rest e (unequal c 92 n)) d

pub decoded_end : (after : Bool) (bs : List ℕ) → length bs ≡ 0 → decoded after bs ≡ []
decoded_end true bs e = ap (decoded true) (none_left bs e)
decoded_end false bs e = ap (decoded false) (none_left bs e)
