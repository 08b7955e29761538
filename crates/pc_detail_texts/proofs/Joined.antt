-- Texts that are put together piece by piece.
use Rattle.std.proofs.Common.{◌≡◌, List, [], ◌∷◌, ◌++◌, length, true, false, refl, ap, append_assoc, ◌∙◌}
use Rattle.std.specs.Prelude.{flat_map, codes, ◌==◌, Result, Ok, Err, OnOk}
use Rattle.std.specs.declared.rc.RcStr.{RcStr}
use Rattle.std.specs.declared.alloc.Global.{Global}
use Rattle.pc_detail_texts.specs.Details.{keys}
use Rattle.pc_detail_texts.specs.Sentences.{Words, each_after, joined_by, error_sentence}
use Rattle.pc_detail_texts.specs.Shown.{words, all_words}

-- texts, each after a separator, one by one
pub each_of : (between : Words) (ts : List (RcStr Global))
    → flat_map (λ t. between ++ words t) ts ≡ each_after between (all_words ts)
each_of between [] = refl
each_of between (t ∷ ts) = ap (λ (x : Words). (between ++ words t) ++ x) (each_of between ts)

-- three pieces after a text
pub three : (o a b c p q r : Words) → p ≡ o ++ a → q ≡ p ++ b → r ≡ q ++ c → r ≡ o ++ (a ++ (b ++ c))
three o a b c p q r h i j = j ∙ ap (λ (x : Words). x ++ c) (i ∙ ap (λ (x : Words). x ++ b) h)
    ∙ append_assoc (o ++ a) b c ∙ append_assoc o a (b ++ c)

-- two pieces after a text, the first of two parts
pub parts_and_two : (o a b c d p q r : Words) → p ≡ o ++ (a ++ b) → q ≡ p ++ c → r ≡ q ++ d
    → r ≡ o ++ (a ++ (b ++ (c ++ d)))
parts_and_two o a b c d p q r h i j = three o (a ++ b) c d p q r h i j
    ∙ ap (λ (x : Words). o ++ x) (append_assoc a b (c ++ d))

-- a piece of three parts and another after a text
pub parts_and_one : (o a b c d p q : Words) → p ≡ o ++ (a ++ (b ++ c)) → q ≡ p ++ d
    → q ≡ o ++ (a ++ (b ++ (c ++ d)))
parts_and_one o a b c d p q h i = i ∙ ap (λ (x : Words). x ++ d) h ∙ append_assoc o (a ++ (b ++ c)) d
    ∙ ap (λ (x : Words). o ++ x) (append_assoc a (b ++ c) d ∙ ap (λ (x : Words). a ++ x) (append_assoc b c d))

-- two pieces after a text
pub two : (o a b p q : Words) → p ≡ o ++ a → q ≡ p ++ b → q ≡ o ++ (a ++ b)
two o a b p q h i = i ∙ ap (λ (x : Words). x ++ b) h ∙ append_assoc o a b

-- three pieces after a text, the second of two parts
pub one_parts_one : (o a b c d p q r : Words) → p ≡ o ++ a → q ≡ p ++ (b ++ c) → r ≡ q ++ d
    → r ≡ o ++ (a ++ (b ++ (c ++ d)))
one_parts_one o a b c d p q r h i j = three o a (b ++ c) d p q r h i j
    ∙ ap (λ (x : Words). o ++ (a ++ x)) (append_assoc b c d)

-- a piece of three parts and two others after a text
pub parts_and_pair : (o a b c d e p q r : Words) → p ≡ o ++ (a ++ (b ++ c)) → q ≡ p ++ d → r ≡ q ++ e
    → r ≡ o ++ (a ++ (b ++ (c ++ (d ++ e))))
parts_and_pair o a b c d e p q r h i j = parts_and_one o a b c (d ++ e) p r h (two p d e q r i j)

-- a condition on the value of a result follows from one that implies it
pub on_ok : {T E : Type 0} (r : Result T E) (P Q : Type 0) → (P → Q) → OnOk r P → OnOk r Q
on_ok (Ok x) P Q f h = f h
on_ok (Err e) P Q f h = h

-- a piece after a text, and another unless there is an error
pub two_ok : {T E : Type 0} (r : Result T E) (o a b p q : Words) → p ≡ o ++ a → OnOk r (q ≡ p ++ b)
    → OnOk r (q ≡ o ++ (a ++ b))
two_ok r o a b p q h i = on_ok r (q ≡ p ++ b) (q ≡ o ++ (a ++ b)) (two o a b p q h) i

-- two pieces after a text, and a third unless there is an error
pub three_ok : {T E : Type 0} (r : Result T E) (o a b c p q s : Words) → p ≡ o ++ a → q ≡ p ++ b
    → OnOk r (s ≡ q ++ c) → OnOk r (s ≡ o ++ (a ++ (b ++ c)))
three_ok r o a b c p q s h i j =
    on_ok r (s ≡ q ++ c) (s ≡ o ++ (a ++ (b ++ c))) (three o a b c p q s h i) j

-- a piece of three parts after a text, and another unless there is an error
pub parts_and_one_ok : {T E : Type 0} (r : Result T E) (o a b c d p q : Words) → p ≡ o ++ (a ++ (b ++ c))
    → OnOk r (q ≡ p ++ d) → OnOk r (q ≡ o ++ (a ++ (b ++ (c ++ d))))
parts_and_one_ok r o a b c d p q h i =
    on_ok r (q ≡ p ++ d) (q ≡ o ++ (a ++ (b ++ (c ++ d)))) (parts_and_one o a b c d p q h) i

-- a piece of two parts and another after a text, and a third unless there is an error
pub parts_and_two_ok : {T E : Type 0} (t : Result T E) (o a b c d p q r : Words) → p ≡ o ++ (a ++ b) → q ≡ p ++ c
    → OnOk t (r ≡ q ++ d) → OnOk t (r ≡ o ++ (a ++ (b ++ (c ++ d))))
parts_and_two_ok t o a b c d p q r h i j =
    on_ok t (r ≡ q ++ d) (r ≡ o ++ (a ++ (b ++ (c ++ d)))) (parts_and_two o a b c d p q r h i) j

-- a piece of three parts and another after a text, and a third unless there is an error
pub parts_and_pair_ok : {T E : Type 0} (t : Result T E) (o a b c d e p q r : Words) → p ≡ o ++ (a ++ (b ++ c))
    → q ≡ p ++ d → OnOk t (r ≡ q ++ e) → OnOk t (r ≡ o ++ (a ++ (b ++ (c ++ (d ++ e)))))
parts_and_pair_ok t o a b c d e p q r h i j =
    on_ok t (r ≡ q ++ e) (r ≡ o ++ (a ++ (b ++ (c ++ (d ++ e))))) (parts_and_pair o a b c d e p q r h i) j

-- a piece of five parts after a text, and another unless there is an error
pub five_and_one_ok : {T E : Type 0} (r : Result T E) (o a b c d e f p q : Words)
    → p ≡ o ++ (a ++ (b ++ (c ++ (d ++ e)))) → OnOk r (q ≡ p ++ f)
    → OnOk r (q ≡ o ++ (a ++ (b ++ (c ++ (d ++ (e ++ f))))))
five_and_one_ok r o a b c d e f p q h i =
    on_ok r (q ≡ p ++ f) (q ≡ o ++ (a ++ (b ++ (c ++ (d ++ (e ++ f))))))
    (λ j. parts_and_one o a b (c ++ (d ++ e)) f p q h j ∙ ap (λ (x : Words). o ++ (a ++ (b ++ x)))
    (append_assoc c (d ++ e) f ∙ ap (λ (x : Words). c ++ x) (append_assoc d e f))) i

apart : true ≡ false → ⊥
apart h = cc

-- the sentence of keys, if there are some
pub some_keys : (ts : List (RcStr Global)) → (length ts == 0) ≡ false
    → error_sentence (keys (all_words ts))
    ≡ codes "the keys are " ++ (joined_by (codes ", ") (all_words ts) ++ codes ", not all int or all str")
some_keys [] h = absurd (apart h)
some_keys (t ∷ ts) h = refl
