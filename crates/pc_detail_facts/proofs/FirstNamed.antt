-- A map that keeps the first value of each name, one name after another.
use Rattle.std.proofs.Common.{◌≡◌, ◌∙◌, ℕ, List, [], ◌∷◌, ◌++◌, Bool, true, false, Option, Some, None, refl, sym, ap, cond}
use Rattle.std.proofs.lemmas.Bool.{true≢false}
use Rattle.std.proofs.lemmas.List.Folds.{find-append}
use Rattle.std.proofs.lemmas.Slice.Eq.{bytes_eq-Decides}
use Rattle.std.specs.Map.{update}
use Rattle.std.specs.Option.{option_map, option_or}
use Rattle.std.specs.Prelude.{bytes_eq, find, is_some}

-- whether two texts are the same does not depend on their order
pub same_texts : (a b : List ℕ) (t : Bool) → bytes_eq a b ≡ t → bytes_eq b a ≡ t
same_texts a b true h = (bytes_eq-Decides b a).1 (sym ((bytes_eq-Decides a b).0 h))
same_texts a b false h = apart (bytes_eq b a) refl
  where
    apart : (t : Bool) → bytes_eq b a ≡ t → t ≡ false
    apart false e = refl
    apart true e = sym ((bytes_eq-Decides a b).1 (sym ((bytes_eq-Decides b a).0 e))) ∙ h

module _ {X Y : Type 0} (text : Y → List ℕ) (value : Y → X) where
  -- the value of the first of a name
  abbrev pub first_of : List ℕ → List Y → Option X
  first_of word ys = option_map value (find (λ y. bytes_eq word (text y)) ys)

  module _ (held : List ℕ → Option X) (ys : List Y) (y : Y) (are : (word : List ℕ) → held word ≡ first_of word ys) where
    more : (word : List ℕ) → first_of word (ys ++ y ∷ [])
        ≡ option_map value (option_or (find (λ z. bytes_eq word (text z)) ys) (cond (bytes_eq word (text y)) (Some y) None))
    more word = ap (option_map value) (find-append (λ z. bytes_eq word (text z)) ys (y ∷ []))

    -- a name that has a value already changes nothing
    pub kept_first : is_some (held (text y)) ≡ true → (word : List ℕ) → held word ≡ first_of word (ys ++ y ∷ [])
    kept_first has word = are word ∙ by (find (λ z. bytes_eq word (text z)) ys) (bytes_eq word (text y)) refl refl ∙ sym (more word)
      where
        by : (o : Option Y) (b : Bool) → find (λ z. bytes_eq word (text z)) ys ≡ o → bytes_eq word (text y) ≡ b
            → option_map value o ≡ option_map value (option_or o (cond b (Some y) None))
        by (Some z) b e h = refl
        by None false e h = refl
        by None true e h = absurd (true≢false (sym has ∙ ap (λ t. is_some (held t)) (sym ((bytes_eq-Decides word (text y)).0 h))
            ∙ ap is_some (are word) ∙ ap (λ o. is_some (option_map value o)) e))

    -- a new name has its value from now on
    pub put_first : is_some (held (text y)) ≡ false → (new : List ℕ → Option X)
        → ((word : List ℕ) → new word ≡ update bytes_eq held (text y) (Some (value y)) word)
        → (word : List ℕ) → new word ≡ first_of word (ys ++ y ∷ [])
    put_first none new updates word = updates word
        ∙ by (find (λ z. bytes_eq word (text z)) ys) (bytes_eq word (text y)) refl refl ∙ sym (more word)
      where
        by : (o : Option Y) (b : Bool) → find (λ z. bytes_eq word (text z)) ys ≡ o → bytes_eq word (text y) ≡ b
            → update bytes_eq held (text y) (Some (value y)) word ≡ option_map value (option_or o (cond b (Some y) None))
        by o true e h = ap (λ t. cond t (Some (value y)) (held word)) (same_texts word (text y) true h) ∙ there o e
          where
            there : (o : Option Y) → find (λ z. bytes_eq word (text z)) ys ≡ o
                → Some (value y) ≡ option_map value (option_or o (Some y))
            there None e = refl
            there (Some z) e = absurd (true≢false (ap (λ o. is_some (option_map value o)) (sym e) ∙ ap is_some (sym (are word))
                ∙ ap (λ t. is_some (held t)) ((bytes_eq-Decides word (text y)).0 h) ∙ none))
        by o false e h = ap (λ t. cond t (Some (value y)) (held word)) (same_texts word (text y) false h) ∙ are word
            ∙ ap (option_map value) e ∙ other o
          where
            other : (o : Option Y) → option_map value o ≡ option_map value (option_or o None)
            other None = refl
            other (Some z) = refl
