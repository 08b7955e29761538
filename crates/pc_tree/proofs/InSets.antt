-- The texts of a set, as a list asks for them.
use Rattle.std.proofs.Common.{◌≡◌, ℕ, List, [], ◌∷◌, ◌++◌, map, refl, ap, ◌∙◌, sym}
use Rattle.std.proofs.lemmas.List.{map-append}
use Rattle.std.proofs.lemmas.Slice.Eq.{bytes_eq-Decides}
use Rattle.std.specs.Prelude.{Bool, true, false, ◌||◌, if◌then◌else◌, bytes_eq}
use Rattle.std.specs.List.{list_any}
use Rattle.pc_tree.specs.Stopping.{is_among}
use Rattle.pc_tree.proofs.Texts.{turned}

-- a set of texts has a text where it is among their list
pub has : {A : Type 0} (f : A → List ℕ) (t : List ℕ) (ks : List A) → list_any (λ k. bytes_eq t (f k)) ks
    ≡ is_among (map f ks) t
has f t [] = refl
has f t (k ∷ ks) = ap (λ b. b || list_any (λ x. bytes_eq t (f x)) ks) (turned t (f k))
    ∙ ap (λ b. bytes_eq (f k) t || b) (has f t ks)

or_swap : (a b c : Bool) → (a || (b || c)) ≡ (b || (a || c))
or_swap true true c = refl
or_swap true false c = refl
or_swap false b c = refl

at_end : (x : List ℕ) (names : List (List ℕ)) (t : List ℕ) → is_among (names ++ (x ∷ [])) t ≡ is_among (x ∷ names) t
at_end x [] t = refl
at_end x (n ∷ names) t = ap (λ b. bytes_eq n t || b) (at_end x names t)
    ∙ or_swap (bytes_eq n t) (bytes_eq x t) (is_among names t)

module _ {A : Type 0} (f : A → List ℕ) (ks : List A) (s : A) (t : List ℕ) where
  already : (b : Bool) → bytes_eq (f s) t ≡ b → list_any (λ k. bytes_eq (f s) (f k)) ks ≡ true
      → is_among (map f ks) t ≡ (b || is_among (map f ks) t)
  already false e there = refl
  already true e there = ap (λ u. is_among (map f ks) u) (sym ((bytes_eq-Decides (f s) t).0 e)) ∙ sym (has f (f s) ks)
      ∙ there

  -- a text that is put into a set stands among the texts of it, beside those that did
  pub put_in : (b : Bool) → list_any (λ k. bytes_eq (f s) (f k)) ks ≡ b
      → is_among (map f (if b then ks else ks ++ (s ∷ []))) t ≡ is_among (f s ∷ map f ks) t
  put_in true e = already (bytes_eq (f s) t) refl e
  put_in false e = ap (λ names. is_among names t) (map-append f ks (s ∷ [])) ∙ at_end (f s) (map f ks) t
