-- Pieces of a text.
use Rattle.std.proofs.Common.{◌≡◌, ℕ, ◌+◌, ◌-◌, ◌<◌, ◌≤◌, List, [], ◌∷◌, ◌++◌, length, take, drop, sym, ap, ◌∙◌, arith}
use Rattle.std.proofs.Common.{slice_range, get_or, get_or-drop, add-zero}
use Rattle.std.proofs.Math.Seq.{take-add, take-append_seam, drop-append_seam}
use Rattle.std.proofs.lemmas.List.{drop-drop, take-append-drop, drop_more}

-- a text from a byte on is a piece of it, and what follows the piece
pub split_at : (text : List ℕ) (i j : ℕ) → i ≤ j → drop i text ≡ slice_range text i j ++ drop j text
split_at text i j h =
    let e : i + (j - i) ≡ j = omega arith in
    sym (take-append-drop (j - i) (drop i text)) ∙ ap (λ x. take (j - i) (drop i text) ++ x) (drop-drop (j - i) i text
    ∙ ap (λ n. drop n text) e)

-- two pieces, one after the other
pub joined : (text : List ℕ) (i j k : ℕ) → i ≤ j → j ≤ k → slice_range text i k ≡ slice_range text i j ++ slice_range
    text j k
joined text i j k h g =
    let e : k - i ≡ (j - i) + (k - j) = omega arith in
    let d : i + (j - i) ≡ j = omega arith in
    ap (λ n. take n (drop i text)) e ∙ take-add (j - i) (k - j) (drop i text)
    ∙ ap (λ x. take (j - i) (drop i text) ++ take (k - j) x) (drop-drop (j - i) i text ∙ ap (λ n. drop n text) d)

module _ (text xs rest : List ℕ) (i j : ℕ) (e : drop i text ≡ xs ++ rest) (at : j ≡ i + length xs) where
  -- the piece that is these bytes
  pub piece_is : slice_range text i j ≡ xs
  piece_is = let n : j - i ≡ length xs = omega arith in
      ap (λ k. take k (drop i text)) n ∙ ap (take (length xs)) e ∙ take-append_seam xs rest

  -- and what follows it
  pub rest_is : drop j text ≡ rest
  rest_is = ap (λ n. drop n text) at ∙ sym (drop-drop (length xs) i text) ∙ ap (drop (length xs)) e
      ∙ drop-append_seam xs rest

-- one element
pub one_element : (text : List ℕ) (i : ℕ) → i < length text → slice_range text i (i + 1) ≡ get_or text i 0 ∷ []
one_element text i h =
    let n : i + 1 - i ≡ 1 = omega arith in
    ap (λ k. take k (drop i text)) n ∙ ap (take 1) (drop_more text i 0 h)

-- two elements
pub two_elements : (text : List ℕ) (i : ℕ) → i + 1 < length text → slice_range text i (i + 2) ≡ get_or text i 0
    ∷ get_or text (i + 1) 0 ∷ []
two_elements text i h =
    let n : i + 2 - i ≡ 2 = omega arith in
    ap (λ k. take k (drop i text)) n ∙ ap (take 2) (drop_more text i 0 (omega arith)
    ∙ ap (λ x. get_or text i 0 ∷ x) (drop_more text (i + 1) 0 h))

-- a front is a piece
pub front_is : (text : List ℕ) (j : ℕ) → take j text ≡ slice_range text 0 j
front_is text j = let n : j - 0 ≡ j = omega arith in ap (λ k. take k text) (sym n)

-- the byte that stands first from a byte on
pub first_from : (text : List ℕ) (i : ℕ) → get_or (drop i text) 0 0 ≡ get_or text i 0
first_from text i = rw (get_or-drop i text 0 0, add-zero)
