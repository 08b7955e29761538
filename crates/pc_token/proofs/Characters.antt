-- The characters of a text, one by one.
use Rattle.std.proofs.Common.{◌≡◌, ℕ, ◌+◌, ◌≤◌, List, [], ◌∷◌, ◌++◌, Some, None, true, length, drop, sym, ap, ◌∙◌}
use Rattle.std.proofs.Common.{arith, slice_range, chars, IsUtf8, encode_utf8_all, length-drop, append-nil}
use Rattle.std.specs.Prelude.{encode_utf8, slice_get}
use Rattle.std.specs.List.{list_all}
use Rattle.std.specs.Char.{len_utf8}
use Rattle.std.specs.Str.{IsCharBoundary}
use Rattle.std.proofs.lemmas.List.Folds.{list_all-append}
use Rattle.std.proofs.lemmas.Str.{chars_from_encodes, IsUtf8-drop, IsCharBoundary-past_char, length-encode}
use Rattle.std.proofs.lemmas.Str.{encodes-append}
use Rattle.unicode_ident.specs.Ident.{is_xid_continue}
use Rattle.pc_token.proofs.Slices.{joined, piece_is}

first_char : (bs cs : List ℕ) (c : ℕ) → encode_utf8_all cs ≡ bs → slice_get cs 0 ≡ Some c → (rest : List ℕ)
    × (bs ≡ encode_utf8 c ++ rest)
first_char bs [] c e h = let no : ⊥ = cc in absurd no
first_char bs (d ∷ ds) c e h = let same : d ≡ c = cc in (
  encode_utf8_all ds,
  sym e
      ∙ ap (λ x. encode_utf8 x ++ encode_utf8_all ds) same,
)

no_chars : (bs cs : List ℕ) → encode_utf8_all cs ≡ bs → slice_get cs 0 ≡ None → length bs ≡ 0
no_chars bs [] e h = ap length (sym e)
no_chars bs (d ∷ ds) e h = let no : ⊥ = cc in absurd no

module _ (text : List ℕ) (at : ℕ) (utf8 : IsUtf8 text) (boundary : IsCharBoundary text at) where
  -- the character that stands at a byte
  pub char_here : (c : ℕ) → slice_get (chars (drop at text)) 0 ≡ Some c → (rest : List ℕ)
      × (drop at text ≡ encode_utf8 c ++ rest)
  char_here c e =
      let u = IsUtf8-drop text at utf8 boundary in
      first_char (drop at text) u.0 c u.1.1 (ap (λ x. slice_get x 0) (chars_from_encodes u.0 (drop at text) u u.1.1)
      ∙ e)

  -- where none stands the text ends
  pub no_char_here : slice_get (chars (drop at text)) 0 ≡ None → length text ≡ at
  no_char_here e =
      let u = IsUtf8-drop text at utf8 boundary in
      let none = no_chars (drop at text) u.0 u.1.1 (ap (λ x. slice_get x 0)
      (chars_from_encodes u.0 (drop at text) u u.1.1) ∙ e) in
      let within = boundary.0 in
      omega (arith, length-drop at text)

  -- after it the text may be cut
  pub next_boundary : (c : ℕ) → slice_get (chars (drop at text)) 0 ≡ Some c → IsCharBoundary text (at + len_utf8 c)
  next_boundary c e = let (rest, is) = char_here c e in
      IsCharBoundary-past_char text rest at c boundary.0 (IsUtf8-drop text at utf8 boundary) is

  -- a run of characters that may continue a name, and one more
  pub run_more : (start c : ℕ) → start ≤ at → slice_get (chars (drop at text)) 0 ≡ Some c → is_xid_continue c ≡ true
      → ((cs : List ℕ) × (list_all is_xid_continue cs ≡ true) × (slice_range text start at ≡ encode_utf8_all cs))
      → (cs : List ℕ) × (list_all is_xid_continue cs ≡ true) × (slice_range text start (at + len_utf8 c)
      ≡ encode_utf8_all cs)
  run_more start c h e goes (cs, all, is) = let (rest, here) = char_here c e in (
    cs ++ c ∷ [],
    list_all-append is_xid_continue cs (c ∷ []) ∙ (rw (all, goes)),
    joined text start at (at + len_utf8 c) h (omega arith)
        ∙ ap (λ x. x ++ slice_range text at (at + len_utf8 c)) is
        ∙ ap (λ x. encode_utf8_all cs ++ x) (piece_is text (encode_utf8 c) rest at (at + len_utf8 c) here
        (ap (λ n. at + n) (sym (length-encode c))) ∙ sym (append-nil (encode_utf8 c)))
        ∙ sym (encodes-append cs (c ∷ [])),
  )
