-- The leading ASCII bytes of a name, and the leading spaces of blanks.
use Rattle.std.proofs.Common.{◌≡◌, ℕ, suc, ◌+◌, ◌<◌, List, [], ◌∷◌, Bool, true, ◌&&◌, ◌==◌, take, drop, sym, ap, ◌∙◌}
use Rattle.std.proofs.Common.{refl, inl, inr, arith, slice_range, IsUtf8, encode_utf8_all}
use Rattle.std.specs.Prelude.{nat_lt}
use Rattle.std.specs.List.{list_all, prefix_len}
use Rattle.std.specs.Str.{IsCharBoundary}
use Rattle.std.proofs.lemmas.Bool.{and_parts, cases_Bool}
use Rattle.std.proofs.lemmas.Bool.Decides.{nat_tests}
use Rattle.std.proofs.lemmas.Str.{IsUtf8-drop, IsCharBoundary-from_rest, encodes-IsAscii}
use Rattle.unicode_ident.specs.Ident.{is_xid_continue}
use Rattle.unicode_ident.proofs.IdentLemmas.{is_xid_continue-ascii}
use Rattle.pc_token.specs.Gaps.{is_blank}
use Rattle.pc_token.specs.Names.{is_ascii}
use Rattle.pc_token.specs.Internal.WordBytes.{is_word_byte}
use Rattle.pc_token.proofs.Boundaries.{IsCharBoundary-ascii_run}
use Rattle.pc_token.proofs.Names.{ascii_bytes}
use Rattle.pc_token.proofs.Pieces.{piece_from}
use Rattle.pc_token.proofs.Runs.{front_passes}

word_byte_low : (b : ℕ) → is_word_byte b ≡ true → b < 128
word_byte_low b h = grind (arith, nat_tests)

low_test : (b : ℕ) → b < 128 → nat_lt b 128 ≡ true
low_test b h = grind (arith, nat_tests)

both : (a b : Bool) → a ≡ true → b ≡ true → (a && b) ≡ true
both a b e f = ap (λ x. x && b) e ∙ f

goes : (bs : List ℕ) → list_all is_word_byte bs ≡ true → list_all is_xid_continue bs ≡ true
goes [] h = refl
goes (b ∷ bs) h =
    let (here, later) = and_parts (is_word_byte b) (list_all is_word_byte bs) h in
    both (is_xid_continue b) (list_all is_xid_continue bs) (is_xid_continue-ascii b (word_byte_low b here) ∙ here)
    (goes bs later)

low : (bs : List ℕ) → list_all is_word_byte bs ≡ true → list_all (λ b. nat_lt b 128) bs ≡ true
low [] h = refl
low (b ∷ bs) h =
    let (here, later) = and_parts (is_word_byte b) (list_all is_word_byte bs) h in
    both (nat_lt b 128) (list_all (λ x. nat_lt x 128) bs) (low_test b (word_byte_low b here)) (low bs later)

module _ (text : List ℕ) (start n : ℕ) (utf8 : IsUtf8 text) (boundary : IsCharBoundary text start)
    (is : n ≡ prefix_len is_word_byte (drop start text)) where
  -- after ASCII bytes of a name the text may be cut
  pub word_edge : IsCharBoundary text (start + n)
  word_edge = IsCharBoundary-from_rest text start n boundary.0
      (rw is (IsCharBoundary-ascii_run is_word_byte (drop start text) (IsUtf8-drop text start utf8 boundary)
      word_byte_low))

  -- they are ASCII
  pub word_ascii : is_ascii (slice_range text start (start + n)) ≡ true
  word_ascii = ap is_ascii (piece_from text start n)
      ∙ low (take n (drop start text)) (front_passes is_word_byte (drop start text) n (omega arith))

  -- the ASCII bytes of a name are characters that may continue a name
  pub word_run : (cs : List ℕ) × (list_all is_xid_continue cs ≡ true)
      × (slice_range text start (start + n) ≡ encode_utf8_all cs)
  word_run =
      let bs = take n (drop start text) in
      let all = front_passes is_word_byte (drop start text) n (omega arith) in
      (bs, goes bs all, piece_from text start n ∙ sym (encodes-IsAscii bs (ascii_bytes bs (low bs all))))

one_more : (m : ℕ) → 1 + m ≡ suc m
one_more m = omega arith

-- blanks are the spaces at the front, and the blanks after them
pub blanks_split : (bs : List ℕ) (m : ℕ) → m ≡ prefix_len (λ b. b == 32) bs → m + prefix_len is_blank (drop m bs)
    ≡ prefix_len is_blank bs
blanks_split [] m is = rw is refl
blanks_split (b ∷ bs) m is = elim (cases_Bool (b == 32)) [
  | inl space ↦
      let n = prefix_len (λ x. x == 32) bs in
      let some : prefix_len (λ x. x == 32) (b ∷ bs) ≡ 1 + n = rw space refl in
      rw (is ∙ some ∙ one_more n, space) (omega (arith, blanks_split bs n refl))
  | inr other ↦
      let none : prefix_len (λ x. x == 32) (b ∷ bs) ≡ 0 = rw other refl in
      rw (is ∙ none) (omega arith)
]
