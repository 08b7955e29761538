-- An ASCII byte on a character boundary is a character, and decides whether it may begin or continue a name.
use Rattle.std.proofs.Common.{◌≡◌, ℕ, ◌+◌, ◌<◌, List, Bool, true, false, ◌||◌, ◌==◌, Option, Some, None, MatchOption}
use Rattle.std.proofs.Common.{drop, get_or, length, sym, ap, ◌∙◌, refl, inl, inr, arith, chars, IsUtf8}
use Rattle.std.specs.Prelude.{slice_get}
use Rattle.std.specs.Char.{is_ascii_alphabetic}
use Rattle.std.specs.List.{prefix_len}
use Rattle.std.specs.Option.{option_map_or}
use Rattle.std.specs.Str.{IsCharBoundary}
use Rattle.std.proofs.lemmas.List.{get_or_past, drop-drop}
use Rattle.std.proofs.lemmas.Str.{char_from_byte}
use Rattle.unicode_ident.specs.Ident.{is_xid_continue, is_xid_start}
use Rattle.unicode_ident.proofs.IdentLemmas.{is_xid_start-ascii, is_xid_continue-ascii}
use Rattle.pc_token.specs.Names.{begins_name, begins_word}
use Rattle.pc_token.specs.Internal.WordBytes.{is_word_byte}
use Rattle.pc_token.proofs.Characters.{char_here, no_char_here}
use Rattle.pc_token.proofs.Leads.{some_bytes}
use Rattle.pc_token.proofs.Runs.{stops_at}
use Rattle.pc_token.proofs.Slices.{first_from}

module _ (text : List ℕ) (at : ℕ) (utf8 : IsUtf8 text) (boundary : IsCharBoundary text at)
    (ascii : get_or text at 0 < 128) where
  same_char : (c : ℕ) → slice_get (chars (drop at text)) 0 ≡ Some c → c ≡ get_or text at 0
  same_char c here =
      let (rest, is) = char_here text at utf8 boundary c here in
      let first = first_from text at in
      char_from_byte (drop at text) rest c is (omega (arith, first)) (some_bytes c (drop at text) rest is) ∙ first

  name_begins : (o : Option ℕ) → slice_get (chars (drop at text)) 0 ≡ o → option_map_or begins_name o false
      ≡ (is_ascii_alphabetic (get_or text at 0) || get_or text at 0 == 95)
  name_begins None none =
      let nothing : get_or text at 0 ≡ 0 = get_or_past text at 0 (let end = no_char_here text at utf8 boundary none in
      omega arith) in
      rw nothing refl
  name_begins (Some c) here =
      let same = same_char c here in
      let low : c < 128 = omega (arith, same) in
      ap (λ x. x || c == 95) (is_xid_start-ascii c low) ∙ ap (λ x. is_ascii_alphabetic x || x == 95) same

  -- the byte decides whether the character begins a name
  pub ascii_begins : (is_ascii_alphabetic (get_or text at 0) || get_or text at 0 == 95) ≡ begins_word (drop at text)
  ascii_begins = sym (name_begins (slice_get (chars (drop at text)) 0) refl)

  no_more : is_word_byte (get_or text at 0) ≡ false → (o : Option ℕ) → slice_get (chars (drop at text)) 0 ≡ o
      → MatchOption o (length text ≡ at) (λ c. is_xid_continue c ≡ false)
  no_more other None none = no_char_here text at utf8 boundary none
  no_more other (Some c) here =
      let same = same_char c here in
      let low : c < 128 = omega (arith, same) in
      is_xid_continue-ascii c low ∙ ap is_word_byte same ∙ other

  -- one that may not continue a name ends it
  pub ascii_ends : is_word_byte (get_or text at 0) ≡ false → MatchOption (slice_get (chars (drop at text)) 0)
      (length text ≡ at) (λ c. is_xid_continue c ≡ false)
  ascii_ends other = no_more other (slice_get (chars (drop at text)) 0) refl

-- after the ASCII bytes of a name stands none
pub word_stops_at : (text : List ℕ) (start n : ℕ) → n ≡ prefix_len is_word_byte (drop start text)
    → is_word_byte (get_or text (start + n) 0) ≡ false
word_stops_at text start n is =
    let stop = stops_at is_word_byte (drop start text) refl in
    let moved : drop n (drop start text) ≡ drop (start + n) text = drop-drop n start text in
    ap is_word_byte (sym (first_from text (start + n)) ∙ ap (λ x. get_or x 0 0) (sym moved)) ∙ (rw is stop)
