-- The piece at a byte.
use Rattle.std.proofs.Common.{◌≡◌, ℕ, ◌+◌, ◌-◌, ◌<◌, ◌≤◌, List, [], ◌∷◌, Bool, true, false, not, ◌==◌, None, length}
use Rattle.std.proofs.Common.{take, drop, get_or, refl, sym, ap, ◌∙◌, subst, inl, inr, arith, slice_range, IsUtf8}
use Rattle.std.proofs.Common.{zero-add, get_or-take}
use Rattle.std.specs.List.{prefix_len, list_all}
use Rattle.std.specs.Str.{IsCharBoundary}
use Rattle.std.proofs.lemmas.Bool.{cases_lt}
use Rattle.std.proofs.lemmas.Bool.Decides.{nat_tests}
use Rattle.std.proofs.lemmas.List.{drop-drop, length-take-le}
use Rattle.std.proofs.lemmas.List.Sums.{prefix_len-le-length, prefix_len_passes, prefix_len_stops}
use Rattle.std.proofs.lemmas.Str.{IsUtf8-drop, IsCharBoundary-from_rest, IsCharBoundary-before_ascii}
use Rattle.std.proofs.lemmas.Str.{IsCharBoundary-end, IsCharBoundary-after_ascii}
use Rattle.pc_token.specs.Context.{LexicalContext}
use Rattle.pc_token.specs.Faults.{IsBadTab}
use Rattle.pc_token.specs.Gaps.{is_blank, is_line_byte, starts_line_end, ends_line}
use Rattle.pc_token.specs.Internal.LineReading.{GoesTo}
use Rattle.pc_token.specs.Splitting.{Sort, Blanks, Comment, LineEnd, FitsBySort}
use Rattle.pc_token.proofs.Boundaries.{IsCharBoundary-ascii_run}
use Rattle.pc_token.proofs.Runs.{front_passes, stops, stops_at, some_pass}

module _ (text : List ℕ) (at len : ℕ) where
  -- the piece of some bytes from here on
  pub piece_from : slice_range text at (at + len) ≡ take len (drop at text)
  piece_from = let n : at + len - at ≡ len = omega arith in ap (λ k. take k (drop at text)) n

  -- the text after the piece
  pub rest_from : drop (at + len) text ≡ drop len (drop at text)
  rest_from = sym (drop-drop len at text)

module _ (c : LexicalContext) (text : List ℕ) (len : ℕ) (sort : Sort) where
  -- a piece of this length stands here
  pub goes : 0 < len → IsCharBoundary text (c.at + len) → FitsBySort c sort (take len (drop c.at text))
      (drop len (drop c.at text)) → GoesTo c text sort (c.at + len)
  goes some boundary fits = record {
    later = omega arith;
    boundary = boundary;
    fits = rw (piece_from text c.at len, rest_from text c.at len) fits;
  }

blank_ascii : (b : ℕ) → is_blank b ≡ true → b < 128
blank_ascii b h = grind (arith, nat_tests)

line_byte_ascii : (b : ℕ) → not (is_line_byte b) ≡ false → b < 128
line_byte_ascii b h = grind (arith, nat_tests)

line_byte_back : (b : ℕ) → not (is_line_byte b) ≡ false → is_line_byte b ≡ true
line_byte_back b h = grind (arith, nat_tests)

tab_is : (b : ℕ) → is_blank b ≡ true → (b == 32) ≡ false → b ≡ 9
tab_is b h g = grind (arith, nat_tests)

hash_no_line_byte : (b : ℕ) → b ≡ 35 → not (is_line_byte b) ≡ true
hash_no_line_byte b e = grind (arith, nat_tests)

wide_run : (p : ℕ → Bool) (bs : List ℕ) → ((c : ℕ) → p c ≡ false → c < 128) → IsCharBoundary bs (prefix_len p bs)
wide_run p bs ascii =
    elim (cases_lt (prefix_len p bs) (length bs)) [
      | inl within ↦ IsCharBoundary-before_ascii bs (prefix_len p bs) within
          (ascii (get_or bs (prefix_len p bs) 0) (prefix_len_stops p bs 0 within))
      | inr past ↦ subst (IsCharBoundary bs) (omega (arith, prefix_len-le-length p bs)) (IsCharBoundary-end bs)
    ]

module _ (c : LexicalContext) (text : List ℕ) (utf8 : IsUtf8 text) (boundary : IsCharBoundary text c.at) where
  pub later_boundary : (len : ℕ) → IsCharBoundary (drop c.at text) len → IsCharBoundary text (c.at + len)
  later_boundary len h = IsCharBoundary-from_rest text c.at len boundary.0 h

  -- a comment stands at a hash
  pub comment_here : 0 < length (drop c.at text) → get_or (drop c.at text) 0 0 ≡ 35
      → GoesTo c text Comment (c.at + prefix_len (λ b. not (is_line_byte b)) (drop c.at text))
  comment_here some hash =
      let p : ℕ → Bool = λ b. not (is_line_byte b) in
      let t = drop c.at text in
      let n = prefix_len p t in
      let more = some_pass p t (hash_no_line_byte (get_or t 0 0) hash) some in
      goes c text n Comment more (later_boundary n (wide_run p t line_byte_ascii))
      (record {
        hash = get_or-take n t 0 0 more ∙ hash;
        inside = front_passes p t n (omega arith);
        all = elim (stops p t) [
          | inl nothing ↦ inl nothing
          | inr other ↦
              inr (line_byte_back (get_or (drop n t) 0 0) other)
        ];
      })

  -- all spaces, where there are as many as blanks
  spaces_alone : (n m : ℕ) → n ≤ m → m ≡ prefix_len (λ b. b == 32) (drop c.at text)
      → list_all (λ b. b == 32) (take n (drop c.at text)) ≡ true
  spaces_alone n m h e = front_passes (λ b. b == 32) (drop c.at text) n (omega arith)

  -- spaces and tabs stand at one
  pub blanks_here : 0 < length (drop c.at text) → is_blank (get_or (drop c.at text) 0 0) ≡ true
      → (c.last ≡ None → ends_line (drop (prefix_len is_blank (drop c.at text)) (drop c.at text)) ≡ false
      → prefix_len is_blank (drop c.at text) ≤ prefix_len (λ b. b == 32) (drop c.at text))
      → GoesTo c text Blanks (c.at + prefix_len is_blank (drop c.at text))
  blanks_here some blank fresh =
      let t = drop c.at text in
      let n = prefix_len is_blank t in
      let more = some_pass is_blank t blank some in
      goes c text n Blanks more (later_boundary n (IsCharBoundary-ascii_run is_blank t
      (IsUtf8-drop text c.at utf8 boundary) blank_ascii)) (
        record {
          some = λ none. let len = length-take-le n t (prefix_len-le-length is_blank t) in omega arith;
          blank = front_passes is_blank t n (omega arith);
          all = stops_at is_blank t refl;
        },
        λ none more_. spaces_alone n (prefix_len (λ b. b == 32) t) (fresh none more_) refl,
      )

-- a tab among the spaces at the front of a line that goes on
pub bad_tab : (c : LexicalContext) (text : List ℕ) → c.last ≡ None → prefix_len (λ b. b == 32) text < prefix_len
    is_blank text
    → ends_line (drop (prefix_len is_blank text) text) ≡ false → IsBadTab c text (prefix_len (λ b. b == 32) text)
bad_tab c text fresh fewer more =
    let n = prefix_len (λ b. b == 32) text in
    let len = prefix_len-le-length is_blank text in
    record {
      fresh = fresh;
      spaces = front_passes (λ b. b == 32) text n (omega arith);
      within = omega arith;
      tab = tab_is (get_or text n 0) (prefix_len_passes is_blank text n 0 fewer)
          (prefix_len_stops (λ b. b == 32) text 0 (omega arith));
      more = more;
    }

front_one : (text : List ℕ) (b : ℕ) → 0 < length text → get_or text 0 0 ≡ b → take 1 text ≡ b ∷ []
front_one [] b some e = absurd (omega arith)
front_one (x ∷ xs) b some e = ap (λ n. n ∷ []) e

front_two : (text : List ℕ) (b d : ℕ) → 1 < length text → get_or text 0 0 ≡ b → get_or text 1 0 ≡ d
    → take 2 text ≡ b ∷ d ∷ []
front_two [] b d some e f = absurd (omega arith)
front_two (x ∷ []) b d some e f = absurd (omega arith)
front_two (x ∷ y ∷ xs) b d some e f = ap (λ n. n ∷ y ∷ []) e ∙ ap (λ n. b ∷ n ∷ []) f

two_there : (text : List ℕ) (b : ℕ) → get_or text 1 0 ≡ b → 0 < b → 1 < length text
two_there [] b e h = absurd (omega arith)
two_there (x ∷ []) b e h = absurd (omega arith)
two_there (x ∷ y ∷ xs) b e h = omega arith

module _ (c : LexicalContext) (text : List ℕ) (utf8 : IsUtf8 text) (boundary : IsCharBoundary text c.at) where
  -- a line feed ends a line
  pub line_feed_here : 0 < length (drop c.at text) → get_or (drop c.at text) 0 0 ≡ 10 → GoesTo c text LineEnd (c.at + 1)
  line_feed_here some here =
      let t = drop c.at text in
      let u = IsUtf8-drop text c.at utf8 boundary in
      let b : IsCharBoundary t (0 + 1) = IsCharBoundary-after_ascii t 0 u some (omega arith) in
      goes c text 1 LineEnd (omega arith) (later_boundary c text utf8 boundary 1 (rw zero-add at b))
      (inl (front_one t 10 some here))

  -- a line feed after a carriage return ends the line
  pub carriage_return_here : get_or (drop c.at text) 0 0 ≡ 13 → get_or (drop c.at text) 1 0 ≡ 10
      → GoesTo c text LineEnd (c.at + 2)
  carriage_return_here here next =
      let t = drop c.at text in
      let u = IsUtf8-drop text c.at utf8 boundary in
      let some = two_there t 10 next (omega arith) in
      let b : IsCharBoundary t (1 + 1) = IsCharBoundary-after_ascii t 1 u some (omega arith) in
      goes c text 2 LineEnd (omega arith) (later_boundary c text utf8 boundary 2 b)
      (inr (front_two t 13 10 some here next))

-- a carriage return that ends a line is followed by a line feed
pub feed_next : (text : List ℕ) → starts_line_end text ≡ true → get_or text 0 0 ≡ 13 → get_or text 1 0 ≡ 10
feed_next text h e = grind (arith, nat_tests)
