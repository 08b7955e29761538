-- The result at a byte is a piece that fits there, or the refusal there.
use Rattle.std.proofs.Common.{◌≡◌, ℕ, ◌+◌, ◌-◌, ◌<◌, ◌≤◌, List, [], ◌∷◌, ◌++◌, Bool, true, false, ◌==◌, ◌⊎◌, Option}
use Rattle.std.proofs.Common.{Some, None, MatchOption, length, take, drop, get_or, refl, sym, ap, ◌∙◌, subst, inl, inr}
use Rattle.std.proofs.Common.{arith, lit<, slice_range, IsUtf8, chars, encode_utf8_all, append_assoc, length-append}
use Rattle.std.specs.Prelude.{encode_utf8, slice_get, find, bytes_eq, nat_eq, String, IsTrue, ◌↔◌, is_some}
use Rattle.std.specs.Global.{Box}
use Rattle.std.specs.declared.alloc.Global.{Global}
use Rattle.std.specs.List.{prefix_len, list_all, starts_with}
use Rattle.std.specs.Str.{IsCharBoundary}
use Rattle.std.specs.Char.{is_ascii_digit}
use Rattle.std.specs.Option.{option_map_or}
use Rattle.std.proofs.lemmas.Bool.{cases_lt}
use Rattle.std.proofs.lemmas.Bool.Decides.{nat_tests}
use Rattle.std.proofs.lemmas.List.{length-take-le, get_or-take, get_or_push, take-append-drop}
use Rattle.unicode_ident.specs.Ident.{is_xid_continue}
use Rattle.std.proofs.lemmas.Str.{IsUtf8-drop, IsCharBoundary-after_ascii, chars_past_char}
use Rattle.std.proofs.Math.Seq.{take-append_seam}
use Rattle.pc_source.specs.declared.fault.RefusalCode.{RefusalCode}
use Rattle.pc_source.specs.declared.fault.RefusalCode.TheVariants.{L1, L2, L4, L7}
use Rattle.pc_token.specs.declared.operators.Role.{Role}
use Rattle.pc_token.specs.declared.operators.Role.TheVariants.{Opens, Closes, Plain}
use Rattle.pc_token.specs.declared.token.Keyword.{Keyword}
use Rattle.pc_token.specs.declared.token.Operator.{Operator}
use Rattle.pc_token.specs.declared.token.Operator.TheVariants as o
use Rattle.pc_token.specs.declared.token.TokenKind.{TokenKind}
use Rattle.pc_token.specs.declared.token.TokenKind.TheVariants as t
use Rattle.pc_token.specs.Context.{LexicalContext, touches_word}
use Rattle.pc_token.specs.Faults.{IsFault, NoString}
use Rattle.pc_token.specs.Gaps.{is_blank, ends_line, starts_line_end}
use Rattle.pc_token.specs.Keywords.{keyword_text, keywords}
use Rattle.pc_token.specs.Lexeme.{form_of}
use Rattle.pc_token.specs.Names.{begins_name, begins_word, IsName, name_form, is_bad_name}
use Rattle.pc_token.specs.Numbers.{is_number_byte, is_bad_number, is_bad_point, digit_count}
use Rattle.pc_token.specs.Operators.{operator_text, operators, role_of}
use Rattle.pc_token.specs.Internal.LineReading.{GoesTo, IsNextToken, IsBracketFault}
use Rattle.pc_token.specs.Spelling.{IsToken, IsLongest}
use Rattle.pc_token.specs.Splitting.{Blanks, Lexical, MayOpenOrClose}
use Rattle.pc_token.specs.Strings.{is_quote, is_tripled, IsString}
use Rattle.pc_token.proofs.Boundaries.{number_boundary}
use Rattle.pc_token.proofs.Characters.{char_here}
use Rattle.pc_token.proofs.Leads.{lead_of, lead_name, is_letter}
use Rattle.pc_token.proofs.LongestNumber.{number_longest}
use Rattle.pc_token.proofs.LongestOperator.{no_operator}
use Rattle.pc_token.proofs.LongestString.{string_longest}
use Rattle.pc_token.proofs.LongestWord.{Stops, stops_there, name_is, word_longest, keyword_name, keyword_found}
use Rattle.pc_token.proofs.LongestWord.{no_keyword}
use Rattle.pc_token.proofs.Pieces.{goes, blanks_here, bad_tab, later_boundary}
use Rattle.pc_token.proofs.Runs.{some_pass}
use Rattle.pc_token.proofs.Slices.{first_from, split_at}

module _ (c : LexicalContext) (text bs : List ℕ) (at_rest : bs ≡ drop c.at text) (n m : ℕ)
    (blanks : n ≡ prefix_len is_blank bs) (spaces : m ≡ prefix_len (λ b. b == 32) bs) where
  blanks_same : n ≡ prefix_len is_blank (drop c.at text)
  blanks_same = blanks ∙ ap (prefix_len is_blank) at_rest

  spaces_same : m ≡ prefix_len (λ b. b == 32) (drop c.at text)
  spaces_same = spaces ∙ ap (prefix_len (λ b. b == 32)) at_rest

  ends_same : ends_line (drop n bs) ≡ ends_line (drop (prefix_len is_blank (drop c.at text)) (drop c.at text))
  ends_same = ap (λ k. ends_line (drop k bs)) blanks_same
      ∙ ap (λ x. ends_line (drop (prefix_len is_blank (drop c.at text)) x)) at_rest

  -- spaces and tabs
  pub blanks_read : IsUtf8 text → IsCharBoundary text c.at → 0 < length bs → is_blank (get_or text c.at 0) ≡ true
      → (c.last ≡ None → ends_line (drop n bs) ≡ false → n ≤ m) → GoesTo c text Blanks (c.at + n)
  blanks_read utf8 boundary some blank fresh =
      rw blanks_same (blanks_here c text utf8 boundary (rw at_rest at some) (ap is_blank (first_from text c.at) ∙ blank)
      (λ none more. let fewer = fresh none (ends_same ∙ more) in omega (arith, blanks_same, spaces_same)))

  -- a tab in an indentation
  pub tab_read : c.last ≡ None → m < n → ends_line (drop n bs) ≡ false → IsFault c (drop c.at text) L7 m
  tab_read none fewer more =
      rw spaces_same (bad_tab c (drop c.at text) none (omega (arith, blanks_same, spaces_same)) (sym ends_same ∙ more))

digit_passes : (b : ℕ) → is_ascii_digit b ≡ true → is_number_byte b ≡ true
digit_passes b h = grind (arith, nat_tests)

first_kept : (c : LexicalContext) (text : List ℕ) (p : ℕ → Bool) (v : Bool) → p (get_or text c.at 0) ≡ v
    → p (get_or (drop c.at text) 0 0) ≡ v
first_kept c text p v h = ap p (first_from text c.at) ∙ h

last_of : (q : ℕ) (body : List ℕ) → get_or (q ∷ (body ++ (q ∷ []))) (length body + 1) 0 ≡ q
last_of q body = get_or_push (q ∷ body) q 0 (length body + 1) (omega arith)

quote_ascii : (q : ℕ) → is_quote q ≡ true → q < 128
quote_ascii q h = grind (arith, nat_tests)

-- a string ends with an ASCII byte
string_end : (bs : List ℕ) (len : ℕ) → len ≤ length bs → IsString (take len bs) → (0 < len)
    × (get_or bs (len - 1) 0 < 128)
string_end bs len within (q, body, quote, h, is) =
    let n : length (take len bs) ≡ len = length-take-le len bs within in
    let m : length (take len bs) ≡ length body + 2 = ap length is ∙ (rw length-append (omega arith)) in
    let some : 0 < len = omega arith in
    let place : len - 1 ≡ length body + 1 = omega arith in
    let kept : get_or (take len bs) (len - 1) 0 ≡ get_or bs (len - 1) 0 = get_or-take len bs (len - 1) 0
    (omega arith) in
    let last : get_or bs (len - 1) 0 ≡ q = sym kept ∙ ap (λ x. get_or x (len - 1) 0) is
    ∙ ap (λ k. get_or (q ∷ (body ++ (q ∷ []))) k 0) place ∙ last_of q body in
    (some, (let low = quote_ascii q quote in omega arith))

after_ascii : (bs : List ℕ) (len : ℕ) → IsUtf8 bs → 0 < len → len ≤ length bs → get_or bs (len - 1) 0 < 128
    → IsCharBoundary bs len
after_ascii bs len utf8 some within low =
    let e : len - 1 + 1 ≡ len = omega arith in
    subst (IsCharBoundary bs) e (IsCharBoundary-after_ascii bs (len - 1) utf8 (omega arith) low)

module _ (c : LexicalContext) (text bs : List ℕ) (len : ℕ) (at_rest : bs ≡ drop c.at text) (utf8 : IsUtf8 text)
    (boundary : IsCharBoundary text c.at) where
  -- a string
  pub string_read : touches_word c ≡ false → is_tripled bs ≡ false → len ≤ length bs → IsString (take len bs)
      → IsNextToken c text (record { kind = t.Str; end = c.at + len; form = None })
  string_read apart once within string =
      let (some, low) = string_end bs len within string in
      let rest : drop c.at text ≡ bs = sym at_rest in
      let u = IsUtf8-drop text c.at utf8 boundary in
      record {
        piece = goes c text len (Lexical t.Str) some
            (later_boundary c text utf8 boundary len (rw rest (after_ascii bs len (rw rest at u) some within low)))
            (rw rest (string_longest (take len bs) (drop len bs) string, (apart, rw take-append-drop once)));
        form = refl;
      }

  -- a number
  pub number_read : 0 < length bs → is_ascii_digit (get_or text c.at 0) ≡ true → len ≡ prefix_len is_number_byte bs
      → is_bad_number (drop c.at text) ≡ false → digit_count (take len bs) ≤ 1000
      → IsNextToken c text (record { kind = t.Int; end = c.at + len; form = None })
  number_read there digit run good few =
      let rest : drop c.at text ≡ bs = sym at_rest in
      let u = IsUtf8-drop text c.at utf8 boundary in
      let fine : is_bad_number bs ≡ false = rw rest at good in
      let first : is_ascii_digit (get_or bs 0 0) ≡ true = ap (λ x. is_ascii_digit (get_or x 0 0)) at_rest
      ∙ first_kept c text is_ascii_digit true digit in
      let some = some_pass is_number_byte bs (digit_passes (get_or bs 0 0) first) there in
      let edge : IsCharBoundary bs len = rw run (number_boundary bs (rw rest at u)) in
      let longest : IsLongest t.Int (take len bs) (drop len bs) = rw run (number_longest bs fine) in
      record {
        piece = goes c text len (Lexical t.Int) (omega arith)
            (later_boundary c text utf8 boundary len (rw rest edge))
            (rw rest (longest, (rw take-append-drop fine, few)));
        form = refl;
      }

last_ascii : (x : Operator) → get_or (operator_text x) (length (operator_text x) - 1) 0 < 128
last_ascii o.Plus = lit< tt
last_ascii _ = lit< tt

some_text : (x : Operator) → 0 < length (operator_text x)
some_text o.Plus = lit< tt
some_text _ = lit< tt

-- an operator
pub operator_read : (c : LexicalContext) (text : List ℕ) (x : Operator) → IsUtf8 text → IsCharBoundary text c.at
    → drop c.at text ≡ operator_text x ++ drop (length (operator_text x)) (drop c.at text)
    → IsLongest (t.Operator x) (operator_text x) (drop (length (operator_text x)) (drop c.at text))
    → MayOpenOrClose (role_of x) c.brackets → is_bad_point (drop c.at text) ≡ false
    → IsNextToken c text (record { kind = t.Operator x; end = c.at + length (operator_text x); form = None })
operator_read c text x utf8 boundary front longest stands good =
    let bs = drop c.at text in
    let len = length (operator_text x) in
    let u = IsUtf8-drop text c.at utf8 boundary in
    let piece : take len bs ≡ operator_text x = ap (take len) front
    ∙ take-append_seam (operator_text x) (drop len bs) in
    let within : len ≤ length bs = omega (arith, ap length front, length-append (operator_text x) (drop len bs)) in
    let last : get_or bs (len - 1) 0 ≡ get_or (operator_text x) (len - 1) 0 =
    sym (get_or-take len bs (len - 1) 0 (omega (arith, some_text x))) ∙ ap (λ y. get_or y (len - 1) 0) piece in
    let low : get_or bs (len - 1) 0 < 128 = omega (arith, last_ascii x) in
    let whole : take len bs ++ drop len bs ≡ bs = take-append-drop len bs in
    record {
      piece = goes c text len (Lexical (t.Operator x)) (some_text x)
          (later_boundary c text utf8 boundary len (after_ascii bs len u (some_text x) within low))
          (subst (λ y. IsLongest (t.Operator x) y (drop len bs)) (sym piece) longest, (stands, rw whole good));
      form = refl;
    }

has_first : (o : Option ℕ) → option_map_or begins_name o false ≡ true → (c : ℕ) × (o ≡ Some c) × (begins_name c ≡ true)
has_first None h = let no : ⊥ = cc in absurd no
has_first (Some c) h = (c, refl, h)

module _ (c : LexicalContext) (text : List ℕ) (end : ℕ) (utf8 : IsUtf8 text) (boundary : IsCharBoundary text c.at)
    (edge : IsCharBoundary text end) (later : c.at ≤ end)
    (starts : begins_word (drop c.at text) ≡ true)
    (run : (cs : List ℕ) × (list_all is_xid_continue cs ≡ true) × (slice_range text c.at end ≡ encode_utf8_all cs))
    (all : MatchOption (slice_get (chars (drop end text)) 0) (length text ≡ end) (λ x. is_xid_continue x ≡ false)) where
  pub word_stops : Stops (drop end text)
  word_stops = stops_there (length text ≡ end) (drop end text) (IsUtf8-drop text end utf8 edge) all

  pub word_name : IsName (slice_range text c.at end)
  word_name =
      let (x, here, begins) = has_first (slice_get (chars (drop c.at text)) 0) starts in
      let (more, is) = char_here text c.at utf8 boundary x here in
      name_is (drop c.at text) (slice_range text c.at end) (drop end text) more run.0 x is begins run.1 run.2
      (split_at text c.at end later) word_stops

  word_later : c.at < end
  word_later =
      let lead = lead_name (slice_range text c.at end) word_name in
      elim (cases_lt c.at end) [
        | inl more ↦ more
        | inr none ↦
            let e : end - c.at ≡ 0 = omega arith in
            let nothing : slice_range text c.at end ≡ [] = ap (λ k. take k (drop c.at text)) e in
            let no : is_letter 0 ≡ true = rw nothing at lead in
            let bad : ⊥ = cc in absurd bad
      ]

  -- a keyword
  pub keyword_read : (k : Keyword) → find (λ x. bytes_eq (keyword_text x) (slice_range text c.at end)) keywords ≡ Some k
      → IsNextToken c text (record { kind = t.Keyword k; end = end; form = None })
  keyword_read k found = record {
    piece = record {
      later = word_later;
      boundary = edge;
      fits = (
        word_longest (t.Keyword k) (slice_range text c.at end) (drop end text) word_name
            (keyword_found (slice_range text c.at end) k found) word_stops,
        tt,
      );
    };
    form = refl;
  }

  name_longest : find (λ x. bytes_eq (keyword_text x) (slice_range text c.at end)) keywords ≡ None
      → IsLongest t.Name (slice_range text c.at end) (drop end text)
  name_longest none = word_longest t.Name (slice_range text c.at end) (drop end text) word_name
      (word_name, no_keyword (slice_range text c.at end) none) word_stops

  -- a name
  pub name_read : (form : Option (Box (String Global)))
      → find (λ x. bytes_eq (keyword_text x) (slice_range text c.at end)) keywords ≡ None
      → is_bad_name c.last (slice_range text c.at end) ≡ false
      → form_of (slice_range text c.at end) form ≡ name_form (slice_range text c.at end)
      → IsNextToken c text (record { kind = t.Name; end = end; form = form })
  name_read form none good is = record {
    piece = record { later = word_later; boundary = edge; fits = (name_longest none, good) };
    form = is;
  }

  -- a name where it may not stand
  pub bad_name_read : find (λ x. bytes_eq (keyword_text x) (slice_range text c.at end)) keywords ≡ None
      → is_bad_name c.last (slice_range text c.at end) ≡ true → IsFault c (drop c.at text) L4 0
  bad_name_read none bad = (
    refl,
    (
      slice_range text c.at end,
      drop end text,
      split_at text c.at end later,
      name_longest none,
      bad,
    ),
  )

no_word : (bs bytes rest : List ℕ) → IsUtf8 bs → begins_word bs ≡ false → bs ≡ bytes ++ rest → IsName bytes → ⊥
no_word bs bytes rest utf8 none e (x, xs, begins, goes, is) =
    let moved : (encode_utf8 x ++ encode_utf8_all xs) ++ rest ≡ encode_utf8 x ++ (encode_utf8_all xs ++ rest) =
    rw append_assoc in
    let first : slice_get (chars bs) 0 ≡ Some x = ap (λ y. slice_get y 0)
    (chars_past_char bs (encode_utf8_all xs ++ rest) x utf8 (e ∙ ap (λ y. y ++ rest) is ∙ moved)) in
    let found : begins_word bs ≡ true = rw first begins in cc

lead_kept : (p : ℕ → Bool) (bs bytes rest : List ℕ) → p 0 ≡ false → bs ≡ bytes ++ rest → p (get_or bs 0 0) ≡ false
    → p (get_or bytes 0 0) ≡ false
lead_kept p bs [] rest none e h = none
lead_kept p bs (x ∷ xs) rest none e h = ap (λ y. p (get_or y 0 0)) (sym e) ∙ h

no_token_here : (bs : List ℕ) → IsUtf8 bs → begins_word bs ≡ false → is_quote (get_or bs 0 0) ≡ false
    → is_ascii_digit (get_or bs 0 0) ≡ false
    → find (λ y. starts_with nat_eq bs (operator_text y)) operators ≡ None → (kind : TokenKind) (bytes rest : List ℕ)
    → bs ≡ bytes ++ rest → IsToken kind bytes → ⊥
no_token_here bs utf8 word quote digit operator t.Name bytes rest e h = no_word bs bytes rest utf8 word e h.0
no_token_here bs utf8 word quote digit operator t.Int bytes rest e h = let lead = lead_of t.Int bytes h in let no =
    lead_kept is_ascii_digit bs bytes rest refl e digit in cc
no_token_here bs utf8 word quote digit operator t.Str bytes rest e h = let lead = lead_of t.Str bytes h in let no =
    lead_kept is_quote bs bytes rest refl e quote in cc
no_token_here bs utf8 word quote digit operator (t.Keyword k) bytes rest e h = no_word bs bytes rest utf8 word e
    (subst IsName h (keyword_name k))
no_token_here bs utf8 word quote digit operator (t.Operator x) bytes rest e h = no_operator bs rest x operator
    (e ∙ ap (λ y. y ++ rest) (sym h))
no_token_here bs utf8 word quote digit operator t.Newline bytes rest e h = h
no_token_here bs utf8 word quote digit operator t.Indent bytes rest e h = h
no_token_here bs utf8 word quote digit operator t.Dedent bytes rest e h = h
no_token_here bs utf8 word quote digit operator t.End bytes rest e h = h

-- a character that begins nothing
pub stray_read : (c : LexicalContext) (text bs : List ℕ) → bs ≡ drop c.at text → IsUtf8 text → IsCharBoundary text c.at
    → 0 < length bs
    → is_blank (get_or text c.at 0) ≡ false → (get_or text c.at 0 ≡ 35 → ⊥) → starts_line_end (drop c.at text) ≡ false
    → is_quote (get_or text c.at 0) ≡ false → is_ascii_digit (get_or text c.at 0) ≡ false
    → begins_word (drop c.at text) ≡ false → find (λ y. starts_with nat_eq bs (operator_text y)) operators ≡ None
    → IsFault c (drop c.at text) L1 0
stray_read c text bs at_rest utf8 boundary some blank hash line quote digit word operator = (
  refl,
  record {
    some = λ none. let same = ap length at_rest in omega arith;
    no_blank = first_kept c text is_blank false blank;
    no_comment = λ e. hash (sym (first_from text c.at) ∙ e);
    no_line_end = line;
    no_quote = first_kept c text is_quote false quote;
    no_token = no_token_here (drop c.at text) (IsUtf8-drop text c.at utf8 boundary) word
        (first_kept c text is_quote false quote) (first_kept c text is_ascii_digit false digit)
        (rw at_rest at operator);
  },
)

-- a quote where no string may stand
pub bad_string_read : (c : LexicalContext) (text bs : List ℕ) → bs ≡ drop c.at text → is_quote (get_or text c.at 0)
    ≡ true
    → NoString bs ⊎ (touches_word c ≡ true) ⊎ (is_tripled bs ≡ true) → IsFault c (drop c.at text) L2 0
bad_string_read c text bs at_rest quote why = (
  refl,
  (
    first_kept c text is_quote true quote,
    subst (λ x. NoString x ⊎ (touches_word c ≡ true)
        ⊎ (is_tripled x ≡ true)) at_rest why,
  ),
)

-- a bracket where none may stand
pub bracket_read : (c : LexicalContext) (text : List ℕ) (x : Operator) (code : RefusalCode)
    → drop c.at text ≡ operator_text x ++ drop (length (operator_text x)) (drop c.at text)
    → (role : Role) → role_of x ≡ role → IsBracketFault role c.brackets code → IsFault c (drop c.at text) code 0
bracket_read c text x code front Opens is fault = rw fault.0 (
  refl,
  (x, drop (length (operator_text x)) (drop c.at text), front, is, fault.1),
)
bracket_read c text x code front (Closes opener) is fault = rw fault.0
    (refl, inr (x, opener, drop (length (operator_text x)) (drop c.at text), front, is, fault.1))
bracket_read c text x code front Plain is fault = absurd fault

-- where no bad tab is found there are as many spaces as blanks
pub not_fewer : (b : Bool) (m n : ℕ) (e : Bool) → (IsTrue b ↔ ((m < n) × (e ≡ false))) → b ≡ false → e ≡ false → n ≤ m
not_fewer b m n e is none more = elim (cases_lt m n) [
  | inl fewer ↦ let yes_ = is.1 (fewer, more) in let bad = rw none at yes_ in let no : ⊥ = cc in absurd no
  | inr enough ↦ enough
]

pub has_last : (o : Option TokenKind) → o ≡ None → is_some o ≡ true → ⊥
has_last o e h = let no : is_some {T = TokenKind} None ≡ true = rw e at h in cc
