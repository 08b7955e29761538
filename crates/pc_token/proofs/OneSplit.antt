-- A text has at most one split.
use Rattle.std.proofs.Common.{◌≡◌, ℕ, ◌<◌, ◌≤◌, List, [], ◌∷◌, ◌++◌, Bool, true, false, ◌==◌, Result, length, take}
use Rattle.std.proofs.Common.{drop}
use Rattle.std.proofs.Common.{get_or, refl, sym, ap, ◌∙◌, subst, inl, inr, arith, length-append}
use Rattle.std.specs.Char.{is_ascii_digit}
use Rattle.std.specs.List.{prefix_len}
use Rattle.std.proofs.lemmas.Bool.{cases_lt, false≢true}
use Rattle.std.proofs.lemmas.List.{append_cancel_left, take-append-drop, get_or-take, length-take-le}
use Rattle.std.proofs.lemmas.List.Sums.{prefix_len_stops}
use Rattle.std.proofs.Math.Seq.{drop-append_seam}
use Rattle.std.proofs.Math.ListN.{get_or-append}
use Rattle.pc_source.specs.declared.fault.Refusal.{Refusal}
use Rattle.pc_source.specs.declared.fault.RefusalCode.{RefusalCode}
use Rattle.pc_source.specs.declared.fault.RefusalCode.TheVariants.{S1, L1, L2, L3, L4, L5, L6, L7, L8}
use Rattle.pc_token.specs.declared.token.Operator.{Operator}
use Rattle.pc_token.specs.declared.token.TokenKind.{TokenKind}
use Rattle.pc_token.specs.declared.token.TokenKind.TheVariants as t
use Rattle.pc_token.specs.Context.{LexicalContext, line_start}
use Rattle.pc_token.specs.Faults.{IsFault, IsStray, IsBadString, IsBadDigits, IsBadName, IsBadClosing, IsBadOpening}
use Rattle.pc_token.specs.Faults.{IsBadTab, IsLongNumber}
use Rattle.pc_token.specs.Gaps.{is_blank, starts_line_end, ends_line, after_blanks, IsLineEnd}
use Rattle.pc_token.specs.Lexeme.{LogicalLine}
use Rattle.pc_token.specs.Names.{is_bad_name}
use Rattle.pc_token.specs.Numbers.{is_number_byte, is_bad_number, is_bad_point, number_run, after_number, digit_count}
use Rattle.pc_token.specs.Operators.{operator_text, role_of}
use Rattle.pc_token.specs.Spelling.{IsLongest}
use Rattle.pc_token.specs.Splitting.{Sort, Blanks, Comment, LineEnd, Lexical, Piece, FitsBySort, MayOpenOrClose, SplitEnd}
use Rattle.pc_token.specs.Splitting.{Whole, Faulty, Splits, after, items_of, at_sort, HasLines}
use Rattle.pc_token.proofs.Lists.{list_all-at}
use Rattle.pc_token.proofs.LongestNumber.{number_longest}
use Rattle.pc_token.proofs.OneFault.{one_fault, point_first, tab_start, role_there, operator_there, number_same}
use Rattle.pc_token.proofs.OneLongest.{one_longest}
use Rattle.pc_token.proofs.OnePiece.{one_piece, some_piece, text_start, first_of, first_blank, run_is, start_of_sort}
use Rattle.pc_token.proofs.OnePiece.{kind_no_gap}
use Rattle.pc_token.proofs.Starts.{Start, Blank, Quoted, Numeric, Wordy, Signed, start_of, quote_start, digit_start}
use Rattle.pc_token.proofs.Starts.{kind_start, operator_start, role_by_byte, role_is, some_token}

-- tests by which two starts, or two kinds, are told apart
abbrev quoted : Start → Bool
quoted Quoted = true
quoted _ = false

abbrev numeric : Start → Bool
numeric Numeric = true
numeric _ = false

abbrev wordy : Start → Bool
wordy Wordy = true
wordy _ = false

abbrev signed : Start → Bool
signed Signed = true
signed _ = false

abbrev a_name : TokenKind → Bool
a_name t.Name = true
a_name _ = false

module _ (c : LexicalContext) (bytes rest : List ℕ) where
  -- a refusal at this place begins as the piece does
  same_start : (sort : Sort) (st : Start) → FitsBySort c sort bytes rest → start_of (get_or (bytes ++ rest) 0 0) ≡ st
      → start_of_sort sort ≡ st
  same_start sort st h e = sym (text_start c sort bytes rest h) ∙ e

  first_here : (sort : Sort) → FitsBySort c sort bytes rest → get_or (bytes ++ rest) 0 0 ≡ get_or bytes 0 0
  first_here sort h = first_of bytes rest (some_piece c sort bytes rest h)

  feeds : IsLineEnd bytes → starts_line_end (bytes ++ rest) ≡ true
  feeds (inl e) = ap (λ x. starts_line_end (x ++ rest)) e
  feeds (inr e) = ap (λ x. starts_line_end (x ++ rest)) e

  no_stray : (sort : Sort) → FitsBySort c sort bytes rest → IsStray (bytes ++ rest) → ⊥
  no_stray Blanks h s = let blank = ap is_blank (first_here Blanks h) ∙ first_blank bytes rest h.0 in let none =
      s.no_blank in cc
  no_stray Comment h s = s.no_comment (first_here Comment h ∙ h.hash)
  no_stray LineEnd h s = let feed = feeds h in let none = s.no_line_end in cc
  no_stray (Lexical kind) h s = s.no_token kind bytes rest refl h.0.token

  no_string : (sort : Sort) → FitsBySort c sort bytes rest → IsBadString c (bytes ++ rest) → ⊥
  no_string (Lexical t.Str) h (quote, inl none) = none bytes rest refl h.0.token
  no_string (Lexical t.Str) h (quote, inr (inl touches)) = let apart = h.1.0 in cc
  no_string (Lexical t.Str) h (quote, inr (inr tripled)) = let once = h.1.1 in cc
  no_string sort h f = false≢true (ap quoted (same_start sort Quoted h (quote_start (get_or (bytes ++ rest) 0 0) f.0)))

  no_digit : (sort : Sort) → FitsBySort c sort bytes rest → is_ascii_digit (get_or (bytes ++ rest) 0 0) ≡ true
      → is_bad_number (bytes ++ rest) ≡ true → ⊥
  no_digit (Lexical t.Int) h digit bad = let good = h.1.0 in cc
  no_digit sort h digit bad = false≢true (ap numeric
      (same_start sort Numeric h (digit_start (get_or (bytes ++ rest) 0 0) digit)))

  no_point : (sort : Sort) → FitsBySort c sort bytes rest → is_bad_point (bytes ++ rest) ≡ true → ⊥
  no_point (Lexical (t.Operator x)) h point = let good = h.1.1 in cc
  no_point (Lexical t.Newline) h point = h.0.token
  no_point (Lexical t.Indent) h point = h.0.token
  no_point (Lexical t.Dedent) h point = h.0.token
  no_point (Lexical t.End) h point = h.0.token
  no_point sort h point = false≢true (ap signed
      (same_start sort Signed h (ap start_of (point_first (bytes ++ rest) point))))

  no_digits : (sort : Sort) → FitsBySort c sort bytes rest → IsBadDigits (bytes ++ rest) → ⊥
  no_digits sort h (inl (digit, bad)) = no_digit sort h digit bad
  no_digits sort h (inr point) = no_point sort h point

  name_start : (name more : List ℕ) → bytes ++ rest ≡ name ++ more → IsLongest t.Name name more
      → start_of (get_or (bytes ++ rest) 0 0) ≡ Wordy
  name_start name more e longest =
      let token = longest.token in
      ap (λ x. start_of (get_or x 0 0)) e ∙ ap start_of (first_of name more (some_token t.Name name token))
      ∙ kind_start t.Name name token

  no_name : (sort : Sort) → FitsBySort c sort bytes rest → IsBadName c (bytes ++ rest) → ⊥
  no_name (Lexical t.Name) h (name, more, e, longest, bad) =
      let same = (one_longest t.Name t.Name bytes name rest more e h.0 longest).1 in
      let good : is_bad_name c.last name ≡ false = ap (is_bad_name c.last) (sym same) ∙ h.1 in cc
  no_name (Lexical kind) h (name, more, e, longest, bad) = false≢true (ap a_name
      (one_longest kind t.Name bytes name rest more e h.0 longest).0)
  no_name sort h (name, more, e, longest, bad) = false≢true (ap wordy
      (same_start sort Wordy h (name_start name more e longest)))

  signed_start : (x : Operator) (more : List ℕ) → bytes ++ rest ≡ operator_text x ++ more
      → start_of (get_or (bytes ++ rest) 0 0) ≡ Signed
  signed_start x more e = ap start_of (operator_there (bytes ++ rest) x more e).1 ∙ operator_start x

  same_role : (x y : Operator) (more : List ℕ) → FitsBySort c (Lexical (t.Operator y)) bytes rest
      → bytes ++ rest ≡ operator_text x ++ more → role_of y ≡ role_of x
  same_role x y more h e =
      role_is y ∙ ap (λ z. role_by_byte (get_or z 0 0)) h.0.token
      ∙ ap role_by_byte (sym (first_here (Lexical (t.Operator y)) h)) ∙ role_there (bytes ++ rest) x more e

  no_bracket : (sort : Sort) (x : Operator) (more : List ℕ) → FitsBySort c sort bytes rest
      → bytes ++ rest ≡ operator_text x ++ more → (MayOpenOrClose (role_of x) c.brackets → ⊥) → ⊥
  no_bracket (Lexical (t.Operator y)) x more h e none = none (subst (λ role. MayOpenOrClose role c.brackets)
      (same_role x y more h e) h.1.0)
  no_bracket (Lexical t.Newline) x more h e none = h.0.token
  no_bracket (Lexical t.Indent) x more h e none = h.0.token
  no_bracket (Lexical t.Dedent) x more h e none = h.0.token
  no_bracket (Lexical t.End) x more h e none = h.0.token
  no_bracket sort x more h e none = false≢true (ap signed (same_start sort Signed h (signed_start x more e)))

  no_closing : (sort : Sort) → FitsBySort c sort bytes rest → IsBadClosing c (bytes ++ rest) → ⊥
  no_closing sort h (inl (none, some)) = some_piece c sort bytes rest h (omega (arith, length-append bytes rest))
  no_closing sort h (inr (x, opener, more, e, is, other)) = no_bracket sort x more h e
      (λ stands. other (rw is at stands))

  no_opening : (sort : Sort) → FitsBySort c sort bytes rest → IsBadOpening c (bytes ++ rest) → ⊥
  no_opening sort h (x, more, e, is, full) = no_bracket sort x more h e (λ stands. let few = rw is at stands in
      omega arith)

  blanks_len : FitsBySort c Blanks bytes rest → prefix_len is_blank (bytes ++ rest) ≡ length bytes
  blanks_len h = run_is is_blank bytes rest h.0.blank (inr h.0.all)

  blank_before : (k i : ℕ) → IsBadTab c (bytes ++ rest) k → i ≤ k → is_blank (get_or (bytes ++ rest) i 0) ≡ true
  blank_before k i f h = elim (cases_lt i k) [
    | inl low ↦
        let kept = get_or-take k (bytes ++ rest) i 0 low in
        let inside = f.within in
        let len = length-take-le k (bytes ++ rest) (omega arith) in
        let space = list_all-at (λ b. b == 32) (take k (bytes ++ rest)) i 0 (omega arith) f.spaces in
        ap is_blank (sym kept ∙ number_same (get_or (take k (bytes ++ rest)) i 0) 32 space)
    | inr high ↦ let same : i ≡ k = omega arith in ap (λ n. is_blank (get_or (bytes ++ rest) n 0)) same
        ∙ ap is_blank f.tab
  ]

  tab_inside : (k : ℕ) → FitsBySort c Blanks bytes rest → IsBadTab c (bytes ++ rest) k → k < length bytes
  tab_inside k h f = elim (cases_lt k (length bytes)) [
    | inl low ↦ low
    | inr high ↦
        let len = blanks_len h in
        let inside = f.within in
        let stop = prefix_len_stops is_blank (bytes ++ rest) 0 (omega arith) in
        let blank = blank_before k (prefix_len is_blank (bytes ++ rest)) f (omega arith) in
        let no : ⊥ = cc in absurd no
  ]

  no_tab : (sort : Sort) (k : ℕ) → FitsBySort c sort bytes rest → IsBadTab c (bytes ++ rest) k → ⊥
  no_tab Blanks k h f =
      let low = tab_inside k h f in
      let left : after_blanks (bytes ++ rest) ≡ rest = ap (λ n. drop n (bytes ++ rest)) (blanks_len h)
      ∙ drop-append_seam bytes rest in
      let spaces = h.1 f.fresh (ap ends_line (sym left) ∙ f.more) in
      let space = number_same (get_or bytes k 0) 32 (list_all-at (λ b. b == 32) bytes k 0 low spaces) in
      let tab : get_or bytes k 0 ≡ 9 = sym (get_or-append bytes rest 0 k low) ∙ f.tab in
      let no : ◌≡◌ {A = ℕ} 32 9 = sym space ∙ tab in omega (arith, no)
  no_tab Comment k h f = let same = same_start Comment Blank h (tab_start c (bytes ++ rest) k f) in cc
  no_tab LineEnd k h f = let same = same_start LineEnd Blank h (tab_start c (bytes ++ rest) k f) in cc
  no_tab (Lexical kind) k h f = (kind_no_gap kind).0 (same_start (Lexical kind) Blank h
      (tab_start c (bytes ++ rest) k f))

  no_long : (sort : Sort) → FitsBySort c sort bytes rest → IsLongNumber (bytes ++ rest) → ⊥
  no_long (Lexical t.Int) h (digit, good, many) =
      let same = (one_longest t.Int t.Int bytes (number_run (bytes ++ rest)) rest (after_number (bytes ++ rest))
      (sym (take-append-drop (prefix_len is_number_byte (bytes ++ rest)) (bytes ++ rest))) h.0
      (number_longest (bytes ++ rest) good)).1 in
      let few = h.1.1 in
      omega (arith, ap digit_count same)
  no_long sort h f = false≢true (ap numeric (same_start sort Numeric h (digit_start (get_or (bytes ++ rest) 0 0) f.0)))

  -- where a piece may stand no refusal stands
  pub no_fault : (sort : Sort) (code : RefusalCode) (k : ℕ) → FitsBySort c sort bytes rest
      → IsFault c (bytes ++ rest) code k → ⊥
  no_fault sort L1 k h f = no_stray sort h f.1
  no_fault sort L2 k h f = no_string sort h f.1
  no_fault sort L3 k h f = no_digits sort h f.1
  no_fault sort L4 k h f = no_name sort h f.1
  no_fault sort L5 k h f = no_closing sort h f.1
  no_fault sort L6 k h f = no_opening sort h f.1
  no_fault sort L7 k h f = no_tab sort k h f
  no_fault sort L8 k h f = no_long sort h f.1
  no_fault sort S1 k h f = f
  no_fault sort _ k h f = f

no_end_fault : (c : LexicalContext) (code : RefusalCode) (k : ℕ) → c.brackets ≡ [] → IsFault c [] code k → ⊥
no_end_fault c L1 k none f = f.1.some refl
no_end_fault c L2 k none f = let quote = f.1.0 in cc
no_end_fault c L3 k none (_, inl (digit, bad)) = cc
no_end_fault c L3 k none (_, inr point) = cc
no_end_fault c L4 k none (_, (name, more, e, longest, bad)) = some_token t.Name name longest.token
    (omega (arith, ap length e, length-append name more))
no_end_fault c L5 k none (_, inl (ended, some)) = some (ap length none)
no_end_fault c L5 k none (_, inr (x, opener, more, e, is, other)) = some_token (t.Operator x) (operator_text x) refl
    (omega (arith, ap length e, length-append (operator_text x) more))
no_end_fault c L6 k none (_, (x, more, e, is, full)) = some_token (t.Operator x) (operator_text x) refl
    (omega (arith, ap length e, length-append (operator_text x) more))
no_end_fault c L7 k none f = let within = f.within in omega arith
no_end_fault c L8 k none f = let digit = f.1.0 in cc
no_end_fault c S1 k none f = f
no_end_fault c _ k none f = f

-- the ways in which a text goes on give the same lines
pub one_split : (ps qs : List Piece) (c : LexicalContext) (text : List ℕ) (e f : SplitEnd) → Splits c ps text e
    → Splits c qs text f → items_of c ps e ≡ items_of c qs f
one_split [] [] c text Whole Whole h g = refl
one_split [] [] c text Whole (Faulty code k) h g =
    absurd (no_end_fault c code k h.1 (subst (λ x. IsFault c x code k) h.0 g))
one_split [] [] c text (Faulty code k) Whole h g =
    absurd (no_end_fault c code k g.1 (subst (λ x. IsFault c x code k) g.0 h))
one_split [] [] c text (Faulty code k) (Faulty other l) h g =
    let (codes, places) = one_fault c text code other k l h g in
    ap (λ x. items_of c [] (Faulty x k)) codes ∙ ap (λ n. items_of c [] (Faulty other n)) places
one_split [] (q ∷ qs) c text Whole f h (rest, e, fits, _) = absurd
    (some_piece c q.sort q.bytes rest fits (omega (arith, ap length (sym h.0 ∙ e), length-append q.bytes rest)))
one_split (p ∷ ps) [] c text e Whole (rest, d, fits, _) g = absurd
    (some_piece c p.sort p.bytes rest fits (omega (arith, ap length (sym g.0 ∙ d), length-append p.bytes rest)))
one_split [] (q ∷ qs) c text (Faulty code k) f h (rest, e, fits, _) =
    absurd (no_fault c q.bytes rest q.sort code k fits (subst (λ x. IsFault c x code k) e h))
one_split (p ∷ ps) [] c text e (Faulty code k) (rest, d, fits, _) g =
    absurd (no_fault c p.bytes rest p.sort code k fits (subst (λ x. IsFault c x code k) d g))
one_split (p ∷ ps) (q ∷ qs) c text e f (rest, d, fits, more) (rest', d', fits', more') =
    let (sorts, pieces) = one_piece c p.bytes q.bytes rest rest' (sym d ∙ d') p.sort q.sort fits fits' in
    let same : p ≡ q = ap (λ x. record { sort = x; bytes = p.bytes }) sorts
    ∙ ap (λ x. record { sort = q.sort; bytes = x }) pieces in
    let left : rest ≡ rest' = append_cancel_left q.bytes rest rest' (ap (λ x. x ++ rest) (sym pieces) ∙ sym d ∙ d') in
    let moved : Splits (after c q) ps rest' e = subst (λ x. Splits (after c q) ps x e) left
    (subst (λ x. Splits (after c x) ps rest e) same more) in
    ap (λ x. at_sort x.sort c (items_of (after c x) ps e)) same
    ∙ ap (at_sort q.sort c) (one_split ps qs (after c q) rest' e f moved more')

-- a text has at most one list of logical lines
pub one_list : (text : List ℕ) (xs ys : List (Result LogicalLine Refusal)) → HasLines text xs → HasLines text ys
    → xs ≡ ys
one_list text xs ys (ps, e, splits, is) (qs, f, splits', is') = sym is ∙ one_split ps qs (line_start 0) text e f splits
    splits' ∙ is'
