-- The tokens of the lines of a text, each with the end of its line, are in order.
use Rattle.std.proofs.Common.{◌≡◌, ◌≤◌, ◌<◌, ◌+◌, ◌-◌, ℕ, suc, List, [], ◌∷◌, ◌++◌, length, map, true, false}
use Rattle.std.proofs.Common.{refl, sym, ap, ◌∙◌, subst, inl, inr, arith, length-append, append_assoc}
use Rattle.std.specs.List.{slice_get}
use Rattle.std.specs.Option.{option_map_or}
use Rattle.std.specs.Prelude.{Result, Ok, Err}
use Rattle.pc_source.specs.declared.fault.Refusal.{Refusal}
use Rattle.pc_token.specs.declared.token.Operator.{Operator}
use Rattle.pc_token.specs.Context.{LexicalContext, line_start, after_line_end, lexeme_at}
use Rattle.pc_token.specs.Gaps.{IsLineEnd}
use Rattle.pc_token.specs.Lexeme.{Lexeme, LogicalLine}
use Rattle.pc_token.specs.Splitting.{Sort, Blanks, Comment, LineEnd, Lexical, Piece, FitsBySort, after_sort, SplitEnd}
use Rattle.pc_token.specs.Splitting.{Whole, Faulty, Splits, close_line, items_from_line_end, at_sort}
use Rattle.pc_token.specs.Splitting.{items_of, HasLines}
use Rattle.pc_token.proofs.Starts.{some_token}
use Rattle.pc_layout.specs.Flat.{newline, written_line}
use Rattle.pc_layout.specs.Spelling.{last_byte}
use Rattle.pc_detail_rules.proofs.Spelled.Between.{is_of_line}
use Rattle.pc_detail_rules.proofs.Spelled.Between.{Between}
use Rattle.pc_detail_rules.proofs.Spelled.Feeds.{EndsWithin, ends_in_text, ends_by_feed}

-- ---- tokens between two bytes

pub lower : (from to : ℕ) (xs : List Lexeme) (high : ℕ) → from ≤ to → Between to xs high → Between from xs high
lower from to [] high le h = omega (arith, le, h)
lower from to (x ∷ xs) high le h = let low = h.0 in (omega (arith, le, low), h.1, h.2, h.3)

pub higher : (from : ℕ) (xs : List Lexeme) (to high : ℕ) → to ≤ high → Between from xs to → Between from xs high
higher from [] to high le h = omega (arith, le, h)
higher from (x ∷ xs) to high le h = (h.0, h.1, h.2, higher x.place.end xs to high le h.3)

pub append : (from : ℕ) (xs ys : List Lexeme) (at to : ℕ) → Between from xs at → Between at ys to
    → Between from (xs ++ ys) to
append from [] ys at to h g = lower from at ys to h g
append from (x ∷ xs) ys at to h g = (h.0, h.1, h.2, append x.place.end xs ys at to h.3 g)

same_last : (len : ℕ) (x y : Lexeme) (ys : List Lexeme) → last_byte len (x ∷ y ∷ ys) ≡ last_byte len (y ∷ ys)
same_last len x y ys = ap (last_at (x ∷ y ∷ ys)) first ∙ ap (last_at (y ∷ ys)) second
  where
    last_at : List Lexeme → ℕ → ℕ
    last_at xs i = option_map_or (λ (z : Lexeme). z.place.end) (slice_get xs i) len

    first : length (x ∷ y ∷ ys) - 1 ≡ suc (length ys)
    first = omega arith

    second : length ys ≡ length (y ∷ ys) - 1
    second = omega arith

-- the last byte of tokens between bytes
last_of : (len from : ℕ) (x : Lexeme) (xs : List Lexeme) (to : ℕ) → Between from (x ∷ xs) to
    → Between from (x ∷ xs) (last_byte len (x ∷ xs)) × (last_byte len (x ∷ xs) ≤ to)
last_of len from x [] to h = ((h.0, h.1, h.2, omega arith), h.3)
last_of len from x (y ∷ ys) to h =
    let r = last_of len x.place.end y ys to h.3 in
    let e = sym (same_last len x y ys) in (
      (h.0, h.1, h.2, subst (Between x.place.end (y ∷ ys)) e r.0),
      subst (λ (n : ℕ). n ≤ to) e r.1,
    )

module _ (text : List ℕ) where
  -- each line has a token, and its tokens and its end stand behind those of the line before
  abbrev pub LinesApart : ℕ → List LogicalLine → Type 0
  LinesApart from [] = from ≤ length text
  LinesApart from (l ∷ ls) = (0 < length l.lexemes) × (next : ℕ) × Between from (written_line text l.lexemes) next
      × LinesApart next ls

  pub apart_lower : (from to : ℕ) (ls : List LogicalLine) → from ≤ to → LinesApart to ls → LinesApart from ls
  apart_lower from to [] le h = omega (arith, le, h)
  apart_lower from to (l ∷ ls) le h = (h.0, h.1, lower from to (written_line text l.lexemes) h.1 le h.2, h.3)

  -- a line and its end
  with_end : (from to next : ℕ) (x : Lexeme) (xs : List Lexeme) → Between from (x ∷ xs) to
      → ((byte : ℕ) → byte ≤ to → EndsWithin text byte next) → Between from (written_line text (x ∷ xs)) next
  with_end from to next x xs h end =
      let r = last_of (length text) from x xs to h in
      let last = last_byte (length text) (x ∷ xs) in
      let e = end last r.1 in
      append from (x ∷ xs) (newline text (x ∷ xs) ∷ []) last next r.0 (e.low, e.order, no_line, e.high)
    where
      no_line : is_of_line (newline text (x ∷ xs)).kind ≡ true
          → (newline text (x ∷ xs)).place.start < (newline text (x ∷ xs)).place.end
      no_line f = absurd (no f)
        where
          no : false ≡ true → ⊥
          no g = cc

  abbrev Items : Type 0
  Items = List (Result LogicalLine Refusal)

  line_same : (l m : LogicalLine) (xs ys : Items) → Ok l ∷ xs ≡ Ok m ∷ ys → l ≡ m
  line_same l m xs ys e = cc

  others_same : (l m : LogicalLine) (xs ys : Items) → Ok l ∷ xs ≡ Ok m ∷ ys → xs ≡ ys
  others_same l m xs ys e = cc

  -- the line that ends here, if it has a token, ahead of others
  closed : (start from to next : ℕ) (done : List Lexeme) (items : Items) → Between from done to → to ≤ next
      → ((byte : ℕ) → byte ≤ to → EndsWithin text byte next)
      → ((ls : List LogicalLine) → items ≡ map Ok ls → LinesApart next ls) →
      (ls : List LogicalLine) → close_line start done items ≡ map Ok ls → LinesApart from ls
  closed start from to next [] items h le end rest ls e = apart_lower from next ls (omega (arith, h, le)) (rest ls e)
  closed start from to next (x ∷ xs) items h le end rest [] e = absurd (cc e)
  closed start from to next (x ∷ xs) items h le end rest (l ∷ ls) e =
      let line : LogicalLine = record { column = x.place.start - start; lexemes = x ∷ xs } in
      subst (λ (m : LogicalLine). LinesApart from (m ∷ ls)) (line_same line l items (map Ok ls) e)
      (omega arith, next, with_end from to next x xs h end, rest ls (others_same line l items (map Ok ls) e))

  -- facts about the lines after a piece
  abbrev Behind : List Lexeme → ℕ → Items → Type 0
  Behind done at items = (from : ℕ) → Between from done at → (ls : List LogicalLine) → items ≡ map Ok ls
      → LinesApart from ls

  by_brackets : (brackets : List Operator) (c : LexicalContext) (bytes : List ℕ) (items : Items)
      → ((byte : ℕ) → byte ≤ c.at → EndsWithin text byte (c.at + length bytes))
      → Behind (after_line_end brackets c bytes).done (after_line_end brackets c bytes).at items →
      Behind c.done c.at (items_from_line_end brackets c items)
  by_brackets [] c bytes items end behind from h ls e =
      let next : ℕ = c.at + length bytes in
      let same : next ≤ next = omega arith in
      closed c.start from c.at next c.done items h (omega arith) end (λ ms f. behind next same ms f) ls e
  by_brackets (b ∷ bs) c bytes items end behind from h ls e = behind from
      (higher from c.done c.at (c.at + length bytes) (omega arith) h) ls e

  -- a line end in the text
  ends : (before bytes rest : List ℕ) → text ≡ before ++ (bytes ++ rest) → IsLineEnd bytes → (byte : ℕ)
      → byte ≤ length before → EndsWithin text byte (length before + length bytes)
  ends before bytes rest e (inl one) byte le =
      subst (λ (bs : List ℕ). EndsWithin text byte (length before + length bs)) (sym one)
      (ends_by_feed text before rest byte (e ∙ ap (λ (bs : List ℕ). before ++ (bs ++ rest)) one) le)
  ends before bytes rest e (inr two) byte le =
      subst (λ (bs : List ℕ). EndsWithin text byte (length before + length bs)) (sym two)
      (subst (EndsWithin text byte) length_is
      (ends_by_feed text (before ++ 13 ∷ []) rest byte
      (e ∙ ap (λ (bs : List ℕ). before ++ (bs ++ rest)) two ∙ sym (append_assoc before (13 ∷ []) (10 ∷ rest))) by))
    where
      length_is : length (before ++ 13 ∷ []) + 1 ≡ length before + 2
      length_is = let a = length-append before (13 ∷ []) in omega (arith, a)

      by : byte ≤ length (before ++ 13 ∷ [])
      by = let a = length-append before (13 ∷ []) in omega (arith, a, le)

  -- a token behind others
  push : (from : ℕ) (xs : List Lexeme) (to : ℕ) (x : Lexeme) → to ≤ x.place.start → x.place.start < x.place.end
      → Between from xs to → Between from (xs ++ x ∷ []) x.place.end
  push from xs to x le lt h =
      append from xs (x ∷ []) to x.place.end h (le, omega (arith, lt), (λ f. lt), omega arith)

  by_sort : (sort : Sort) (c : LexicalContext) (before bytes rest : List ℕ) (items : Items)
      → text ≡ before ++ (bytes ++ rest) → length before ≡ c.at → FitsBySort c sort bytes rest
      → Behind (after_sort c sort bytes).done (after_sort c sort bytes).at items →
      Behind c.done c.at (at_sort sort c items)
  by_sort Blanks c before bytes rest items t at fits behind from h ls e = behind from
      (higher from c.done c.at (c.at + length bytes) (omega arith) h) ls e
  by_sort Comment c before bytes rest items t at fits behind from h ls e = behind from
      (higher from c.done c.at (c.at + length bytes) (omega arith) h) ls e
  by_sort LineEnd c before bytes rest items t at fits behind from h ls e =
      by_brackets c.brackets c bytes items
      (λ byte le. subst (λ (n : ℕ). EndsWithin text byte (n + length bytes)) at
      (ends before bytes rest t fits byte (omega (arith, at, le))))
      behind from h ls e
  by_sort (Lexical kind) c before bytes rest items t at fits behind from h ls e =
      let some : length bytes ≡ 0 → ⊥ = some_token kind bytes fits.0.token in
      behind from (push from c.done c.at (lexeme_at c.at kind bytes) (omega arith) (omega arith) h) ls e

  no_lines : (ls : List LogicalLine) → (λ (xs : Items). xs) [] ≡ map Ok ls → LinesApart (length text) ls
  no_lines [] e = omega arith
  no_lines (l ∷ ls) e = absurd (cc e)

  abbrev refused : Refusal → Items
  refused r = Err r ∷ []

  no_refusal : (r : Refusal) (ls : List LogicalLine) → refused r ≡ map Ok ls → ⊥
  no_refusal r [] e = cc
  no_refusal r (l ∷ ls) e = cc

  place_after : (sort : Sort) (c : LexicalContext) (bytes : List ℕ) → (after_sort c sort bytes).at ≡ c.at + length bytes
  place_after Blanks c bytes = refl
  place_after Comment c bytes = refl
  place_after LineEnd c bytes = go c.brackets
    where
      go : (brackets : List Operator) → (after_line_end brackets c bytes).at ≡ c.at + length bytes
      go [] = refl
      go (b ∷ bs) = refl
  place_after (Lexical kind) c bytes = refl

  walk : (ps : List Piece) (c : LexicalContext) (before here : List ℕ) (ending : SplitEnd) → Splits c ps here ending
      → text ≡ before ++ here → length before ≡ c.at → Behind c.done c.at (items_of c ps ending)
  walk [] c before here Whole s t at from h ls e =
      let a = length-append before here in
      let b = ap length t in
      let z = ap length s.0 in
      let whole : c.at ≤ length text = omega (arith, a, b, at) in
      let none : length text ≤ c.at = omega (arith, a, b, z, at) in
      closed c.start from c.at (length text) c.done [] h whole
      (λ byte le. ends_in_text text byte (omega (arith, le, whole))) (λ ms f. no_lines ms f) ls e
  walk [] c before here (Faulty code k) s t at from h ls e =
      absurd (no_refusal (record { code = code; byte = c.at + k }) ls e)
  walk (p ∷ ps) c before here ending s t at from h ls e =
      let text_is : text ≡ before ++ (p.bytes ++ s.0) = t ∙ ap (λ (bs : List ℕ). before ++ bs) s.1 in
      let longer = length-append before p.bytes in
      let after = place_after p.sort c p.bytes in
      by_sort p.sort c before p.bytes s.0 (items_of (after_sort c p.sort p.bytes) ps ending) text_is at s.2
      (walk ps (after_sort c p.sort p.bytes) (before ++ p.bytes) s.0 ending s.3
      (text_is ∙ sym (append_assoc before p.bytes s.0)) (omega (arith, longer, after, at))) from h ls e

  -- the lines of a text
  pub lines_apart : (ls : List LogicalLine) → HasLines text (map Ok ls) → LinesApart 0 ls
  lines_apart ls (ps, ending, s, e) =
      walk ps (line_start 0) [] text ending s refl refl 0 (omega arith) ls e
