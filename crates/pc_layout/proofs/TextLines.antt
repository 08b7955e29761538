-- The logical lines of a text are in order: each has a token, and each token begins at or after the end of the one
-- before.
use Rattle.std.proofs.Common.{◌≡◌, ℕ, ◌+◌, ◌-◌, ◌<◌, ◌≤◌, List, [], ◌∷◌, ◌++◌, length, map, refl, subst, arith}
use Rattle.std.specs.Prelude.{Result, Ok, Err}
use Rattle.pc_source.specs.declared.fault.Refusal.{Refusal}
use Rattle.pc_token.specs.declared.token.Operator.{Operator}
use Rattle.pc_token.specs.declared.token.TokenKind.{TokenKind}
use Rattle.pc_token.specs.Context.{LexicalContext, line_start, after_line_end, lexeme_at}
use Rattle.pc_token.specs.Lexeme.{Lexeme, LogicalLine}
use Rattle.pc_token.specs.Splitting.{Sort, Blanks, Comment, LineEnd, Lexical, Piece, FitsBySort, after_sort, SplitEnd}
use Rattle.pc_token.specs.Splitting.{Whole, Faulty, Splits, close_line, items_from_line_end, at_sort, items_of, HasLines}
use Rattle.pc_token.proofs.Starts.{some_token}
use Rattle.pc_layout.specs.Layouts.{StandInOrder, all_lexemes, HaveTokens, AreInOrder}

-- tokens stand one after the other from a byte on, and end by another one
abbrev StandBetween : ℕ → List Lexeme → ℕ → Type 0
StandBetween from [] to = from ≤ to
StandBetween from (x ∷ xs) to = (from ≤ x.place.start) × (x.place.start < x.place.end) × StandBetween x.place.end xs to

later : (from : ℕ) (xs : List Lexeme) (to end : ℕ) → to ≤ end → StandBetween from xs to → StandBetween from xs end
later from [] to end le h = omega arith
later from (x ∷ xs) to end le h = (h.0, h.1, later x.place.end xs to end le h.2)

push : (from : ℕ) (xs : List Lexeme) (to : ℕ) (x : Lexeme) → to ≤ x.place.start → x.place.start < x.place.end
    → StandBetween from xs to → StandBetween from (xs ++ x ∷ []) x.place.end
push from [] to x le lt h = (omega arith, lt, omega arith)
push from (y ∷ ys) to x le lt h = (h.0, h.1, push y.place.end ys to x le lt h.2)

lower : (from to : ℕ) (xs : List Lexeme) → from ≤ to → StandInOrder to xs → StandInOrder from xs
lower from to [] le h = tt
lower from to (x ∷ xs) le h = (let at = h.0 in omega arith, h.1, h.2)

join : (from : ℕ) (xs ys : List Lexeme) (to : ℕ) → StandBetween from xs to → StandInOrder to ys
    → StandInOrder from (xs ++ ys)
join from [] ys to h k = lower from to ys h k
join from (x ∷ xs) ys to h k = (h.0, h.1, join x.place.end xs ys to h.2 k)

record Ordered (from : ℕ) (ls : List LogicalLine) : Type 0 where
  tokens : HaveTokens ls
  order : StandInOrder from (all_lexemes ls)

abbrev Items : Type 0
Items = List (Result LogicalLine Refusal)

-- a line ahead of others
ahead : (from to : ℕ) (l : LogicalLine) (ls : List LogicalLine) → 0 < length l.lexemes → StandBetween from l.lexemes to
    → Ordered to ls → Ordered from (l ∷ ls)
ahead from to l ls some h rest = record {
  tokens = (some, rest.tokens);
  order = join from l.lexemes (all_lexemes ls) to
      h rest.order;
}

line_same : (l m : LogicalLine) (xs ys : Items) → Ok l ∷ xs ≡ Ok m ∷ ys → l ≡ m
line_same l m xs ys e = cc

others_same : (l m : LogicalLine) (xs ys : Items) → Ok l ∷ xs ≡ Ok m ∷ ys → xs ≡ ys
others_same l m xs ys e = cc

-- the line that ends here, if it has a token, ahead of others that stand in order after it
closed : (start from to : ℕ) (done : List Lexeme) (items : Items) → StandBetween from done to
    → ((ls : List LogicalLine) → items ≡ map Ok ls → Ordered to ls) →
    (ls : List LogicalLine) → close_line start done items ≡ map Ok ls → Ordered from ls
closed start from to [] items h rest ls e = let r = rest ls e in
    record { tokens = r.tokens; order = lower from to (all_lexemes ls) h r.order }
closed start from to (x ∷ xs) items h rest [] e = cc
closed start from to (x ∷ xs) items h rest (l ∷ ls) e =
    let line : LogicalLine = record { column = x.place.start - start; lexemes = x ∷ xs } in
    subst (λ (m : LogicalLine). Ordered from (m ∷ ls)) (line_same line l items (map Ok ls) e)
    (ahead from to line ls (omega arith) h (rest ls (others_same line l items (map Ok ls) e)))

-- facts about the lines after a piece
abbrev Behind : List Lexeme → ℕ → Items → Type 0
Behind done at items = (from : ℕ) → StandBetween from done at → (ls : List LogicalLine) → items ≡ map Ok ls
    → Ordered from ls

by_brackets : (brackets : List Operator) (c : LexicalContext) (bytes : List ℕ) (items : Items)
    → Behind (after_line_end brackets c bytes).done (after_line_end brackets c bytes).at items →
    Behind c.done c.at (items_from_line_end brackets c items)
by_brackets [] c bytes items behind from h ls e = closed c.start from c.at c.done items h
    (λ ms f. behind c.at (omega arith) ms f) ls e
by_brackets (b ∷ bs) c bytes items behind from h ls e = behind from
    (later from c.done c.at (c.at + length bytes) (omega arith) h) ls e

by_sort : (sort : Sort) (c : LexicalContext) (bytes rest : List ℕ) (items : Items) → FitsBySort c sort bytes rest
    → Behind (after_sort c sort bytes).done (after_sort c sort bytes).at items →
    Behind c.done c.at (at_sort sort c items)
by_sort Blanks c bytes rest items fits behind from h ls e = behind from
    (later from c.done c.at (c.at + length bytes) (omega arith) h) ls e
by_sort Comment c bytes rest items fits behind from h ls e = behind from
    (later from c.done c.at (c.at + length bytes) (omega arith) h) ls e
by_sort LineEnd c bytes rest items fits behind from h ls e = by_brackets c.brackets c bytes items behind from h ls e
by_sort (Lexical kind) c bytes rest items fits behind from h ls e =
    let some : length bytes ≡ 0 → ⊥ = some_token kind bytes fits.0.token in
    behind from (push from c.done c.at (lexeme_at c.at kind bytes) (omega arith) (omega arith) h) ls e

abbrev no_items : Items
no_items = []

no_lines : (ls : List LogicalLine) → no_items ≡ map Ok ls → (to : ℕ) → Ordered to ls
no_lines [] e to = record { tokens = tt; order = tt }
no_lines (l ∷ ls) e to = cc

abbrev refused : Refusal → Items
refused r = Err r ∷ []

no_refusal : (r : Refusal) (ls : List LogicalLine) → refused r ≡ map Ok ls → ⊥
no_refusal r [] e = cc
no_refusal r (l ∷ ls) e = cc

walk : (ps : List Piece) (c : LexicalContext) (text : List ℕ) (ending : SplitEnd) → Splits c ps text ending
    → Behind c.done c.at (items_of c ps ending)
walk [] c text Whole s from h ls e = closed c.start from c.at c.done [] h (λ ms f. no_lines ms f c.at) ls e
walk [] c text (Faulty code k) s from h ls e = absurd (no_refusal (record { code = code; byte = c.at + k }) ls e)
walk (p ∷ ps) c text ending s from h ls e = by_sort p.sort c p.bytes s.0
    (items_of (after_sort c p.sort p.bytes) ps ending) s.2 (walk ps (after_sort c p.sort p.bytes) s.0 ending s.3) from h
    ls e

-- lines of a text that has no lexical fault
pub stand_in_order : (text : List ℕ) (ls : List LogicalLine) → HasLines text (map Ok ls) → AreInOrder ls
stand_in_order text ls (ps, ending, s, e) = let o = walk ps (line_start 0) text ending s 0 (omega arith) ls e in
    record { tokens = o.tokens; order = o.order }
