-- The tokens of a text, and its refusal, lie within it.
use Rattle.std.proofs.Common.{◌≡◌, ℕ, ◌+◌, ◌≤◌, List, [], ◌∷◌, ◌++◌, length, map, refl, ap, ◌∙◌, subst, arith}
use Rattle.std.proofs.Common.{length-append}
use Rattle.std.specs.Prelude.{Result, Ok, Err, IfErr}
use Rattle.pc_source.specs.declared.fault.Refusal.{Refusal}
use Rattle.pc_source.specs.declared.fault.RefusalCode.{RefusalCode}
use Rattle.pc_source.specs.declared.fault.RefusalCode.TheVariants.{L1, L2, L3, L4, L5, L6, L7, L8}
use Rattle.pc_source.specs.declared.fault.Fault.{Fault}
use Rattle.pc_source.specs.declared.fault.Fault.TheVariants as fault
use Rattle.pc_source.specs.Answers.{OnRefusal}
use Rattle.pc_source.specs.Stream.{Yields, RefusesWithin}
use Rattle.pc_source.specs.Within.{StandsWithin, IsWithin}
use Rattle.pc_token.specs.declared.token.Operator.{Operator}
use Rattle.pc_token.specs.declared.stream.Lines.{Lines}
use Rattle.pc_token.specs.declared.token.Line.{Line}
use Rattle.pc_token.specs.Context.{LexicalContext, line_start, after_line_end, lexeme_at}
use Rattle.pc_token.specs.Faults.{IsFault}
use Rattle.pc_token.specs.Lexeme.{Lexeme, LogicalLine, logical_line_of}
use Rattle.pc_token.specs.Remaining.{HasLeft, gives}
use Rattle.pc_token.specs.Splitting.{Sort, Blanks, Comment, LineEnd, Lexical, Piece, after_sort, SplitEnd, Whole, Faulty}
use Rattle.pc_token.specs.Splitting.{Splits, close_line, items_from_line_end, at_sort, items_of, HasLines, HasOnly}
use Rattle.pc_token.specs.Within.{AreWithin, LinesWithin, ItemsWithin}

abbrev Items : Type 0
Items = List (Result LogicalLine Refusal)

push : (len : ℕ) (xs : List Lexeme) (x : Lexeme) → AreWithin len xs → StandsWithin len x.place
    → AreWithin len (xs ++ x ∷ [])
push len [] x h s = (s, tt)
push len (y ∷ ys) x h s = (h.0, push len ys x h.1 s)

fault_within : (c : LexicalContext) (text : List ℕ) (code : RefusalCode) (k : ℕ) → IsFault c text code k
    → k ≤ length text
fault_within c text L1 k h = omega (arith, h.0)
fault_within c text L2 k h = omega (arith, h.0)
fault_within c text L3 k h = omega (arith, h.0)
fault_within c text L4 k h = omega (arith, h.0)
fault_within c text L5 k h = omega (arith, h.0)
fault_within c text L6 k h = omega (arith, h.0)
fault_within c text L7 k h = omega (arith, h.within)
fault_within c text L8 k h = omega (arith, h.0)
fault_within c text _ k h = absurd h

-- ---- from one piece to the next

module _ (len : ℕ) where
  feed_at : (brackets : List Operator) (c : LexicalContext) (bytes : List ℕ) → (after_line_end brackets c bytes).at
      ≡ c.at + length bytes
  feed_at [] c bytes = refl
  feed_at (b ∷ bs) c bytes = refl

  next_at : (sort : Sort) (c : LexicalContext) (bytes : List ℕ) → (after_sort c sort bytes).at ≡ c.at + length bytes
  next_at Blanks c bytes = refl
  next_at Comment c bytes = refl
  next_at LineEnd c bytes = feed_at c.brackets c bytes
  next_at (Lexical kind) c bytes = refl

  feed_done : (brackets : List Operator) (c : LexicalContext) (bytes : List ℕ) → AreWithin len c.done
      → AreWithin len (after_line_end brackets c bytes).done
  feed_done [] c bytes h = tt
  feed_done (b ∷ bs) c bytes h = h

  next_done : (sort : Sort) (c : LexicalContext) (bytes : List ℕ) → c.at + length bytes ≤ len → AreWithin len c.done
      → AreWithin len (after_sort c sort bytes).done
  next_done Blanks c bytes le h = h
  next_done Comment c bytes le h = h
  next_done LineEnd c bytes le h = feed_done c.brackets c bytes h
  next_done (Lexical kind) c bytes le h = push len c.done (lexeme_at c.at kind bytes) h (omega arith, le)

  closed : (start : ℕ) (done : List Lexeme) (items : Items) → AreWithin len done → ItemsWithin len items
      → ItemsWithin len (close_line start done items)
  closed start [] items h rest = rest
  closed start (x ∷ xs) items h rest = (h, rest)

  at_feed : (brackets : List Operator) (c : LexicalContext) (items : Items) → AreWithin len c.done
      → ItemsWithin len items → ItemsWithin len (items_from_line_end brackets c items)
  at_feed [] c items h rest = closed c.start c.done items h rest
  at_feed (b ∷ bs) c items h rest = rest

  at_piece : (sort : Sort) (c : LexicalContext) (items : Items) → AreWithin len c.done → ItemsWithin len items
      → ItemsWithin len (at_sort sort c items)
  at_piece Blanks c items h rest = rest
  at_piece Comment c items h rest = rest
  at_piece LineEnd c items h rest = at_feed c.brackets c items h rest
  at_piece (Lexical kind) c items h rest = rest

  walk : (ps : List Piece) (c : LexicalContext) (text : List ℕ) (ending : SplitEnd) → c.at + length text ≡ len
      → AreWithin len c.done → Splits c ps text ending → ItemsWithin len (items_of c ps ending)
  walk [] c text Whole at h s = closed c.start c.done [] h tt
  walk [] c text (Faulty code k) at h s = (omega (arith, at, fault_within c text code k s), tt)
  walk (p ∷ ps) c text ending at h (rest, is, fits, more) =
      let long : length text ≡ length p.bytes + length rest = ap length is ∙ length-append p.bytes rest in
      let here = next_at p.sort c p.bytes in
      at_piece p.sort c (items_of (after_sort c p.sort p.bytes) ps ending) h
      (walk ps (after_sort c p.sort p.bytes) rest ending (omega (arith, at, long, here))
      (next_done p.sort c p.bytes (omega (arith, at, long)) h) more)

pub holds_items : (text : List ℕ) (items : Items) → HasLines text items → ItemsWithin (length text) items
holds_items text items (ps, ending, s, e) = subst (λ x. ItemsWithin (length text) x) e
    (walk (length text) ps (line_start 0) text ending (omega arith) tt s)

-- ---- of lines alone, and of the refusal after them

pub lines_held : (len : ℕ) (ls : List LogicalLine) → ItemsWithin len (map Ok ls) → LinesWithin len ls
lines_held len [] h = tt
lines_held len (l ∷ ls) h = (h.0, lines_held len ls h.1)

refusal_held : (len : ℕ) (ls : List LogicalLine) (r : Refusal) → ItemsWithin len (map Ok ls ++ Err r ∷ [])
    → r.byte ≤ len
refusal_held len [] r h = h.0
refusal_held len (l ∷ ls) r h = refusal_held len ls r h.1

-- the refusal of a text
pub refused_within : (text : List ℕ) (before : List LogicalLine) (r : Refusal)
    → HasLines text (map Ok before ++ Err r ∷ []) → r.byte ≤ length text
refused_within text before r h = refusal_held (length text) before r (holds_items text (map Ok before ++ Err r ∷ []) h)

-- the refusal of a text, after some lines, lies within it
pub answer_within : {T : Type 0} (text : List ℕ) (r : Result T Fault)
    → IfErr r (OnRefusal (λ q. (before : List LogicalLine) × HasOnly text (map Ok before ++ Err q ∷ [])))
    → IfErr r (IsWithin (length text))
answer_within text (Ok v) h = tt
answer_within text (Err (fault.Refused q)) h = refused_within text h.0 q h.1.0
answer_within text (Err fault.OutOfMemory) h = tt

-- ---- of the iterator over lines

left_before : (ls : List Line) (s : Lines) (r : Refusal) → Yields gives s (map Ok ls ++ Err (fault.Refused r) ∷ [])
    → HasLeft s (map Ok (map logical_line_of ls) ++ Err r ∷ [])
left_before [] s r (none, t, g) = g.1
left_before (l ∷ ls) s r (t, g, more) = g (map Ok (map logical_line_of ls) ++ Err r ∷ []) (left_before ls t r more)

pub lines_within : (text : List ℕ) (s : Lines) → ((items : Items) → HasLeft s items → HasLines text items)
    → RefusesWithin gives (length text) s
lines_within text s left ls r h = refused_within text (map logical_line_of ls) r
    (left (map Ok (map logical_line_of ls) ++ Err r ∷ []) (left_before ls s r h))
