-- The tokens of the layout of a text are in order.
use Rattle.std.proofs.Common.{◌≡◌, ◌≤◌, ◌<◌, ℕ, List, [], ◌∷◌, ◌++◌, length, true, false}
use Rattle.std.proofs.Common.{refl, sym, ◌∙◌, subst, arith, append_assoc, append-nil}
use Rattle.pc_token.specs.declared.token.TokenKind.{TokenKind}
use Rattle.pc_token.specs.declared.token.TokenKind.TheVariants.{Indent, Dedent, End}
use Rattle.pc_token.specs.Lexeme.{Lexeme, LogicalLine}
use Rattle.pc_layout.specs.Flat.{written_line, empty_token, starts_at, indented_lexemes, flat_lexemes, flat}
use Rattle.pc_layout.specs.Forest.{Suite, nothing, line, lines_of}
use Rattle.pc_layout.specs.Spelling.{first_byte}
use Rattle.pc_front.specs.Bytes.{IsLaidOut}
use Rattle.pc_detail_rules.proofs.Spelled.Between.{is_of_line, AreInOrder}
use Rattle.pc_detail_rules.proofs.Spelled.Between.{Between}
use Rattle.pc_detail_rules.proofs.Spelled.Lines.{LinesApart, append, lines_apart}

in_order : (from : ℕ) (ts : List Lexeme) (to : ℕ) → Between from ts to → AreInOrder from ts
in_order from [] to h = tt
in_order from (t ∷ ts) to h = (h.0, h.1, h.2, in_order t.place.end ts to h.3)

no_line_token : false ≡ true → ⊥
no_line_token e = cc

module _ (text : List ℕ) where
  -- where lines begin
  abbrev start_of : List LogicalLine → ℕ
  start_of ls = starts_at text (length text) ls

  front : (from next : ℕ) (l : LogicalLine) → 0 < length l.lexemes → Between from (written_line text l.lexemes) next
      → (from ≤ first_byte (length text) l.lexemes)
      × Between (first_byte (length text) l.lexemes) (written_line text l.lexemes) next
  front from next l some h = go l.lexemes some h
    where
      go : (xs : List Lexeme) → 0 < length xs → Between from (written_line text xs) next
          → (from ≤ first_byte (length text) xs) × Between (first_byte (length text) xs) (written_line text xs) next
      go [] more b = absurd (omega (arith, more))
      go (x ∷ xs) more b = (b.0, (omega arith, b.1, b.2, b.3))

  -- lines begin where their first token does
  raised : (from : ℕ) (ls : List LogicalLine) → LinesApart text from ls
      → (from ≤ start_of ls) × LinesApart text (start_of ls) ls
  raised from [] h = (h, omega arith)
  raised from (l ∷ ls) h = let r = front from h.1 l h.0 h.2 in (r.0, (h.0, h.1, r.1, h.3))

  -- tokens up to some byte, and lines behind
  record Written (from : ℕ) (ts : List Lexeme) (others : List LogicalLine) : Type 0 where
    to : ℕ
    tokens : Between from ts to
    behind : LinesApart text to others

  empty_apart : (k : TokenKind) (from at to : ℕ) (ts : List Lexeme) → is_of_line k ≡ false → from ≤ at
      → Between at ts to → Between from (empty_token k at ∷ ts) to
  empty_apart k from at to ts other le h = (le, omega arith, (λ f. absurd (no_line_token (sym other ∙ f))), h)

  indented : (ds others : List LogicalLine) (from : ℕ) (ts : List Lexeme) → LinesApart text from (ds ++ others)
      → ((at : ℕ) → LinesApart text at (ds ++ others) → Written at ts others)
      → Written from (indented_lexemes text ds (start_of others) ts) others
  indented [] others from ts h f = record { to = from; tokens = omega arith; behind = h }
  indented (d ∷ ds) others from ts h f =
      let begin = raised from (d ∷ (ds ++ others)) h in
      let at = first_byte (length text) d.lexemes in
      let r = f at begin.1 in
      let end = raised r.to others r.behind in
      let same : start_of others ≤ start_of others = omega arith in
      record {
        to = start_of others;
        tokens = empty_apart Indent from at (start_of others) (ts ++ empty_token Dedent (start_of others) ∷ []) refl
            begin.0 (append at ts (empty_token Dedent (start_of others) ∷ []) r.to (start_of others) r.tokens
            (empty_apart Dedent r.to (start_of others) (start_of others) [] refl end.0 same));
        behind = end.1;
      }

  starts : (xs ys : List LogicalLine) → starts_at text (start_of ys) xs ≡ start_of (xs ++ ys)
  starts [] ys = refl
  starts (x ∷ xs) ys = refl

  written : (s : Suite) (others : List LogicalLine) (from : ℕ) → LinesApart text from (lines_of s ++ others)
      → Written from (flat_lexemes text s (start_of others)) others
  written nothing others from h = record { to = from; tokens = omega arith; behind = h }
  written (line l deeper later) others from h =
      let behind = subst (LinesApart text h.1) (append_assoc (lines_of deeper) (lines_of later) others) h.3 in
      let next = starts_at text (start_of others) (lines_of later) in
      let r = subst (λ (n : ℕ). Written h.1 (indented_lexemes text (lines_of deeper) n (flat_lexemes text deeper n))
      (lines_of later ++ others)) (sym (starts (lines_of later) others))
      (indented (lines_of deeper) (lines_of later ++ others) h.1
      (flat_lexemes text deeper (start_of (lines_of later ++ others))) behind
      (λ at g. written deeper (lines_of later ++ others) at g)) in
      let q = written later others r.to r.behind in
      let inner = indented_lexemes text (lines_of deeper) next (flat_lexemes text deeper next) in
      let last = flat_lexemes text later (start_of others) in
      record {
        to = q.to;
        tokens = append from (written_line text l.lexemes) (inner ++ last) h.1 q.to h.2
            (append h.1 inner last r.to q.to r.tokens q.tokens);
        behind = q.behind;
      }

  pub laid_out : (ts : List Lexeme) → IsLaidOut text ts → AreInOrder 0 ts
  laid_out ts h =
      let apart = lines_apart text h.lines h.lined.split in
      let forest = h.layout.forest in
      let whole = subst (LinesApart text 0) (sym h.layout.its_lines ∙ sym (append-nil (lines_of forest))) apart in
      let r = written forest [] 0 whole in
      let same : length text ≤ length text = omega arith in
      subst (AreInOrder 0) (sym h.layout.written)
      (in_order 0 (flat text forest) (length text)
      (append 0 (flat_lexemes text forest (length text)) (empty_token End (length text) ∷ []) r.to (length text) r.tokens
      (empty_apart End r.to (length text) (length text) [] refl r.behind same)))
