-- The state after one turn of reading a line.
use Rattle.std.proofs.Common.{◌≡◌, Bool, true, false, ◌==◌, ℕ, ◌<◌, ◌≤◌, List, [], ◌∷◌, ◌⊎◌, None, Result, Err, length}
use Rattle.std.proofs.Common.{drop, map, refl, sym, ap, ◌∙◌, subst, arith, slice_range, inl, inr}
use Rattle.std.specs.Prelude.{MatchBool, not}
use Rattle.std.specs.Str.{IsCharBoundary}
use Rattle.std.proofs.lemmas.Bool.Decides.{nat_tests}
use Rattle.pc_source.specs.Answers.{OnRefusal}
use Rattle.pc_source.specs.declared.fault.Fault.{Fault}
use Rattle.pc_source.specs.declared.fault.Fault.TheVariants as fault
use Rattle.pc_source.specs.declared.fault.Refusal.{Refusal}
use Rattle.pc_token.specs.declared.line_lexer.FoundToken.{FoundToken}
use Rattle.pc_token.specs.declared.line_lexer.LineLexer.{LineLexer}
use Rattle.pc_token.specs.declared.token.Operator.{Operator}
use Rattle.pc_token.specs.Context.{LexicalContext, line_start, after_gap, after_line_end}
use Rattle.pc_token.specs.Lexeme.{LogicalLine, lexeme_of}
use Rattle.pc_token.specs.Internal.LineReading.{GoesTo, IsNextToken, TakesToken, LeavesFrom, IsRefusedHere, IsRefusedLater}
use Rattle.pc_token.specs.Internal.LineReading.{ReadsLine, context_of}
use Rattle.pc_token.specs.Splitting.{Blanks, Comment, LineEnd, Lexical, items_from_line_end, close_line, Continues}
use Rattle.pc_token.proofs.Steps.{step_on, refused_on, piece_length}

pub nil_is : {A : Type 0} (xs : List A) → length xs ≡ 0 → xs ≡ []
nil_is [] h = refl
nil_is (x ∷ xs) h = absurd (omega arith)

inner_context : (brackets : List Operator) (c : LexicalContext) (bytes : List ℕ) → (length brackets ≡ 0 → ⊥)
    → after_line_end brackets c bytes ≡ after_gap c bytes
inner_context [] c bytes some = absurd (some refl)
inner_context (b ∷ bs) c bytes some = refl

inner_items : (brackets : List Operator) (c : LexicalContext) (items : List (Result LogicalLine Refusal))
    → (length brackets ≡ 0 → ⊥) → items_from_line_end brackets c items ≡ items
inner_items [] c items some = absurd (some refl)
inner_items (b ∷ bs) c items some = refl

module _ (r : LineLexer) (end : ℕ) (within : end ≤ length r.text.now) (items : List (Result LogicalLine Refusal)) where
  gap_context : r.at < end → after_gap (context_of r) (slice_range r.text.now r.at end)
      ≡ context_of (record r { at = end })
  gap_context later = ap (λ n. record (context_of r) { at = n }) (piece_length r.text.now r.at end (omega arith) within)

  -- past a gap
  pub gap_leaves : GoesTo (context_of r) r.text.now Blanks end ⊎ GoesTo (context_of r) r.text.now Comment end
      → LeavesFrom (record r { at = end }) items → LeavesFrom r items
  gap_leaves (inl goes) h = step_on (context_of r) r.text.now Blanks end items goes
      (subst (λ c. Continues c (drop end r.text.now) items) (sym (gap_context goes.later)) h)
  gap_leaves (inr goes) h = step_on (context_of r) r.text.now Comment end items goes
      (subst (λ c. Continues c (drop end r.text.now) items) (sym (gap_context goes.later)) h)

  -- past a line end inside brackets
  pub inner_leaves : (length r.brackets.items ≡ 0 → ⊥) → GoesTo (context_of r) r.text.now LineEnd end
      → LeavesFrom (record r { at = end }) items → LeavesFrom r items
  inner_leaves some goes h =
      subst (λ x. LeavesFrom r x) (inner_items r.brackets.items (context_of r) items some)
      (step_on (context_of r) r.text.now LineEnd end items goes
      (subst (λ c. Continues c (drop end r.text.now) items)
      (sym (inner_context r.brackets.items (context_of r) (slice_range r.text.now r.at end) some
      ∙ gap_context goes.later)) h))

  -- past a line end that ends the logical line
  pub outer_leaves : length r.brackets.items ≡ 0 → GoesTo (context_of r) r.text.now LineEnd end
      → Continues (line_start end) (drop end r.text.now) items
      → LeavesFrom r (close_line r.start (map lexeme_of r.tokens.items) items)
  outer_leaves none goes h =
      let nil = nil_is r.brackets.items none in
      let later = goes.later in
      subst (λ x. LeavesFrom r (items_from_line_end x (context_of r) items)) nil
      (step_on (context_of r) r.text.now LineEnd end items goes
      (subst (λ c. Continues c (drop end r.text.now) items)
      (sym (ap (λ x. after_line_end x (context_of r) (slice_range r.text.now r.at end)) nil
      ∙ ap line_start (piece_length r.text.now r.at end (omega arith) within))) h))

  -- past one that ends a line without tokens
  pub blank_leaves : length r.brackets.items ≡ 0 → length r.tokens.items ≡ 0 → GoesTo (context_of r) r.text.now LineEnd
      end
      → LeavesFrom (record r { at = end; start = end; last = None; ended = end }) items → LeavesFrom r items
  blank_leaves none empty goes h =
      let nil = nil_is r.tokens.items empty in
      let open_nil = nil_is r.brackets.items none in
      subst (λ x. LeavesFrom r (close_line r.start (map lexeme_of x) items)) nil
      (outer_leaves none goes (subst (λ c. Continues c (drop end r.text.now) items)
      (ap (λ x. record {
        at = end;
        start = end;
        brackets = x;
        done = map lexeme_of r.tokens.items;
        last = None;
        ended =
            end;
      }) open_nil
      ∙ ap (λ x. record { at = end; start = end; brackets = []; done = map lexeme_of x; last = None; ended = end }) nil)
      h))

-- past a token
pub token_leaves : (old new : LineLexer) (found : FoundToken) (items : List (Result LogicalLine Refusal))
    → IsNextToken (context_of old) old.text.now found → TakesToken old new found
    → LeavesFrom new items → LeavesFrom old items
token_leaves old new found items is takes h =
    step_on (context_of old) old.text.now (Lexical found.kind) found.end items is.piece
    (subst (λ c. Continues c (drop found.end old.text.now) items) takes.context
    (subst (λ n. Continues (context_of new) (drop n old.text.now) items) takes.at
    (subst (λ x. Continues (context_of new) (drop new.at x) items) takes.text h)))

pub no_items : (b : Bool) (n m : ℕ) → b ≡ (n == 0) → n ≡ m → b ≡ true → m ≡ 0
no_items b n m e is t = grind (arith, nat_tests)

pub some_items : (b : Bool) (n m : ℕ) → b ≡ (n == 0) → n ≡ m → b ≡ false → m ≡ 0 → ⊥
some_items b n m e is f none = grind (arith, nat_tests)

-- a refusal that stands here
pub refused_leaves : (old cur : LineLexer) (e : Fault) → ((items : List (Result LogicalLine Refusal))
    → LeavesFrom cur items → LeavesFrom old items)
    → OnRefusal (IsRefusedHere (context_of cur) cur.text.now) e → OnRefusal (IsRefusedLater old) e
refused_leaves old cur (fault.Refused r) leads h = leads (Err r ∷ []) (refused_on (context_of cur) cur.text.now r h)
refused_leaves old cur fault.OutOfMemory leads h = tt

-- where a gap ends
pub gap_edge : (c : LexicalContext) (text : List ℕ) (end : ℕ) → GoesTo c text Blanks end ⊎ GoesTo c text Comment end
    → IsCharBoundary text end × (c.at < end)
gap_edge c text end (inl goes) = (goes.boundary, goes.later)
gap_edge c text end (inr goes) = (goes.boundary, goes.later)

reads_all : (old new : LineLexer) (more : Bool) (items : List (Result LogicalLine Refusal)) → ReadsLine old new more
    → MatchBool (not more) (items ≡ []) (Continues (line_start new.at) (drop new.at old.text.now) items)
    → LeavesFrom old (close_line new.start (map lexeme_of new.tokens.items) items)
reads_all old new true items reads h = reads.line items (subst (λ x. Continues (line_start new.at) (drop new.at x) items)
    (sym reads.text) h)
reads_all old new false items reads h = subst (λ x. LeavesFrom old
    (close_line new.start (map lexeme_of new.tokens.items) x)) (sym h) reads.line

-- a line comes before what its reading leaves
pub line_comes : (old new : LineLexer) (more : Bool) (at : ℕ) (text : List ℕ) (item : Result LogicalLine Refusal)
    (items : List (Result LogicalLine Refusal))
    → context_of old ≡ line_start at → old.text.now ≡ text → ReadsLine old new more
    → close_line new.start (map lexeme_of new.tokens.items) items ≡ item ∷ items
    → MatchBool (not more) (items ≡ []) (Continues (line_start new.at) (drop new.at text) items)
    → Continues (line_start at) (drop at text) (item ∷ items)
line_comes old new more at text item items context same reads closed h =
    let place = ap (λ c. c.at) context in
    let leaves = reads_all old new more items reads
    (subst (λ x. MatchBool (not more) (items ≡ []) (Continues (line_start new.at) (drop new.at x) items)) (sym same)
    h) in
    subst (λ x. Continues (line_start at) (drop at text) x) closed
    (subst (λ c. Continues c (drop at text) (close_line new.start (map lexeme_of new.tokens.items) items)) context
    (subst (λ n. Continues (context_of old) (drop n text) (close_line new.start (map lexeme_of new.tokens.items) items))
    place
    (subst (λ x. Continues (context_of old) (drop old.at x) (close_line new.start (map lexeme_of new.tokens.items) items))
    same leaves)))
