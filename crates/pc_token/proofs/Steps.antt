-- One more piece, and the end of a logical line.
use Rattle.std.proofs.Common.{◌≡◌, ℕ, ◌+◌, ◌-◌, ◌≤◌, List, [], ◌∷◌, ◌++◌, Option, Some, Result, Err, length, drop, map}
use Rattle.std.proofs.Common.{refl, sym, ap, ◌∙◌, arith, slice_range, add-zero, inl}
use Rattle.std.specs.Borrow.{Bor}
use Rattle.std.specs.Global.{Box}
use Rattle.std.specs.Prelude.{String}
use Rattle.std.specs.declared.alloc.Global.{Global}
use Rattle.std.proofs.lemmas.List.{length-take-le, length-drop, map-append, drop_all}
use Rattle.pc_source.specs.declared.fault.Refusal.{Refusal}
use Rattle.pc_source.specs.declared.fault.RefusalCode.TheVariants.{L5}
use Rattle.pc_token.specs.declared.token.Operator.{Operator}
use Rattle.pc_token.specs.declared.token.Token.{Token}
use Rattle.pc_token.specs.declared.token.TokenKind.{TokenKind}
use Rattle.pc_token.specs.Context.{LexicalContext, after_token, brackets_after, lexeme_at, form_by_kind}
use Rattle.pc_token.specs.Lexeme.{LogicalLine, Lexeme, lexeme_of, form_of}
use Rattle.pc_token.specs.Internal.LineReading.{GoesTo, IsRefusedHere}
use Rattle.pc_token.specs.Splitting.{Sort, Whole, Faulty, after_sort, at_sort, close_line, Continues}
use Rattle.pc_token.proofs.Slices.{split_at}

-- the length of a piece
pub piece_length : (text : List ℕ) (i j : ℕ) → i ≤ j → j ≤ length text → i + length (slice_range text i j) ≡ j
piece_length text i j h g = let len = length-take-le (j - i) (drop i text) (omega (arith, length-drop i text)) in
    omega arith

-- a piece before what goes on
pub step_on : (c : LexicalContext) (text : List ℕ) (sort : Sort) (end : ℕ) (items : List (Result LogicalLine Refusal))
    → GoesTo c text sort end
    → Continues (after_sort c sort (slice_range text c.at end)) (drop end text) items
    → Continues c (drop c.at text) (at_sort sort c items)
step_on c text sort end items goes (ps, ending, splits, is) =
    let later = goes.later in (
      record { sort = sort; bytes = slice_range text c.at end } ∷ ps,
      ending,
      (drop end text, split_at text c.at end (omega arith), goes.fits, splits),
      ap (at_sort sort c) is,
    )

-- a refusal here
pub refused_on : (c : LexicalContext) (text : List ℕ) (r : Refusal) → IsRefusedHere c text r
    → Continues c (drop c.at text) (Err r ∷ [])
refused_on c text r (k, e, fault) = (
  [],
  Faulty r.code k,
  fault,
  ap (λ n. Err (record { code = r.code; byte = n }) ∷ [])
      (sym e),
)

-- the text's end
pub whole_on : (c : LexicalContext) (text : List ℕ) → length text ≤ c.at → c.brackets ≡ []
    → Continues c (drop c.at text) (close_line c.start c.done [])
whole_on c text past none = ([], Whole, (drop_all c.at text past, none), refl)

-- the text's end in a bracket
pub open_on : (c : LexicalContext) (text : List ℕ) → length text ≤ c.at → (length c.brackets ≡ 0 → ⊥)
    → Continues c (drop c.at text) (Err (record { code = L5; byte = c.at }) ∷ [])
open_on c text past some =
    let none : length (drop c.at text) ≡ 0 = omega (arith, length-drop c.at text) in
    ([], Faulty L5 0, (refl, inl (none, some)), ap (λ n. Err (record { code = L5; byte = n }) ∷ []) (add-zero c.at))

-- the context after a token was taken
pub taken : (c : LexicalContext) (text : List ℕ) (end : ℕ) (kind : TokenKind) (brackets : List Operator)
    (done : List Lexeme) → c.at ≤ end → end ≤ length text
    → brackets ≡ brackets_after kind c.brackets → done ≡ c.done ++ lexeme_at c.at kind (slice_range text c.at end) ∷ []
    → record { at = end; start = c.start; brackets = brackets; done = done; last = Some kind; ended = end }
    ≡ after_token c kind (slice_range text c.at end)
taken c text end kind brackets done h g b d =
    let e = piece_length text c.at end h g in
    ap (λ n. record { at = n; start = c.start; brackets = brackets; done = done; last = Some kind; ended = n }) (sym e)
    ∙ ap (λ x. record {
      at = c.at + length (slice_range text c.at end);
      start = c.start;
      brackets = x;
      done = done;
      last = Some kind;
      ended = c.at + length (slice_range text c.at end);
    }) b
    ∙ ap (λ x. record {
      at = c.at + length (slice_range text c.at end);
      start = c.start;
      brackets =
          brackets_after kind c.brackets;
      done = x;
      last = Some kind;
      ended = c.at + length (slice_range text c.at end);
    })
    d

-- the token as a lexeme
pub lexeme_is : (text : List ℕ) (at end : ℕ) (kind : TokenKind) (piece : Bor (List ℕ))
    (form : Option (Box (String Global))) → at ≤ end → end ≤ length text
    → piece.now ≡ slice_range text at end → form_of (slice_range text at end) form ≡ form_by_kind kind
    (slice_range text at end)
    → lexeme_of (record { kind = kind; place = record { start = at; end = end }; text = piece; form = form })
    ≡ lexeme_at at kind (slice_range text at end)
lexeme_is text at end kind piece form h g is same =
    let e = piece_length text at end h g in
    ap (λ n. record {
      kind = kind;
      place = record { start = at; end = n };
      text = piece.now;
      form =
          form_of piece.now form;
    }) (sym e)
    ∙ ap (λ x. record {
      kind = kind;
      place = record { start = at; end = at + length (slice_range text at end) };
      text =
          x;
      form = form_of x form;
    }) is
    ∙ ap (λ x. record {
      kind = kind;
      place = record { start = at; end = at + length (slice_range text at end) };
      text =
          slice_range text at end;
      form = x;
    }) same

-- one token more
pub lexemes_more : (old new : List (Token (Bor (List ℕ)))) (t : Token (Bor (List ℕ))) (x : Lexeme) → new ≡ old ++ t ∷ []
    → lexeme_of t ≡ x → map lexeme_of new ≡ map lexeme_of old ++ x ∷ []
lexemes_more old new t x e is = ap (map lexeme_of) e ∙ map-append lexeme_of old (t ∷ [])
    ∙ ap (λ y. map lexeme_of old ++ y ∷ []) is
