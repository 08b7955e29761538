-- Bytes that spell no module cannot be without a refusal.
use Rattle.std.proofs.Common.{◌≡◌, ℕ, ◌+◌, List, [], ◌∷◌, ◌++◌, length, map, refl, ap, subst, inl, inr, arith}
use Rattle.std.specs.Prelude.{◌⊎◌, Option, Some, None, Result, Ok, Err}
use Rattle.pc_source.specs.declared.fault.Fault.TheVariants.{Refused}
use Rattle.pc_source.specs.declared.fault.Refusal.{Refusal}
use Rattle.pc_source.specs.declared.fault.RefusalCode.TheVariants.{G1, G2}
use Rattle.pc_source.specs.Text.{IsText}
use Rattle.pc_token.specs.declared.token.Operator.{Operator}
use Rattle.pc_token.specs.Context.{LexicalContext, line_start}
use Rattle.pc_token.specs.Lexeme.{Lexeme, LogicalLine}
use Rattle.pc_token.specs.Splitting.{Sort, Blanks, Comment, LineEnd, Lexical, Piece, after, SplitEnd, Whole, Faulty}
use Rattle.pc_token.specs.Splitting.{close_line, items_from_line_end, at_sort, items_of, HasLines}
use Rattle.pc_layout.specs.Flat.{flat}
use Rattle.pc_layout.specs.Stepping.{start}
use Rattle.pc_layout.proofs.Forests.{planted, Planted}
use Rattle.pc_layout.proofs.TextLines.{stand_in_order}
use Rattle.pc_layout.proofs.Verdicts.{verdict, laid_out, laid_wrong, refused_given, IsGivenFault}
use Rattle.pc_tree.specs.Tree.{Module}
use Rattle.pc_tree.specs.Depth.{too_deep_at}
use Rattle.pc_grammar.specs.Grammar.{last_place}
use Rattle.pc_grammar.specs.Machine.{ReadOutcome, reads, refuses, short, outcome_of}
use Rattle.pc_grammar.proofs.Front.{misfit, ends_early}
use Rattle.pc_grammar.proofs.Sound.{reads_spells}
use Rattle.pc_front.specs.Bytes.{IsLined, IsLaidOut, IsModuleOf, IsRefusalOf, of_source, of_tokens, of_layout}
use Rattle.pc_front.specs.Bytes.{of_grammar, EveryTextIsAnswered}
use Rattle.pc_front.proofs.SourceAnswers.{cases, text_or_refusal}
use Rattle.pc_front.proofs.TokenAnswers.{splits}

abbrev Items : Type 0
Items = List (Result LogicalLine Refusal)

-- ---- the lines of a split

-- the items are lines alone, or lines and then a refusal
abbrev AreEnded : Items → Type 0
AreEnded items = ((lines : List LogicalLine) × (items ≡ map Ok lines))
    ⊎ ((before : List LogicalLine) × (refusal : Refusal) × (items ≡ map Ok before ++ Err refusal ∷ []))

one_more : (l : LogicalLine) (items : Items) → AreEnded items → AreEnded (Ok l ∷ items)
one_more l items (inl (lines, e)) = inl (l ∷ lines, ap (λ x. Ok l ∷ x) e)
one_more l items (inr (before, r, e)) = inr (l ∷ before, r, ap (λ x. Ok l ∷ x) e)

closed : (from : ℕ) (done : List Lexeme) (items : Items) → AreEnded items → AreEnded (close_line from done items)
closed from [] items h = h
closed from (x ∷ xs) items h = one_more _ items h

at_feed : (brackets : List Operator) (c : LexicalContext) (items : Items) → AreEnded items
    → AreEnded (items_from_line_end brackets c items)
at_feed [] c items h = closed c.start c.done items h
at_feed (o ∷ os) c items h = h

at_piece : (sort : Sort) (c : LexicalContext) (items : Items) → AreEnded items → AreEnded (at_sort sort c items)
at_piece Blanks c items h = h
at_piece Comment c items h = h
at_piece LineEnd c items h = at_feed c.brackets c items h
at_piece (Lexical kind) c items h = h

ended : (c : LexicalContext) (ps : List Piece) (ending : SplitEnd) → AreEnded (items_of c ps ending)
ended c [] Whole = closed c.start c.done [] (inl ([], refl))
ended c [] (Faulty code k) = inr ([], record { code = code; byte = c.at + k }, refl)
ended c (p ∷ ps) ending = at_piece p.sort c (items_of (after c p) ps ending) (ended (after c p) ps ending)

-- ---- the stages

module _ (bytes : List ℕ) (no_module : (m : Module) → ¬ (IsModuleOf bytes m))
    (no_refusal : (refusal : Refusal) → ¬ (IsRefusalOf bytes refusal)) where
  by_depth : (tokens : List Lexeme) → IsLaidOut bytes tokens → (m : Module) → outcome_of tokens ≡ reads m
      → (depth : Option ℕ) → too_deep_at m ≡ depth → ⊥
  by_depth tokens laid m e None shallow = no_module m (record {
    tokens = tokens;
    laid_out = laid;
    spelled = record { spelled = reads_spells tokens m e; shallow = shallow };
  })
  by_depth tokens laid m e (Some byte) deep = no_refusal (record { code = G2; byte = byte }) (of_grammar (record {
    tokens = tokens;
    laid_out = laid;
    refused = inr (refl, record { tree = m; spelled = reads_spells tokens m e; first = deep });
  }))

  by_outcome : (tokens : List Lexeme) → IsLaidOut bytes tokens → (outcome : ReadOutcome) → outcome_of tokens ≡ outcome
      → ⊥
  by_outcome tokens laid (reads m) e = by_depth tokens laid m e (too_deep_at m) refl
  by_outcome tokens laid (refuses byte) e = no_refusal (record { code = G1; byte = byte }) (of_grammar (record {
    tokens = tokens;
    laid_out = laid;
    refused = inl (refl, inl (misfit tokens byte e));
  }))
  by_outcome tokens laid short e = no_refusal (record { code = G1; byte = (last_place tokens).end }) (of_grammar (record {
    tokens = tokens;
    laid_out = laid;
    refused = inl (refl, inr (ends_early tokens e));
  }))

  by_lines : (lines : List LogicalLine) → IsLined bytes lines → ⊥
  by_lines lines lined = elim (verdict (length bytes) start lines) [
    | inl placed ↦
        let forest : Planted bytes lines = planted bytes lines placed in
        let tokens = flat bytes forest.forest in
        by_outcome tokens
        (record { lines = lines; lined = lined; layout = laid_out bytes lines tokens forest.written })
        (outcome_of tokens) refl
    | inr refused ↦
        let given = refused_given bytes start lines refused.0 refused.1 in
        let fault : IsGivenFault bytes lines (Refused refused.0) = laid_wrong bytes lines given.0 (Refused refused.0)
        given.1 in
        no_refusal fault.refusal (of_layout (record {
          lines = lines;
          lined = lined;
          refused = fault.least (stand_in_order bytes lines lined.split);
        }))
  ]

  by_items : IsText bytes → (items : Items) → HasLines bytes items → AreEnded items → ⊥
  by_items text items split (inl (lines, e)) = by_lines lines
      (record { text = text; split = subst (λ x. HasLines bytes x) e split })
  by_items text items split (inr (before, r, e)) = no_refusal r (of_tokens (record {
    text = text;
    before = before;
    split = subst (λ x. HasLines bytes x) e split;
  }))

  of_text : IsText bytes → ⊥
  of_text text = splits (length bytes) (line_start 0) bytes (omega arith) (λ ps ending h.
      let items = items_of (line_start 0) ps ending in
      by_items text items (ps, ending, h, refl) (ended (line_start 0) ps ending))

  answered : ⊥
  answered = cases of_text (text_or_refusal bytes (λ r h. no_refusal r (of_source h)))

pub every_text_is_answered : EveryTextIsAnswered
every_text_is_answered bytes no_module no_refusal = answered bytes no_module no_refusal
