-- The stages in order: the results for the lines of a text, for their layout, and for its tokens.
use Rattle.std.proofs.Common.{◌≡◌, ℕ, List, [], ◌∷◌, ◌++◌, length, map, refl, sym, ap, ◌∙◌, subst, inl, inr, arith}
use Rattle.std.specs.Prelude.{Option, Some, None, Result, Ok, Err, ◌⊎◌, MatchOption, IfOk, IfErr}
use Rattle.std.specs.Borrow.{Bor}
use Rattle.pc_source.specs.declared.fault.Refusal.{Refusal}
use Rattle.pc_source.specs.declared.fault.Fault.{Fault}
use Rattle.pc_source.specs.declared.fault.Fault.TheVariants.{Refused, OutOfMemory}
use Rattle.pc_source.specs.Stream.{Yields}
use Rattle.pc_source.specs.Text.{IsText}
use Rattle.pc_token.specs.declared.stream.Lines.{Lines}
use Rattle.pc_token.specs.declared.token.Line.{Line}
use Rattle.pc_token.specs.declared.token.Token.{Token}
use Rattle.pc_token.specs.Lexeme.{Lexeme, LogicalLine, lexeme_of}
use Rattle.pc_token.specs.Remaining.{HasLeft, gives}
use Rattle.pc_token.specs.Splitting.{HasLines}
use Rattle.pc_layout.specs.Answering.{lines_came, fault_came, ComesWhole, ComesFaulty, ComesRefused, AnswersLines}
use Rattle.pc_layout.specs.Answering.{LaysOut}
use Rattle.pc_layout.specs.TokenIterator.Items.{line_item_of, token_item_of}
use Rattle.pc_layout.proofs.TextLines.{stand_in_order}
use Rattle.pc_tree.specs.declared.tree.Module.{Module as RustModule}
use Rattle.pc_tree.specs.Tree.{Module, module_of}
use Rattle.pc_source.specs.Answers.{OnRefusal}
use Rattle.pc_parse.specs.Answering.{IsRead, IsRefusedByTokens, IsFaulty}
use Rattle.pc_front.specs.Bytes.{IsLined, IsLaidOut, IsModuleOf, IsRefusalOf, of_tokens, of_layout, of_grammar}

abbrev LineItems : Type 0
LineItems = List (Result Line Fault)

abbrev TokenItem : Type 0
TokenItem = Result (Token (Bor (List ℕ))) Fault

-- ---- lines

-- lines that came without a fault were left
all_left : (s : Lines) (ks : LineItems) → Yields gives s ks → fault_came (map line_item_of ks) ≡ None
    → HasLeft s (map Ok (lines_came (map line_item_of ks)))
all_left s [] (t, g) e = g.0
all_left s (Ok l ∷ ks) (t, g, more) e = g (map Ok (lines_came (map line_item_of ks))) (all_left t ks more e)
all_left s (Err x ∷ ks) h e = absurd (grind (arith, e))

-- and those that came before a refusal, with it
refused_left : (s : Lines) (ks : LineItems) (r : Refusal) → Yields gives s ks → fault_came (map line_item_of ks)
    ≡ Some (Refused r) → HasLeft s (map Ok (lines_came (map line_item_of ks)) ++ Err r ∷ [])
refused_left s [] r h e = absurd (grind (arith, e))
refused_left s (Ok l ∷ ks) r (t, g, more) e = g (map Ok (lines_came (map line_item_of ks)) ++ Err r ∷ [])
    (refused_left t ks r more e)
refused_left s (Err (Refused q) ∷ ks) r (none, t, g) e =
    let same : q ≡ r = grind (arith, e) in
    subst (λ x. HasLeft s (map Ok (lines_came (map line_item_of ks)) ++ Err x ∷ [])) same
    (subst (λ y. HasLeft s (map Ok (lines_came (map line_item_of y)) ++ Err q ∷ [])) (sym none) g.1)
refused_left s (Err OutOfMemory ∷ ks) r h e = absurd (grind (arith, e))

-- ---- tokens

ok_lexemes : (ts : List (Token (Bor (List ℕ)))) (us : List Lexeme) → map token_item_of (map Ok ts) ≡ map Ok us
    → map lexeme_of ts ≡ us
ok_lexemes [] [] e = refl
ok_lexemes [] (u ∷ us) e = absurd (grind (arith, e))
ok_lexemes (t ∷ ts) [] e = absurd (grind (arith, e))
ok_lexemes (t ∷ ts) (u ∷ us) e =
    let first : lexeme_of t ≡ u = grind (arith, e) in
    let rest = ok_lexemes ts us (grind (arith, e)) in
    ap (λ x. x ∷ map lexeme_of ts) first ∙ ap (λ x. u ∷ x) rest

no_fault : (ts : List (Token (Bor (List ℕ)))) (us : List Lexeme) (e : Fault) → map token_item_of (map Ok ts) ≡ map Ok us
    ++ Err e ∷ [] → ⊥
no_fault [] [] e h = absurd (grind (arith, h))
no_fault [] (u ∷ us) e h = absurd (grind (arith, h))
no_fault (t ∷ ts) [] e h = absurd (grind (arith, h))
no_fault (t ∷ ts) (u ∷ us) e h = no_fault ts us e (grind (arith, h))

same_fault : (ts : List (Token (Bor (List ℕ)))) (us : List Lexeme) (e f : Fault)
    → map token_item_of (map Ok ts ++ Err e ∷ []) ≡ map Ok us ++ Err f ∷ [] → e ≡ f
same_fault [] [] e f h = grind (arith, h)
same_fault [] (u ∷ us) e f h = absurd (grind (arith, h))
same_fault (t ∷ ts) [] e f h = absurd (grind (arith, h))
same_fault (t ∷ ts) (u ∷ us) e f h = same_fault ts us e f (grind (arith, h))

no_whole : (ts : List (Token (Bor (List ℕ)))) (us : List Lexeme) (e : Fault)
    → map token_item_of (map Ok ts ++ Err e ∷ []) ≡ map Ok us → ⊥
no_whole [] [] e h = absurd (grind (arith, h))
no_whole [] (u ∷ us) e h = absurd (grind (arith, h))
no_whole (t ∷ ts) [] e h = absurd (grind (arith, h))
no_whole (t ∷ ts) (u ∷ us) e h = no_whole ts us e (grind (arith, h))

module _ (text : List ℕ) (is_text : IsText text) (lines : Lines) (left : (items : List (Result LogicalLine Refusal))
    → HasLeft lines items → HasLines text items) (ks : LineItems) (come : Yields gives lines ks) where
  lined : fault_came (map line_item_of ks) ≡ None → IsLined text (lines_came (map line_item_of ks))
  lined none = record {
    text = is_text;
    split = left (map Ok (lines_came (map line_item_of ks)))
        (all_left lines ks come none);
  }

  -- all tokens came: they are the layout of the text
  pub laid_out : (ts : List (Token (Bor (List ℕ)))) → AnswersLines text (map line_item_of ks)
      (map token_item_of (map Ok ts)) → IsLaidOut text (map lexeme_of ts)
  laid_out ts answers = by_fault (fault_came (map line_item_of ks)) refl answers
    where
      by_fault : (o : Option Fault) → fault_came (map line_item_of ks) ≡ o
          → MatchOption o (ComesWhole text (lines_came (map line_item_of ks)) (map token_item_of (map Ok ts))
          ⊎ ComesRefused text (lines_came (map line_item_of ks)) (map token_item_of (map Ok ts)))
          (ComesFaulty (map token_item_of (map Ok ts))) → IsLaidOut text (map lexeme_of ts)
      by_fault (Some e) is h = absurd (no_fault ts h.tokens e h.all)
      by_fault None is (inl whole) = record {
        lines = lines_came (map line_item_of ks);
        lined = lined is;
        layout =
            subst (λ us. Rattle.pc_layout.specs.Layouts.IsLayout text (lines_came (map line_item_of ks)) us)
            (sym (ok_lexemes ts whole.tokens whole.all)) whole.layout;
      }
      by_fault None is (inr refused) = absurd (no_fault ts refused.fault.tokens (Refused refused.refusal)
          refused.fault.all)

  -- a refusal came: it is one of tokens or of lines
  pub refused_before : (ts : List (Token (Bor (List ℕ)))) (r : Refusal)
      → AnswersLines text (map line_item_of ks) (map token_item_of (map Ok ts ++ Err (Refused r) ∷ []))
      → IsRefusalOf text r
  refused_before ts r answers = by_fault (fault_came (map line_item_of ks)) refl answers
    where
      refused_is : {x y : Refusal} → Refused x ≡ Refused y → x ≡ y
      refused_is e = grind (arith, e)

      by_fault : (o : Option Fault) → fault_came (map line_item_of ks) ≡ o
          → MatchOption o (ComesWhole text (lines_came (map line_item_of ks))
          (map token_item_of (map Ok ts ++ Err (Refused r) ∷ [])) ⊎ ComesRefused text (lines_came (map line_item_of ks))
          (map token_item_of (map Ok ts ++ Err (Refused r) ∷ [])))
          (ComesFaulty (map token_item_of (map Ok ts ++ Err (Refused r) ∷ []))) → IsRefusalOf text r
      by_fault (Some e) is h =
          of_tokens (record {
            text = is_text;
            before = lines_came (map line_item_of ks);
            split = left (map Ok (lines_came (map line_item_of ks)) ++ Err r ∷ [])
                (refused_left lines ks r come (is ∙ ap Some (sym (same_fault ts h.tokens (Refused r) e h.all))));
          })
      by_fault None is (inl whole) = absurd (no_whole ts whole.tokens (Refused r) whole.all)
      by_fault None is (inr refused) =
          let same : r ≡ refused.refusal = refused_is (same_fault ts refused.fault.tokens (Refused r)
          (Refused refused.refusal) refused.fault.all) in
          let line = lined is in
          of_layout (record {
            lines = lines_came (map line_item_of ks);
            lined = line;
            refused = subst (λ x. Rattle.pc_layout.specs.Faults.IsLayoutRefusal (length text)
                (lines_came (map line_item_of ks)) x) (sym same) (refused.refuses.first
                (stand_in_order text (lines_came (map line_item_of ks)) line.split));
          })

-- the result of a parser over the tokens
module _ (text : List ℕ) (is_text : IsText text) (lines : Lines) (left : (items : List (Result LogicalLine Refusal))
    → HasLeft lines items → HasLines text items)
    {T : Type 0} (next : T → Option TokenItem → T → Type 0) (iterator : T) (lays : LaysOut gives next text lines iterator) where
  pub read_module : (m : Module) → IsRead (λ (b : Bor (List ℕ)). b.now) next iterator m → IsModuleOf text m
  read_module m h =
      let l = lays (map Ok h.tokens) h.came in
      record {
        tokens = map lexeme_of h.tokens;
        laid_out = laid_out text is_text lines left l.0 l.1 h.tokens l.2;
        spelled = h.is;
      }

  pub refused_module : (r : Refusal) → IsRefusedByTokens (λ (b : Bor (List ℕ)). b.now) next iterator r
      ⊎ IsFaulty (λ (b : Bor (List ℕ)). b.now) next iterator (Refused r) → IsRefusalOf text r
  refused_module r (inl h) =
      let l = lays (map Ok h.tokens) h.came in
      of_grammar (record {
        tokens = map lexeme_of h.tokens;
        laid_out = laid_out text is_text lines left l.0 l.1 h.tokens
            l.2;
        refused = h.is;
      })
  refused_module r (inr h) = let l = lays (map Ok h.tokens ++ Err (Refused r) ∷ []) h.came in
      refused_before text is_text lines left l.0 l.1 h.tokens r l.2

  pub reads : (r : Result RustModule Fault) → IfOk r (λ m. IsRead (λ (b : Bor (List ℕ)). b.now) next iterator (module_of m))
      → IfOk r (λ m. IsModuleOf text (module_of m))
  reads (Ok m) h = read_module (module_of m) h
  reads (Err e) h = tt

  pub refuses : (r : Result RustModule Fault)
      → IfErr r (OnRefusal (λ q. IsRefusedByTokens (λ (b : Bor (List ℕ)). b.now) next iterator q
      ⊎ IsFaulty (λ (b : Bor (List ℕ)). b.now) next iterator (Refused q))) → IfErr r (OnRefusal (IsRefusalOf text))
  refuses (Ok m) h = tt
  refuses (Err (Refused q)) h = refused_module q h
  refuses (Err OutOfMemory) h = tt
