-- The items of the iterator of tokens, as a whole.
use Rattle.std.proofs.Common.{◌≡◌, ◌⊎◌, ℕ, List, [], ◌∷◌, ◌++◌, true, false, Option, Some, None, Result, Ok, Err, Bor}
use Rattle.std.proofs.Common.{map, length, refl, ap, sym, ◌∙◌, inl, inr, subst}
use Rattle.pc_source.specs.declared.fault.Refusal.{Refusal}
use Rattle.pc_source.specs.declared.fault.Fault.{Fault}
use Rattle.pc_source.specs.declared.fault.Fault.TheVariants.{Refused}
use Rattle.pc_source.specs.Stream.{Yields}
use Rattle.pc_token.specs.declared.token.Line.{Line}
use Rattle.pc_token.specs.declared.token.Token.{Token}
use Rattle.pc_token.specs.Lexeme.{Lexeme, LogicalLine}
use Rattle.pc_layout.specs.Flat.{flat, written_line}
use Rattle.pc_layout.specs.Spelling.{first_byte}
use Rattle.pc_layout.specs.Placing.{LayoutContext}
use Rattle.pc_layout.specs.Stepping.{layout_lexemes, start, outrank, give, placed_line, step, after, dedents, indents}
use Rattle.pc_layout.specs.TokenIterator.PendingTokens.{asks}
use Rattle.pc_layout.specs.TokenIterator.Items.{line_item_of, token_item_of, ItemsLeft}
use Rattle.pc_layout.specs.TokenIterator.NextToken.{gives_next_token}
use Rattle.pc_layout.specs.Answering.{lines_came, fault_came, AnswersLines, Refuses, LaysOut}
use Rattle.pc_layout.specs.TokenIterator.Start.{IsAtStart}
use Rattle.pc_layout.specs.declared.layout_tokens.LayoutTokens.{LayoutTokens}
use Rattle.pc_layout.proofs.Laying.{laid_line, laid_refused, laid_fault}
use Rattle.pc_layout.proofs.Forests.{came, given_is, planted, Planted}
use Rattle.pc_layout.proofs.Verdicts.{verdict, laid_out, laid_wrong, refused_given, IsGivenFault}

-- tokens before others, in a row
pub give_is : (xs : List Lexeme) (o : List (Result Lexeme Fault)) → give xs o ≡ map Ok xs ++ o
give_is [] o = refl
give_is (x ∷ xs) o = ap (λ z. Ok x ∷ z) (give_is xs o)

pub give_all : (xs : List Lexeme) → give xs [] ≡ map Ok xs
give_all [] = refl
give_all (x ∷ xs) = ap (λ z. Ok x ∷ z) (give_all xs)

settle_fault : (r : Refusal) (ls : List (Result LogicalLine Fault)) (e : Fault) → fault_came ls ≡ Some e
    → outrank r ls ≡ e
settle_fault r [] e h = absurd (cc)
settle_fault r (Ok l ∷ ls) e h = settle_fault r ls e h
settle_fault r (Err f ∷ ls) e h = cc

-- a fault among the lines is given after some tokens
pub faulty : (text : List ℕ) (x : LayoutContext) (ls : List (Result LogicalLine Fault)) (e : Fault)
    → fault_came ls ≡ Some e → (front : List Lexeme) × (layout_lexemes text x ls ≡ give front (Err e ∷ []))
faulty text x [] e h = absurd (cc)
faulty text x (Err f ∷ ls) e h = ([], laid_fault text x f ls ∙ (let q : f ≡ e = cc in ap (λ z. Err z ∷ []) q))
faulty text x (Ok l ∷ ls) e h = elim (step (length text) x l) as (λ o. step (length text) x l ≡ o
    → (front : List Lexeme) × (layout_lexemes text x (Ok l ∷ ls) ≡ give front (Err e ∷ []))) [
      | Ok p ↦ λ s. let g : (front : List Lexeme) × (layout_lexemes text (after p l.lexemes) ls
          ≡ give front (Err e ∷ [])) =
          faulty text (after p l.lexemes) ls e h in (
            dedents p.dedents (first_byte (length text) l.lexemes)
                ++ (indents p.indent (first_byte (length text) l.lexemes)
                ++ (written_line text l.lexemes ++ g.0)),
            laid_line text x l p ls s ∙ ap (placed_line text p l.lexemes) g.1
                ∙ given_is text p l.lexemes g.0 (Err e ∷ []),
          )
      | Err r ↦ λ s. ([], laid_refused text x l r ls s ∙ ap (λ z. Err z ∷ []) (settle_fault r ls e h))
    ] refl

all_came : (ls : List (Result LogicalLine Fault)) → (ls ≡ came (lines_came ls)) × (fault_came ls ≡ None)
    ⊎ ((e : Fault) × (fault_came ls ≡ Some e))
all_came [] = inl (refl, refl)
all_came (Ok l ∷ ls) = elim (all_came ls) [ inl h ↦ inl (ap (λ z. Ok l ∷ z) h.0, h.1) | inr h ↦ inr h ]
all_came (Err e ∷ ls) = inr (e, refl)

-- the tokens laid out are the result of the lines
pub answers : (text : List ℕ) (ls : List (Result LogicalLine Fault)) (ys : List (Result Lexeme Fault))
    → layout_lexemes text start ls ≡ ys → AnswersLines text ls ys
answers text ls ys h = elim (all_came ls) [
  | inr f ↦ let g : (front : List Lexeme) × (layout_lexemes text start ls ≡ give front (Err f.0 ∷ [])) =
      faulty text start ls f.0 f.1 in
      rw f.1 (record { tokens = g.0; all = sym h ∙ g.1 ∙ give_is g.0 (Err f.0 ∷ []) })
  | inl n ↦ let k : layout_lexemes text start (came (lines_came ls)) ≡ ys = ap (layout_lexemes text start) (sym n.0)
      ∙ h in
      rw n.1 (elim (verdict (length text) start (lines_came ls)) [
        | inl w ↦ let g : Planted text (lines_came ls) = planted text (lines_came ls) w in
            inl (record {
              tokens = flat text g.forest;
              all = sym k ∙ g.written ∙ give_all (flat text g.forest);
              layout =
                  laid_out text (lines_came ls) (flat text g.forest) g.written;
            })
        | inr w ↦ let g : (front : List Lexeme) × (layout_lexemes text start (came (lines_came ls))
            ≡ give front (Err (Refused w.0) ∷ [])) = refused_given text start (lines_came ls) w.0 w.1 in
            let v : IsGivenFault text (lines_came ls) (Refused w.0) = laid_wrong text (lines_came ls) g.0 (Refused w.0)
            g.1 in
            let q : v.refusal ≡ w.0 = let u : Refused w.0 ≡ Refused v.refusal = v.fault in cc in
            inr (record {
              refusal = w.0;
              fault = record { tokens = g.0; all = sym k ∙ g.1 ∙ give_is g.0 (Err (Refused w.0) ∷ []) };
              refuses = subst (Refuses text (lines_came ls)) q (record { stands = v.stands; first = v.least });
            })
      ])
]

module _ {I : Type 0} (steps : I → Option (Result Line Fault) → I → Type 0) where
  abbrev pub toks_gives : LayoutTokens I → Option (Result (Token (Bor (List ℕ))) Fault) → LayoutTokens I → Type 0
  toks_gives s r t = gives_next_token steps s.pending_line s.lines r t.pending_line t.lines

  -- the tokens that come are those that are left
  pub comes_left : (s : LayoutTokens I) (xs : List (Result (Token (Bor (List ℕ))) Fault)) → Yields toks_gives s xs
      → ItemsLeft steps s.pending_line s.lines (map token_item_of xs)
  comes_left s [] (t, (d, l)) = l
  comes_left s (Ok x ∷ xs) (j, g, cm) = g (map token_item_of xs) (comes_left j xs cm)
  comes_left s (Err e ∷ xs) (q, j, (d, l)) = rw q l

  -- from the first token on they are the layout of the lines that come
  pub lays_out : (text : List ℕ) (it : I) (s : LayoutTokens I) → IsAtStart text it s → LaysOut steps toks_gives text it s
  lays_out text it s b xs cm = elim (comes_left s xs cm) [
    | inl h ↦ absurd (let q : true ≡ false = sym (ap asks b.due) ∙ h.0 in cc)
    | inr h ↦ (
      h.1.0,
      rw b.over at h.1.1,
      answers text (map line_item_of h.1.0) (map token_item_of xs)
          (sym (b.tokens (map line_item_of h.1.0)) ∙ h.1.2),
    )
  ]
