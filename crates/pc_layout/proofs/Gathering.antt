-- The tokens of a list of lines, gathered one after another.
use Rattle.std.proofs.Common.{◌≡◌, ◌⊎◌, ℕ, List, [], ◌∷◌, ◌++◌, true, false, Some, Result, Ok, Err, map, ap, sym, ◌∙◌}
use Rattle.std.proofs.Common.{inl, inr}
use Rattle.pc_source.specs.Answers.{OnRefusal}
use Rattle.pc_source.specs.declared.fault.Fault.{Fault}
use Rattle.pc_source.specs.declared.fault.Fault.TheVariants.{OutOfMemory}
use Rattle.pc_source.specs.Stream.{Yields}
use Rattle.pc_token.specs.declared.token.Line.{Line}
use Rattle.pc_token.specs.Lexeme.{Lexeme, LogicalLine, logical_line_of}
use Rattle.pc_layout.specs.Layouts.{IsLayout}
use Rattle.pc_layout.specs.Stepping.{layout_lexemes, start, give}
use Rattle.pc_layout.specs.TokenIterator.PendingTokens.{asks}
use Rattle.pc_layout.specs.TokenIterator.Items.{line_item_of, ItemsLeft}
use Rattle.pc_layout.specs.Answering.{fault_came, Refuses}
use Rattle.pc_layout.specs.TokenIterator.Start.{IsAtStart}
use Rattle.pc_layout.specs.Internal.ListedLines.{lines_left, gives_line}
use Rattle.pc_layout.specs.declared.listed.Listed.{Listed}
use Rattle.pc_layout.specs.declared.layout_tokens.LayoutTokens.{LayoutTokens}
use Rattle.pc_layout.proofs.Forests.{came, give_append}
use Rattle.pc_layout.proofs.Verdicts.{laid_out, laid_wrong, give_fault, same_fault, IsGivenFault}
use Rattle.pc_layout.proofs.Comings.{faulty}

-- the lines of the list come, or an allocation failed
copies_come : (s : Listed) (ks : List (Result Line Fault)) → Yields gives_line s ks
    → (map line_item_of ks ≡ came (lines_left s)) ⊎ (fault_came (map line_item_of ks) ≡ Some OutOfMemory)
copies_come s [] (t, e) = inl (ap came (sym e.0))
copies_come s (Ok l ∷ ks) (j, e, cm) = elim (copies_come j ks cm) [
  | inl h ↦ inl (ap (λ z. Ok (logical_line_of l) ∷ z) h ∙ ap came (sym e))
  | inr h ↦ inr h
]
copies_come s (Err f ∷ ks) (q, j, e) = inr (ap Some e)

-- these tokens were gathered, and these are left
pub record Gathers (text : List ℕ) (ls : List LogicalLine) (ts : List Lexeme) (ys : List (Result Lexeme Fault)) : Type
    0 where
  pub items : List (Result LogicalLine Fault)
  pub copied : (items ≡ came ls) ⊎ (fault_came items ≡ Some OutOfMemory)
  pub given : layout_lexemes text start items ≡ give ts ys

pub gathers_first : (text : List ℕ) (it : Listed) (s : LayoutTokens Listed) (ys : List (Result Lexeme Fault))
    → IsAtStart text it s → ItemsLeft gives_line s.pending_line s.lines ys → Gathers text (lines_left it) [] ys
gathers_first text it s ys b (inl h) = absurd (let q : true ≡ false = sym (ap asks b.due) ∙ h.0 in cc)
gathers_first text it s ys b (inr (a, (ks, cm, p))) = record {
  items = map line_item_of ks;
  copied = copies_come it ks (rw b.over at cm);
  given = sym (b.tokens (map line_item_of ks)) ∙ p;
}

pub gathers_more : (text : List ℕ) (ls : List LogicalLine) (ts : List Lexeme) (x : Lexeme) (us : List Lexeme)
    (ys : List (Result Lexeme Fault)) → us ≡ ts ++ x ∷ [] → Gathers text ls ts (Ok x ∷ ys) → Gathers text ls us ys
gathers_more text ls ts x us ys e g = record {
  items = g.items;
  copied = g.copied;
  given = g.given
      ∙ give_append ts (x ∷ []) ys ∙ ap (λ z. give z ys) (sym e);
}

pub gathered : (text : List ℕ) (ls : List LogicalLine) (ts : List Lexeme) → Gathers text ls ts [] → IsLayout text ls ts
gathered text ls ts g = elim g.copied [
  | inl e ↦ laid_out text ls ts (ap (layout_lexemes text start) (sym e) ∙ g.given)
  | inr e ↦ let f : (front : List Lexeme) × (layout_lexemes text start g.items ≡ give front (Err OutOfMemory ∷ [])) =
      faulty text start g.items OutOfMemory e in absurd (give_fault ts f.0 OutOfMemory (sym g.given ∙ f.1))
]

pub gathered_fault : (text : List ℕ) (ls : List LogicalLine) (ts : List Lexeme) (e : Fault)
    → Gathers text ls ts (Err e ∷ []) → OnRefusal (Refuses text ls) e
gathered_fault text ls ts e g = elim g.copied [
  | inl q ↦ let v : IsGivenFault text ls e = laid_wrong text ls ts e (ap (layout_lexemes text start) (sym q)
      ∙ g.given) in rw v.fault (record { stands = v.stands; first = v.least })
  | inr q ↦ let f : (front : List Lexeme) × (layout_lexemes text start g.items ≡ give front (Err OutOfMemory ∷ [])) =
      faulty text start g.items OutOfMemory q in
      let m : e ≡ OutOfMemory = same_fault ts f.0 e OutOfMemory (sym g.given ∙ f.1) in rw m tt
]
