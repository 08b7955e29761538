-- Entries of a dict display, one after another.
use Rattle.std.specs.declared.convert.AsStr.{Ghosts as TextOf}
use Rattle.std.specs.declared.iter.Iterator.{Ghosts as TokensOf}
use Rattle.std.proofs.Common.{◌≡◌, ℕ, ◌<◌, true, false, [], ◌∷◌, ◌++◌, Result, refl, arith, ap, ◌∙◌}
use Rattle.std.proofs.Common.{subst}
use Rattle.pc_source.specs.declared.fault.Fault.{Fault}
use Rattle.pc_token.specs.declared.token.Token.{Token}
use Rattle.pc_token.specs.declared.token.TokenKind.TheVariants as kind
use Rattle.pc_token.specs.declared.token.Operator.TheVariants as sign
use Rattle.pc_tree.specs.Tree.{Entries as EntryTrees, dict}
use Rattle.pc_grammar.specs.Machine.{at, transition}
use Rattle.pc_grammar.specs.Machine.Kinds.{operand_start}
use Rattle.pc_grammar.specs.Machine.States.{Part, Stack, keying, valuing, operand, have, key_due, on}
use Rattle.pc_grammar.specs.Machine.Finishing.{add_entry}
use Rattle.pc_grammar.specs.Machine.Expressions.{needed_level, bare_part, operand_turn}
use Rattle.pc_reader.specs.declared.reader.Reader.{Reader}
use Rattle.pc_reader.specs.declared.operand.Operand.{Operand}
use Rattle.pc_reader.specs.declared.items.Entries.{Entries}
use Rattle.pc_reader.specs.Internal.Brackets.{KeepsEntries}
use Rattle.pc_reader.specs.Internal.Operands.{KeepsPart, Builds}
use Rattle.pc_reader.specs.Reading.{lexeme, IsAhead, Came, Onward, Takes, left_in}
use Rattle.pc_reader.specs.Internal.Expressions.{GivesOperand}
use Rattle.pc_reader.proofs.BracketLoops.{EntriesSoFar}
use Rattle.pc_reader.proofs.Building.{first_more, starts_more, ends_more, ends_at}
use Rattle.pc_reader.proofs.Listing.{key_begins}
use Rattle.pc_reader.proofs.SameKind.{is_same}
use Rattle.pc_reader.proofs.Steps.{step_to}

module _ {X I : Type 0} (texts : TextOf X) (source : TokensOf I (Result (Token X) Fault)) where
  pub key_read : {a b c : Reader X I} {start : ℕ} {now : Entries} {o : Operand}
      (v : EntriesSoFar texts source a b start now) (s : Stack) → IsAhead (kind.Operator sign.LeftBrace) a.ahead
      ≡ true → IsAhead (kind.Operator sign.RightBrace) b.ahead ≡ false
      → (q : GivesOperand texts source (λ s. needed_level s ≡ 0) 0 b c o)
      → Onward texts.text source.next_gives a c (at (operand s))
      (at (have o.level q.part (keying v.entries v.tokens s)))
  key_read {b = b} v s f n q r x = v.leads s f r (key_begins texts.text source.next_gives b v.entries v.tokens s n r
      (q.leads (keying v.entries v.tokens s) refl r x))

  pub value_due : {a b c d : Reader X I} {start : ℕ} {now : Entries} {o : Operand} {t : Token X}
      (v : EntriesSoFar texts source a b start now) (s : Stack) → IsAhead (kind.Operator sign.LeftBrace) a.ahead
      ≡ true → IsAhead (kind.Operator sign.RightBrace) b.ahead ≡ false
      → (q : GivesOperand texts source (λ s. needed_level s ≡ 0) 0 b c o) → Takes texts source c d t
      → t.kind ≡ kind.Operator sign.Colon
      → Onward texts.text source.next_gives a d (at (operand s))
      (at (operand (valuing v.entries q.part.tree (v.tokens ++ (q.part.tokens ++ (lexeme texts.text t ∷ []))) s)))
  value_due {o = o} {t = t} v s f n q k e r x = key_read v s f n q r
      (step_to (have o.level q.part (keying v.entries v.tokens s))
      (operand (valuing v.entries q.part.tree (v.tokens ++ (q.part.tokens ++ (lexeme texts.text t ∷ []))) s)) k
      (ap (transition (have o.level q.part (keying v.entries v.tokens s)) (lexeme texts.text t)) e) r x)

  pub value_read : {a b c d f : Reader X I} {start : ℕ} {now : Entries} {o o' : Operand} {t : Token X}
      (v : EntriesSoFar texts source a b start now) (s : Stack) → IsAhead (kind.Operator sign.LeftBrace) a.ahead
      ≡ true → IsAhead (kind.Operator sign.RightBrace) b.ahead ≡ false
      → (q : GivesOperand texts source (λ s. needed_level s ≡ 0) 0 b c o) → Takes texts source c d t
      → t.kind ≡ kind.Operator sign.Colon → (w : GivesOperand texts source (λ s. needed_level s ≡ 0) 0 d f o')
      → Onward texts.text source.next_gives a f (at (operand s))
      (at
      (have o'.level w.part (valuing v.entries q.part.tree (v.tokens
      ++ (q.part.tokens ++ (lexeme texts.text t ∷ [])))
      s)))
  value_read {t = t} v s g n q k e w r x = value_due v s g n q k e r
      (w.leads (valuing v.entries q.part.tree (v.tokens ++ (q.part.tokens ++ (lexeme texts.text t ∷ []))) s) refl r x)

  -- an entry and a comma after it
  pub entry_more : {a b c d f g : Reader X I} {start : ℕ} {now now' : Entries} {o o' : Operand} {t u : Token X}
      (v : EntriesSoFar texts source a b start now) → IsAhead (kind.Operator sign.RightBrace) b.ahead ≡ false
      → (q : GivesOperand texts source (λ s. needed_level s ≡ 0) 0 b c o) → Takes texts source c d t
      → t.kind ≡ kind.Operator sign.Colon → (w : GivesOperand texts source (λ s. needed_level s ≡ 0) 0 d f o')
      → ((es : EntryTrees) (x y : Part) → KeepsEntries now es → KeepsPart o x → KeepsPart o' y
      → KeepsEntries now' (add_entry es x.tree y.tree)) → Takes texts source f g u
      → u.kind ≡ kind.Operator sign.Comma
      → EntriesSoFar texts source a g start now'
  entry_more {o' = o'} {t = t} {u = u} v n q k e w p h i = record {
    entries = add_entry v.entries q.part.tree w.part.tree;
    tokens = (v.tokens ++ (q.part.tokens ++ (lexeme texts.text t ∷ [])))
        ++ (w.part.tokens ++ (lexeme texts.text u ∷ []));
    starts = starts_more _ (starts_more _ v.starts);
    begins = λ z y. first_more _ (starts_more (q.part.tokens ++ (lexeme texts.text t ∷ [])) v.starts)
        ∙ first_more _ v.starts
        ∙ v.begins z y;
    keeps = p v.entries q.part w.part v.keeps q.keeps w.keeps;
    leads = λ s z r x. value_read v s z n q k e w r
        (step_to (have o'.level w.part (valuing v.entries q.part.tree
        (v.tokens ++ (q.part.tokens ++ (lexeme texts.text t ∷ []))) s))
        (key_due (add_entry v.entries q.part.tree w.part.tree)
        ((v.tokens ++ (q.part.tokens ++ (lexeme texts.text t ∷ [])))
        ++ (w.part.tokens ++ (lexeme texts.text u ∷ []))) s) h
        (ap
        (transition (have o'.level w.part (valuing v.entries q.part.tree
        (v.tokens ++ (q.part.tokens ++ (lexeme texts.text t ∷ []))) s)) (lexeme texts.text u)) i) r x);
  }

  -- the last entry and the closing brace
  pub entry_last : {a b c d f g : Reader X I} {start : ℕ} {now now' : Entries} {o o' made : Operand} {t u : Token X}
      (v : EntriesSoFar texts source a b start now) → IsAhead (kind.Operator sign.RightBrace) b.ahead ≡ false
      → (q : GivesOperand texts source (λ s. needed_level s ≡ 0) 0 b c o) → Takes texts source c d t
      → t.kind ≡ kind.Operator sign.Colon → (w : GivesOperand texts source (λ s. needed_level s ≡ 0) 0 d f o')
      → ((es : EntryTrees) (x y : Part) → KeepsEntries now es → KeepsPart o x → KeepsPart o' y
      → KeepsEntries now' (add_entry es x.tree y.tree)) → (h : Takes texts source f g u)
      → u.kind ≡ kind.Operator sign.RightBrace → {last : ℕ} → u.place.end ≡ last
      → made.level ≡ 7 → ((es : EntryTrees) → KeepsEntries now' es → Builds made (λ z. dict z es) start last)
      → left_in source.remaining b < left_in source.remaining a → GivesOperand texts source
      (λ s. IsAhead (kind.Operator sign.LeftBrace) a.ahead ≡ true) 7 a g made
  entry_last {g = g} {o' = o'} {t = t} {u = u} v n q k e w p h i d l m y = record {
    part = bare_part (λ z. dict z (add_entry v.entries q.part.tree w.part.tree))
        ((v.tokens ++ (q.part.tokens ++ (lexeme texts.text t ∷ []))) ++ (w.part.tokens ++ (lexeme texts.text u ∷ [])));
    keeps = m (add_entry v.entries q.part.tree w.part.tree) (p v.entries q.part w.part v.keeps q.keeps w.keeps) _
        (starts_more _ (starts_more _ v.starts)) (ends_more (v.tokens ++ (q.part.tokens ++ (lexeme texts.text t ∷ [])))
        (ends_more w.part.tokens (ends_at (lexeme texts.text u) d)));
    low = omega (arith, l);
    ready = h.ready;
    later = omega (arith, y, q.later, k.later, w.later, h.later);
    begins = λ z x. first_more _ (starts_more (q.part.tokens ++ (lexeme texts.text t ∷ [])) v.starts)
        ∙ first_more _ v.starts
        ∙ v.begins z x;
    leads = λ s z r x. value_read v s z n q k e w r
        (step_to (have o'.level w.part (valuing v.entries q.part.tree
        (v.tokens ++ (q.part.tokens ++ (lexeme texts.text t ∷ []))) s))
        (have 7 (bare_part (λ z. dict z (add_entry v.entries q.part.tree w.part.tree))
        ((v.tokens ++ (q.part.tokens ++ (lexeme texts.text t ∷ []))) ++ (w.part.tokens ++ (lexeme texts.text u ∷ []))))
        s) h
        (ap
        (transition (have o'.level w.part (valuing v.entries q.part.tree
        (v.tokens ++ (q.part.tokens ++ (lexeme texts.text t ∷ []))) s)) (lexeme texts.text u)) i) r
        (subst
        (λ y. Came texts.text source.next_gives g
        (at (have y (bare_part (λ z. dict z (add_entry v.entries q.part.tree w.part.tree))
        ((v.tokens ++ (q.part.tokens ++ (lexeme texts.text t ∷ []))) ++ (w.part.tokens ++ (lexeme texts.text u ∷ []))))
        s)) r) l
        x));
  }

  -- the closing brace and no further entry
  pub entries_end : {a b c : Reader X I} {start : ℕ} {now : Entries} {made : Operand} {t : Token X}
      (v : EntriesSoFar texts source a b start now) → (h : Takes texts source b c t)
      → t.kind ≡ kind.Operator sign.RightBrace → {last : ℕ} → t.place.end ≡ last
      → made.level ≡ 7 → ((es : EntryTrees) → KeepsEntries now es → Builds made (λ z. dict z es) start last)
      → left_in source.remaining b < left_in source.remaining a → GivesOperand texts source
      (λ s. IsAhead (kind.Operator sign.LeftBrace) a.ahead ≡ true) 7 a c made
  entries_end {c = c} {t = t} v h i d l m y = record {
    part = bare_part (λ z. dict z v.entries) (v.tokens ++ (lexeme texts.text t ∷ []));
    keeps = m v.entries v.keeps _ (starts_more _ v.starts) (ends_more v.tokens (ends_at (lexeme texts.text t) d));
    low = omega (arith, l);
    ready = h.ready;
    later = omega (arith, y, h.later);
    begins = λ z x. first_more _ v.starts ∙ v.begins z x;
    leads = λ s z r x. v.leads s z r (step_to (key_due v.entries v.tokens s)
        (have 7 (bare_part (λ z. dict z v.entries) (v.tokens ++ (lexeme texts.text t ∷ []))) s) h
        (ap (λ y. on y (have 7 (bare_part (λ z. dict z v.entries) (v.tokens ++ (lexeme texts.text t ∷ []))) s)
        (operand_turn (keying v.entries v.tokens s) (lexeme texts.text t) (operand_start t.kind)))
        (is_same t.kind (kind.Operator sign.RightBrace) i)) r
        (subst (λ y. Came texts.text source.next_gives c
        (at (have y (bare_part (λ z. dict z v.entries) (v.tokens ++ (lexeme texts.text t ∷ []))) s))
        r) l x));
  }
