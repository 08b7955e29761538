-- Operands without a sign, and their continuations.
use Rattle.std.specs.declared.convert.AsStr.{Ghosts as TextOf}
use Rattle.std.specs.declared.iter.Iterator.{Ghosts as TokensOf}
use Rattle.std.proofs.Common.{◌≡◌, ℕ, ◌≤◌, ◌<◌, ◌⊎◌, inl, inr, false, List, [], ◌∷◌, ◌++◌, Option, Result, refl, arith}
use Rattle.std.proofs.Common.{ap, sym, ◌∙◌, subst, Ok, Err}
use Rattle.pc_source.specs.declared.fault.Fault.{Fault}
use Rattle.pc_token.specs.declared.token.Token.{Token}
use Rattle.pc_token.specs.declared.token.TokenKind.{TokenKind}
use Rattle.pc_token.specs.declared.token.TokenKind.TheVariants as kind
use Rattle.pc_token.specs.declared.token.Keyword.TheVariants as word
use Rattle.pc_token.specs.declared.token.Operator.TheVariants as sign
use Rattle.pc_token.specs.Lexeme.{Lexeme}
use Rattle.pc_tree.specs.Tree.{no_exprs, index}
use Rattle.pc_grammar.specs.Machine.{at, transition}
use Rattle.pc_grammar.specs.Machine.States.{Part, minus, in_call, Stack, applying, indexing, State, operand, have}
use Rattle.pc_grammar.specs.Machine.States.{dotted}
use Rattle.pc_grammar.specs.Machine.States.{item_due, go}
use Rattle.pc_grammar.specs.Machine.Expressions.{needed_level, bare_part}
use Rattle.pc_reader.specs.declared.reader.Reader.{Reader}
use Rattle.pc_reader.specs.declared.operand.Operand.{Operand}
use Rattle.pc_reader.specs.Internal.Operands.{KeepsPart, Builds, signs_on, starts_of}
use Rattle.pc_reader.specs.Reading.{lexeme, IsAhead, Came, Takes}
use Rattle.pc_reader.specs.Internal.Expressions.{GivesOperand, GivesOn, NextIs, Undotted, IsPrimary, ReadsOperand}
use Rattle.pc_reader.specs.Internal.Expressions.{wrapped_level}
use Rattle.pc_reader.proofs.Building.{first_more, starts_more, ends_more, ends_at}
use Rattle.pc_reader.proofs.Frames.{tight}
use Rattle.pc_reader.proofs.Joining.{low_undotted}
use Rattle.pc_reader.proofs.Signs.{signs_rank_is}
use Rattle.pc_reader.proofs.Steps.{step_to}
use Rattle.pc_reader.proofs.Streams.{blame}

-- after all minus signs no further one stands, and no `not` either
pub behind_signs : {X I : Type 0} (a b : Reader X I) (starts : List ℕ) (ts : List Lexeme) (s : Stack) (level : ℕ)
    → starts_of ts ≡ starts → (starts ≡ [] → b.ahead ≡ a.ahead)
    → IsAhead (kind.Operator sign.Minus) b.ahead ≡ false → needed_level s ≡ level → (2 < level)
    ⊎ (IsAhead (kind.Keyword word.Not) a.ahead ≡ false) → IsPrimary b (signs_on minus ts s)
behind_signs a b starts [] s level e h n r (inl d) = record { plain = n; undenied = inl (omega (arith, d, r)) }
behind_signs a b starts [] s level e h n r (inr d) = record {
  plain = n;
  undenied =
      inr (ap (IsAhead (kind.Keyword word.Not)) (h (sym e)) ∙ d);
}
behind_signs a b starts (t ∷ ts) s level e h n r d = record {
  plain = n;
  undenied =
      inl (let q = signs_rank_is minus ts (applying minus (t ∷ []) s) refl in omega (arith, q));
}

-- a token that does not continue an operand does not continue it after minus signs
pub minus_undotted : {X : Type 0} (a : Option (Token X)) (ts : List Lexeme) (own : ℕ) → NextIs (Undotted own) a
    → NextIs (Undotted (wrapped_level minus ts own)) a
minus_undotted a [] own u = u
minus_undotted a (t ∷ ts) own u = low_undotted a 6 (omega arith)

pub dot_turn : (level : ℕ) (p : Part) (s : Stack) (t : Lexeme) (k : TokenKind) → 7 ≤ level → k ≡ kind.Operator sign.Dot
    → transition (have level p s) t k ≡ go (dotted p (t ∷ []) s)
dot_turn level p s t k h e = ap (transition (have level p s) t) e ∙ tight 7 level (go (dotted p (t ∷ []) s)) h

pub call_turn : (level : ℕ) (p : Part) (s : Stack) (t : Lexeme) (k : TokenKind) → 7 ≤ level
    → k ≡ kind.Operator sign.LeftParenthesis
    → transition (have level p s) t k ≡ go (item_due (in_call p.tree) no_exprs (p.tokens ++ (t ∷ [])) s)
call_turn level p s t k h e = ap (transition (have level p s) t) e ∙ tight 7 level
    (go (item_due (in_call p.tree) no_exprs (p.tokens ++ (t ∷ [])) s)) h

pub index_turn : (level : ℕ) (p : Part) (s : Stack) (t : Lexeme) (k : TokenKind) → 7 ≤ level
    → k ≡ kind.Operator sign.LeftBracket
    → transition (have level p s) t k ≡ go (operand (indexing p.tree (p.tokens ++ (t ∷ [])) s))
index_turn level p s t k h e = ap (transition (have level p s) t) e
    ∙ tight 7 level (go (operand (indexing p.tree (p.tokens ++ (t ∷ [])) s))) h

module _ {X I : Type 0} (texts : TextOf X) (source : TokensOf I (Result (Token X) Fault)) where
  -- an operand, a token that goes on with it, and what stands after that
  pub goes_on : {K : Type 0} (st : K → Part → Stack → State) (k : K) {fits : Stack → Type 0} {a b c d : Reader X I}
      {o o' : Operand} {t : Token X} (v : GivesOperand texts source fits 7 a b o) → Takes texts source b c t
      → ((s : Stack) → transition (have o.level v.part s) (lexeme texts.text t) t.kind ≡ go (st k v.part s))
      → GivesOn texts source st 7 c d o o' → GivesOperand texts source fits 7 a d o'
  goes_on st k {d = d} {o = o} {o' = o'} v h f n = let j = n.goes k v.part v.keeps in record {
    part = j.part;
    keeps = j.keeps;
    low = omega (arith, n.level_is);
    ready = n.ready;
    later = omega (arith, v.later, h.later, n.later);
    begins = λ u e. j.begins ∙ v.begins u e;
    leads = λ s r x y. v.leads s r x (step_to (have o.level v.part s) (st k v.part s) h (f s) x
        (j.leads s x (subst (λ z. Came texts.text source.next_gives d (at (have z j.part s)) x) n.level_is y)));
  }

  -- the key in brackets after an operand
  pub indexed_with : {a b c : Reader X I} {o inner made : Operand} {u : Token X} {last : ℕ}
      → (q : GivesOperand texts source (λ s. needed_level s ≡ 0) 0 a b inner) → Takes texts source b c u
      → u.kind ≡ kind.Operator sign.RightBracket → u.place.end ≡ last
      → made.level ≡ 7 → ((p k : Part) → KeepsPart o p → KeepsPart inner k → Builds made (λ z. index z p.tree k.tree)
      o.start last)
      → GivesOn texts source (λ t p s. operand (indexing p.tree (p.tokens ++ (t ∷ [])) s)) 7 a c o made
  indexed_with {o = o} {inner = inner} {u = u} q k j e lv m = record {
    level_is = lv;
    ready = k.ready;
    later = omega (arith, q.later, k.later);
    goes = λ t p kp. record {
      part = bare_part (λ z. index z p.tree q.part.tree) ((p.tokens ++ (t ∷ []))
          ++ (q.part.tokens ++ (lexeme texts.text u ∷ [])));
      keeps = m p q.part kp q.keeps _ (starts_more _ (starts_more (t ∷ []) kp.starts))
          (ends_more (p.tokens ++ (t ∷ [])) (ends_more q.part.tokens (ends_at (lexeme texts.text u) e)));
      begins = first_more _ (starts_more (t ∷ []) kp.starts) ∙ first_more (t ∷ []) kp.starts;
      leads = λ s x y. q.leads (indexing p.tree (p.tokens ++ (t ∷ [])) s) refl x
          (step_to (have inner.level q.part (indexing p.tree (p.tokens ++ (t ∷ [])) s))
          (have 7 (bare_part (λ z. index z p.tree q.part.tree) ((p.tokens ++ (t ∷ []))
          ++ (q.part.tokens ++ (lexeme texts.text u ∷ [])))) s) k
          (ap (transition (have inner.level q.part (indexing p.tree (p.tokens ++ (t ∷ [])) s))
          (lexeme texts.text u)) j) x y);
    };
  }

  -- an operand without a sign is one that binds as tightly as is due
  pub unsigned_reads : (a b : Reader X I) (r : Result Operand Fault) (level : ℕ) → level ≤ 6
      → ((s : Stack) → needed_level s ≡ level → IsPrimary a s)
      → ReadsOperand texts source (λ s. IsPrimary a s) 7 a b r
      → ReadsOperand texts source (λ s. needed_level s ≡ level) level a b r
  unsigned_reads a b (Ok o) level l f h = record {
    part = h.part;
    keeps = h.keeps;
    low = omega (arith, l, h.low);
    ready = h.ready;
    later = h.later;
    begins = h.begins;
    leads = λ s r. h.leads s (f s r);
  }
  unsigned_reads a b (Err e) level l f h = blame (λ o w. λ s r. w s (f s r)) h
