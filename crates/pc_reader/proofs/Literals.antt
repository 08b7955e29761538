-- Literals, as the machine reads them.
use Rattle.std.specs.declared.convert.AsStr.{Ghosts as TextOf}
use Rattle.std.specs.declared.iter.Iterator.{Ghosts as TokensOf}
use Rattle.std.proofs.Common.{◌≡◌, ℕ, true, false, List, [], ◌∷◌, Option, Some, None, Result, Ok, Err, refl, arith, ap}
use Rattle.std.proofs.Common.{sym, ◌∙◌}
use Rattle.std.specs.Prelude.{String, string_bytes}
use Rattle.std.specs.declared.alloc.Global.{Global}
use Rattle.pc_source.specs.declared.fault.Fault.{Fault}
use Rattle.pc_token.specs.declared.token.Token.{Token}
use Rattle.pc_token.specs.declared.token.TokenKind.{TokenKind}
use Rattle.pc_token.specs.declared.token.TokenKind.TheVariants as kind
use Rattle.pc_token.specs.declared.token.Keyword.TheVariants as word
use Rattle.pc_token.specs.declared.token.Operator.TheVariants as sign
use Rattle.pc_token.specs.Lexeme.{Lexeme}
use Rattle.pc_tree.specs.declared.tree.Literal.{Literal as RustLiteral}
use Rattle.pc_tree.specs.declared.tree.LiteralKind.TheVariants as rust
use Rattle.pc_tree.specs.Tree.{number_literal, negative_literal, text_literal, literal_of}
use Rattle.pc_grammar.specs.Grammar.{span, digits_of, characters_of}
use Rattle.pc_grammar.specs.Machine.{at, transition}
use Rattle.pc_grammar.specs.Machine.Kinds.{same_kind}
use Rattle.pc_grammar.specs.Machine.States.{LiteralContext, State, literal_due, minus_read, literal_read, Transition}
use Rattle.pc_grammar.specs.Machine.States.{stuck}
use Rattle.pc_grammar.specs.Machine.States.{go}
use Rattle.pc_grammar.specs.Machine.Finishing.{finish_literal}
use Rattle.pc_grammar.specs.Machine.Lines.{literal_turn}
use Rattle.pc_reader.specs.declared.reader.Reader.{Reader}
use Rattle.pc_reader.specs.Reading.{Blames, IsAhead, lexeme, Came, IsReady, Takes, Rejects}
use Rattle.pc_reader.specs.Internal.StatesAhead.{StandsBefore}
use Rattle.pc_reader.specs.Internal.Literals.{is_literal_kind, literal_ahead, IsLiteral, opens_literal, GivesLiteral}
use Rattle.pc_reader.specs.Internal.Literals.{ReadsLiteral, ReadsLiteralFrom, GivesDefault}
use Rattle.pc_reader.proofs.Steps.{step_to, not_seen}
use Rattle.pc_reader.proofs.Streams.{blame}
use Rattle.pc_reader.proofs.Stands.{stands_at, stands_so, passes, takes, stays, goes_to}

-- ---- the value of a token

pub number_is : (t : Lexeme) (digits : String Global) → t.kind ≡ kind.Int → string_bytes digits ≡ digits_of t.text
    → IsLiteral t (record { place = t.place; kind = rust.Int digits })
number_is t digits k e c = ap (literal_turn c t) k ∙ ap (λ z. go (literal_read c (number_literal (span (t ∷ [])) z)))
    (sym e)

pub text_is : (t : Lexeme) (characters : String Global) → t.kind ≡ kind.Str
    → string_bytes characters ≡ characters_of t.text → IsLiteral t
    (record { place = t.place; kind = rust.Str characters })
text_is t characters k e c = ap (literal_turn c t) k ∙ ap (λ z. go (literal_read c (text_literal (span (t ∷ [])) z)))
    (sym e)

pub true_is : (t : Lexeme) → t.kind ≡ kind.Keyword word.True → IsLiteral t
    (record { place = t.place; kind = rust.True })
true_is t k c = ap (literal_turn c t) k

pub false_is : (t : Lexeme) → t.kind ≡ kind.Keyword word.False
    → IsLiteral t (record { place = t.place; kind = rust.False })
false_is t k c = ap (literal_turn c t) k

pub none_is : (t : Lexeme) → t.kind ≡ kind.Keyword word.None → IsLiteral t
    (record { place = t.place; kind = rust.NoneValue })
none_is t k c = ap (literal_turn c t) k

-- ---- a token that begins no literal

no_literal_kind : (c : LiteralContext) (t : Lexeme) (k : TokenKind) → is_literal_kind k ≡ false
    → same_kind k (kind.Operator sign.Minus) ≡ false → literal_turn c t k ≡ stuck
no_literal_kind c t kind.Int v m = cc
no_literal_kind c t kind.Str v m = cc
no_literal_kind c t (kind.Keyword word.True) v m = cc
no_literal_kind c t (kind.Keyword word.False) v m = cc
no_literal_kind c t (kind.Keyword word.None) v m = cc
no_literal_kind c t (kind.Operator sign.Minus) v m = cc
no_literal_kind c t _ v m = refl

module _ {X I : Type 0} (text : X → List ℕ) where
  pub rejects_other : (a : Reader X I) (c : LiteralContext) → literal_ahead a.ahead ≡ false
      → IsAhead (kind.Operator sign.Minus) a.ahead ≡ false → Rejects text (literal_due c) a
  rejects_other a c v m = record {
    unfinished = refl;
    stuck_at = λ t h. no_literal_kind c (lexeme text t) t.kind
        (sym (ap literal_ahead h) ∙ v) (not_seen (kind.Operator sign.Minus) m h);
  }

pub literal_seen : {X : Type 0} {a : Option (Token X)} {t : Token X} → literal_ahead a ≡ true → a ≡ Some t
    → is_literal_kind t.kind ≡ true
literal_seen v h = sym (ap literal_ahead h) ∙ v

module _ {X I : Type 0} {texts : TextOf X} {source : TokensOf I (Result (Token X) Fault)} where
  pub single_literal : {a b : Reader X I} {t : Token X} {l : RustLiteral} → Takes texts source a b t
      → IsLiteral (lexeme texts.text t) l → GivesLiteral texts source (λ c. literal_due c) a b l
  single_literal {t = t} {l = l} h v = record {
    ready = h.ready;
    later = h.later;
    leads = λ c. step_to (literal_due c)
        (literal_read c (literal_of l)) h (v c);
  }

  pub negative_literal_is : {a b : Reader X I} {t : Token X} {digits : String Global}
      (h : Takes texts source a b t) (u : Lexeme) → t.kind ≡ kind.Int
      → string_bytes digits ≡ digits_of (texts.text t.text)
      → GivesLiteral texts source (λ c. minus_read c (u ∷ [])) a b
      (record { place = record { start = u.place.start; end = t.place.end }; kind = rust.NegativeInt digits })
  negative_literal_is {t = t} {digits = digits} h u k e = record {
    ready = h.ready;
    later = h.later;
    leads = λ c. step_to (minus_read c (u ∷ [])) (literal_read c
        (negative_literal (record { start = u.place.start; end = t.place.end }) (string_bytes digits))) h
        (ap (transition (minus_read c (u ∷ [])) (lexeme texts.text t)) k
        ∙ ap (λ z. go (literal_read c (negative_literal (record { start = u.place.start; end = t.place.end }) z)))
        (sym e));
  }

  -- after a `-`
  pub after_minus : {a m : Reader X I} {t : Token X} (b : Reader X I) → Takes texts source a m t
      → t.kind ≡ kind.Operator sign.Minus → (r : Result RustLiteral Fault)
      → ReadsLiteralFrom texts source (λ c. minus_read c (lexeme texts.text t ∷ [])) m b r
      → ReadsLiteral texts source a b r
  after_minus {t = t} b h k (Ok l) x = record {
    ready = x.ready;
    later = omega (arith, x.later, h.later);
    leads = λ c o y. step_to (literal_due c) (minus_read c (lexeme texts.text t ∷ [])) h
        (ap (transition (literal_due c) (lexeme texts.text t)) k) o (x.leads c o y);
  }
  after_minus {t = t} b h k (Err e) x = blame (λ o w. λ c. step_to (literal_due c)
      (minus_read c (lexeme texts.text t ∷ [])) h
      (ap (transition (literal_due c) (lexeme texts.text t)) k) o (w c)) x

  -- ---- a default that may be left out

  pub no_default : (a : Reader X I) → IsReady source.can_next source.remaining a
      → IsAhead (kind.Operator sign.Equal) a.ahead ≡ false
      → GivesDefault texts source a a None
  no_default a d e = record {
    ready = d;
    later = omega arith;
    leads = λ st c other x. stays (stands_so other x (λ t h. passes _ (literal_due c) (other t.kind)
        (not_seen (kind.Operator sign.Equal) e h)));
  }

  pub default_fails : {a m : Reader X I} {t : Token X} {e : Fault} → Takes texts source a m t
      → t.kind ≡ kind.Operator sign.Equal → Blames e (λ o. (c : LiteralContext)
      → Came texts.text source.next_gives m (at (literal_due c)) o)
      → Blames e (λ o. (st : State) (c : LiteralContext) (other : TokenKind → Transition)
      → StandsBefore texts.text a st (opens_literal c other) → Came texts.text source.next_gives a (at st) o)
  default_fails {t = t} h k w = blame (λ o u. λ st c other x. goes_to (literal_due c) x h
      (takes (kind.Operator sign.Equal) t.kind (literal_due c) (other t.kind) k) o (u c)) w

  pub default_read : {a m b : Reader X I} {t : Token X} {l : RustLiteral} → Takes texts source a m t
      → t.kind ≡ kind.Operator sign.Equal → GivesLiteral texts source (λ c. literal_due c) m b l
      → GivesDefault texts source a b (Some l)
  default_read {t = t} {l = l} h k x = record {
    ready = x.ready;
    later = omega (arith, x.later, h.later);
    leads = λ st c other s. record {
      behind = literal_read c (literal_of l);
      stands = stands_at (literal_read c (literal_of l)) (finish_literal c (literal_of l)) refl (λ u i. refl);
      leads = λ o y. goes_to (literal_due c) s h (takes (kind.Operator sign.Equal) t.kind (literal_due c) (other t.kind)
          k) o (x.leads c o y);
    };
  }
