-- Tokens that may follow a whole operand in brackets.
use Rattle.std.proofs.Common.{◌≡◌, ℕ, inl, inr, true, false, List, [], ◌∷◌, ◌++◌, Option, Some, refl, arith, ap, sym}
use Rattle.std.proofs.Common.{◌∙◌}
use Rattle.pc_token.specs.declared.token.Token.{Token}
use Rattle.pc_token.specs.declared.token.TokenKind.{TokenKind}
use Rattle.pc_token.specs.declared.token.TokenKind.TheVariants as kind
use Rattle.pc_token.specs.declared.token.Keyword.TheVariants as word
use Rattle.pc_token.specs.declared.token.Operator.{Operator as Bracket}
use Rattle.pc_token.specs.declared.token.Operator.TheVariants as sign
use Rattle.pc_token.specs.Lexeme.{Lexeme}
use Rattle.pc_tree.specs.Tree.{Name, Expr, Exprs, Entries, Keywords}
use Rattle.pc_grammar.specs.Machine.{transition}
use Rattle.pc_grammar.specs.Machine.Kinds.{same_kind, Ending, a_comma, a_colon, an_equal, closes_parenthesis}
use Rattle.pc_grammar.specs.Machine.Kinds.{closes_bracket, closes_brace, a_line_end, no_ending, Follow, link, a_dot}
use Rattle.pc_grammar.specs.Machine.Kinds.{calls}
use Rattle.pc_grammar.specs.Machine.Kinds.{indexes, ends, follow_of}
use Rattle.pc_grammar.specs.Machine.States.{Part, BracketPurpose, in_tuple, in_list, in_call, Stack, listing, have, stuck, go}
use Rattle.pc_grammar.specs.Machine.Finishing.{add_expr}
use Rattle.pc_grammar.specs.Machine.Expressions.{left_of_link, reduce, bare_part, head_tree, closer, close, close_group}
use Rattle.pc_grammar.specs.Machine.Expressions.{close_item, close_index, close_keyword, close_key, close_value}
use Rattle.pc_grammar.specs.Machine.Expressions.{have_turn}
use Rattle.pc_reader.specs.declared.reader.Reader.{Reader}
use Rattle.pc_reader.specs.Reading.{lexeme, IsAhead, NeedsKind}
use Rattle.pc_reader.specs.Internal.Expressions.{NextIs, Over, Undotted, Closes}
use Rattle.pc_reader.proofs.Frames.{loose}
use Rattle.pc_reader.proofs.Joining.{next}

-- the kinds of the tokens that end a part of an expression
abbrev pub IsEnding : TokenKind → Ending → Type 0
IsEnding k a_comma = same_kind k (kind.Operator sign.Comma) ≡ true
IsEnding k a_colon = same_kind k (kind.Operator sign.Colon) ≡ true
IsEnding k an_equal = same_kind k (kind.Operator sign.Equal) ≡ true
IsEnding k closes_parenthesis = same_kind k (kind.Operator sign.RightParenthesis) ≡ true
IsEnding k closes_bracket = same_kind k (kind.Operator sign.RightBracket) ≡ true
IsEnding k closes_brace = same_kind k (kind.Operator sign.RightBrace) ≡ true
IsEnding k a_line_end = Unit {0}
IsEnding k no_ending = Unit {0}

abbrev EndsAs : TokenKind → Follow → Type 0
EndsAs k (ends e) = IsEnding k e
EndsAs k _ = Unit {0}

ends_as : (k : TokenKind) → EndsAs k (follow_of k)
ends_as (kind.Operator sign.Comma) = refl
ends_as (kind.Operator sign.Colon) = refl
ends_as (kind.Operator sign.Equal) = refl
ends_as (kind.Operator sign.RightParenthesis) = refl
ends_as (kind.Operator sign.RightBracket) = refl
ends_as (kind.Operator sign.RightBrace) = refl
ends_as (kind.Keyword word.None) = tt
ends_as kind.Newline = tt
ends_as _ = tt

-- a token that ends nothing that is open around a whole operand
pub unended : (level : ℕ) (p : Part) (s : Stack) (t : Lexeme) (k : TokenKind) → reduce 0 p s ≡ (p, s)
    → Over 0 level (follow_of k) → Undotted level (follow_of k)
    → ((e : Ending) → IsEnding k e → close p s t e ≡ stuck) → have_turn level p s t (follow_of k) ≡ stuck
unended level p s t k r v u f = by_follow (follow_of k) (ends_as k) v u
  where
    by_follow : (w : Follow) → EndsAs k w → Over 0 level w → Undotted level w → have_turn level p s t w ≡ stuck
    by_follow (link l) i (inl h) g = absurd (omega arith)
    by_follow (link l) i (inr h) g = loose (left_of_link l) level _ h
    by_follow a_dot i h g = loose 7 level _ g
    by_follow calls i h g = loose 7 level _ g
    by_follow indexes i h g = loose 7 level _ g
    by_follow (ends e) i h g = ap (λ (z : (q : Part) × Stack). close z.0 z.1 t e) r ∙ f e i

-- with a whole operand read, only a token of this kind goes on
pub needs_end : {X I : Type 0} (text : X → List ℕ) (wanted : TokenKind) (level : ℕ) (p : Part) (s : Stack)
    (a : Reader X I) → reduce 0 p s ≡ (p, s) → NextIs (Over 0 level) a.ahead → NextIs (Undotted level) a.ahead
    → ((t : Token X) → a.ahead ≡ Some t → same_kind t.kind wanted ≡ false → (e : Ending) → IsEnding t.kind e
    → close p s (lexeme text t) e ≡ stuck) → NeedsKind text wanted (have level p s) a
needs_end text wanted level p s a r v u f = record {
  unfinished = refl;
  stuck_at =
      λ t h e. unended level p s (lexeme text t) t.kind r (next (Over 0 level) a.ahead t v h)
      (next (Undotted level) a.ahead t u h) (f t h e);
}

-- ---- tokens that do not fit in each bracket

pub group_unended : (o : List Lexeme) (s : Stack) (p : Part) (t : Lexeme) (k : TokenKind)
    → same_kind k (kind.Operator sign.RightParenthesis) ≡ false → same_kind k (kind.Operator sign.Comma) ≡ false
    → (e : Ending) → IsEnding k e → close_group o s p t e ≡ stuck
group_unended o s p t k a b closes_parenthesis i = cc
group_unended o s p t k a b a_comma i = cc
group_unended o s p t k a b _ i = refl

pub index_unended : (x : Expr) (ts : List Lexeme) (s : Stack) (p : Part) (t : Lexeme) (k : TokenKind)
    → same_kind k (kind.Operator sign.RightBracket) ≡ false
    → (e : Ending) → IsEnding k e → close_index x ts s p t e ≡ stuck
index_unended x ts s p t k a closes_bracket i = cc
index_unended x ts s p t k a _ i = refl

pub keyword_unended : (x : Expr) (xs : Exprs) (ks : Keywords) (n : Name) (ts : List Lexeme) (s : Stack) (p : Part)
    (t : Lexeme) (k : TokenKind) → same_kind k (kind.Operator sign.Comma) ≡ false
    → same_kind k (kind.Operator sign.RightParenthesis) ≡ false
    → (e : Ending) → IsEnding k e → close_keyword x xs ks n ts s p t e ≡ stuck
keyword_unended x xs ks n ts s p t k a b a_comma i = cc
keyword_unended x xs ks n ts s p t k a b closes_parenthesis i = cc
keyword_unended x xs ks n ts s p t k a b _ i = refl

pub key_unended : (es : Entries) (ts : List Lexeme) (s : Stack) (p : Part) (t : Lexeme) (k : TokenKind)
    → same_kind k (kind.Operator sign.Colon) ≡ false
    → (e : Ending) → IsEnding k e → close_key es ts s p t e ≡ stuck
key_unended es ts s p t k a a_colon i = cc
key_unended es ts s p t k a _ i = refl

pub value_unended : (es : Entries) (x : Expr) (ts : List Lexeme) (s : Stack) (p : Part) (t : Lexeme) (k : TokenKind)
    → same_kind k (kind.Operator sign.Comma) ≡ false → same_kind k (kind.Operator sign.RightBrace) ≡ false
    → (e : Ending) → IsEnding k e → close_value es x ts s p t e ≡ stuck
value_unended es x ts s p t k a b a_comma i = cc
value_unended es x ts s p t k a b closes_brace i = cc
value_unended es x ts s p t k a b _ i = refl

pub closer_is : (h : BracketPurpose) (o : Bracket) → Closes h o → closer h ≡ kind.Operator o
closer_is in_tuple o c = ap (λ z. kind.Operator z) (sym c)
closer_is in_list o c = ap (λ z. kind.Operator z) (sym c)
closer_is (in_call e) o c = absurd c

pub not_closer : {X : Type 0} (a : Option (Token X)) (h : BracketPurpose) (o : Bracket) → Closes h o → IsAhead (kind.Operator o) a
    ≡ false → IsAhead (closer h) a ≡ false
not_closer a h o c n = ap (λ z. IsAhead z a) (closer_is h o c) ∙ n

pub item_unended : (h : BracketPurpose) (o : Bracket) (xs : Exprs) (ts : List Lexeme) (s : Stack) (p : Part) (t : Lexeme)
    (k : TokenKind) → Closes h o → same_kind k (kind.Operator sign.Comma) ≡ false → same_kind k (kind.Operator o)
    ≡ false
    → (e : Ending) → IsEnding k e → close_item h xs ts s p t e ≡ stuck
item_unended in_tuple o xs ts s p t k c a b e i = by_ending e i (ap (same_kind k) (closer_is in_tuple o c) ∙ b)
  where
    by_ending : (e : Ending) → IsEnding k e → same_kind k (kind.Operator sign.RightParenthesis) ≡ false
        → close_item in_tuple xs ts s p t e ≡ stuck
    by_ending a_comma j d = cc
    by_ending closes_parenthesis j d = cc
    by_ending _ j d = refl
item_unended in_list o xs ts s p t k c a b e i = by_ending e i (ap (same_kind k) (closer_is in_list o c) ∙ b)
  where
    by_ending : (e : Ending) → IsEnding k e → same_kind k (kind.Operator sign.RightBracket) ≡ false
        → close_item in_list xs ts s p t e ≡ stuck
    by_ending a_comma j d = cc
    by_ending closes_bracket j d = cc
    by_ending _ j d = refl
item_unended (in_call x) o xs ts s p t k c a b e i = absurd c

pub argument_unended : (x : Expr) (xs : Exprs) (ts : List Lexeme) (s : Stack) (p : Part) (t : Lexeme) (k : TokenKind)
    → same_kind k (kind.Operator sign.Comma) ≡ false → same_kind k (kind.Operator sign.Equal) ≡ false
    → same_kind k (kind.Operator sign.RightParenthesis) ≡ false → (e : Ending) → IsEnding k e
    → close_item (in_call x) xs ts s p t e ≡ stuck
argument_unended x xs ts s p t k a b c a_comma i = cc
argument_unended x xs ts s p t k a b c an_equal i = cc
argument_unended x xs ts s p t k a b c closes_parenthesis i = cc
argument_unended x xs ts s p t k a b c _ i = refl

-- ---- the closing bracket

pub item_closes : (h : BracketPurpose) (level : ℕ) (xs : Exprs) (ts : List Lexeme) (s : Stack) (p : Part) (t : Lexeme)
    (k : TokenKind) → k ≡ closer h
    → transition (have level p (listing h xs ts s)) t k
    ≡ go (have 7 (bare_part (head_tree h (add_expr xs p.tree)) (ts ++ (p.tokens ++ (t ∷ [])))) s)
item_closes in_tuple level xs ts s p t k e = ap (transition (have level p (listing in_tuple xs ts s)) t) e
item_closes in_list level xs ts s p t k e = ap (transition (have level p (listing in_list xs ts s)) t) e
item_closes (in_call x) level xs ts s p t k e = ap (transition (have level p (listing (in_call x) xs ts s)) t) e
