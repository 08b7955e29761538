-- Items in a bracket, one by one.
use Rattle.std.specs.declared.convert.AsStr.{Ghosts as TextOf}
use Rattle.std.specs.declared.iter.Iterator.{Ghosts as TokensOf}
use Rattle.std.proofs.Common.{◌≡◌, ℕ, ◌<◌, false, List, [], ◌∷◌, ◌++◌, Option, Some, Result, refl, arith, ap, sym, ◌∙◌}
use Rattle.std.proofs.Common.{subst, append_assoc, append-nil}
use Rattle.pc_source.specs.declared.fault.Fault.{Fault}
use Rattle.pc_token.specs.declared.token.Token.{Token}
use Rattle.pc_token.specs.declared.token.TokenKind.TheVariants as kind
use Rattle.pc_token.specs.declared.token.Operator.TheVariants as sign
use Rattle.pc_token.specs.Lexeme.{Lexeme}
use Rattle.pc_tree.specs.Tree.{Expr, Exprs, no_exprs, Entries, tuple, dict, call, Keywords as KeywordTrees}
use Rattle.pc_tree.specs.Tree.{no_keywords}
use Rattle.pc_grammar.specs.Grammar.{first_place}
use Rattle.pc_grammar.specs.Machine.{at, transition}
use Rattle.pc_grammar.specs.Machine.Kinds.{operand_start}
use Rattle.pc_grammar.specs.Machine.States.{Part, BracketPurpose, in_call, Stack, grouping, listing, keying, State}
use Rattle.pc_grammar.specs.Machine.States.{operand, have}
use Rattle.pc_grammar.specs.Machine.States.{group_due, item_due, key_due, on}
use Rattle.pc_grammar.specs.Machine.Finishing.{add_expr}
use Rattle.pc_grammar.specs.Machine.Expressions.{needed_level, bare_part, head_tree, closer, call_part, operand_turn}
use Rattle.pc_reader.specs.declared.reader.Reader.{Reader}
use Rattle.pc_reader.specs.declared.operand.Operand.{Operand}
use Rattle.pc_reader.specs.declared.items.Items.{Items}
use Rattle.pc_reader.specs.declared.items.Keywords.{Keywords}
use Rattle.pc_reader.specs.declared.items.Listed.{Listed}
use Rattle.pc_reader.specs.declared.items.CallArguments.{CallArguments}
use Rattle.pc_reader.specs.Internal.Brackets.{KeepsItems, KeepsKeywords}
use Rattle.pc_reader.specs.Internal.Operands.{KeepsPart, Builds, Starts}
use Rattle.pc_reader.specs.Reading.{lexeme, IsAhead, Came, Onward, Takes, IsReady, left_in}
use Rattle.pc_reader.specs.Internal.Expressions.{GivesOperand, OperandGoesOn, ListsOn, PassesOn}
use Rattle.pc_reader.proofs.BracketLoops.{ElementsSoFar}
use Rattle.pc_reader.proofs.Endings.{item_closes}
use Rattle.pc_reader.proofs.Building.{first_more, starts_more, ends_more, ends_at}
use Rattle.pc_reader.proofs.SameKind.{is_same}
use Rattle.pc_reader.proofs.Steps.{step_to, alike, not_seen}

module _ {X I : Type 0} (text : X → List ℕ) (steps : I → Option (Result (Token X) Fault) → I → Type 0) where
  -- where a bracket is not closed at once, something begins in it
  pub item_begins : (a : Reader X I) (h : BracketPurpose) (xs : Exprs) (ts : List Lexeme) (s : Stack)
      → IsAhead (closer h) a.ahead
      ≡ false
      → Onward text steps a a (at (item_due h xs ts s)) (at (operand (listing h xs ts s)))
  item_begins a h xs ts s n = alike text steps a (item_due h xs ts s) (operand (listing h xs ts s)) refl refl
      (λ t e. ap (λ z. on z (have 7 (bare_part (head_tree h xs) (ts ++ ((lexeme text t) ∷ []))) s)
      (operand_turn (listing h xs ts s) (lexeme text t) (operand_start t.kind))) (not_seen (closer h) n e))

  pub group_begins : (a : Reader X I) (ts : List Lexeme) (s : Stack) → IsAhead (kind.Operator sign.RightParenthesis)
      a.ahead ≡ false
      → Onward text steps a a (at (group_due ts s)) (at (operand (grouping ts s)))
  group_begins a ts s n = alike text steps a (group_due ts s) (operand (grouping ts s)) refl refl
      (λ t e. ap (λ z. on z (have 7 (bare_part (λ p. tuple p no_exprs) (ts ++ ((lexeme text t) ∷ []))) s)
      (operand_turn (grouping ts s) (lexeme text t) (operand_start t.kind)))
      (not_seen (kind.Operator sign.RightParenthesis) n e))

  pub key_begins : (a : Reader X I) (es : Entries) (ts : List Lexeme) (s : Stack)
      → IsAhead (kind.Operator sign.RightBrace) a.ahead ≡ false
      → Onward text steps a a (at (key_due es ts s)) (at (operand (keying es ts s)))
  key_begins a es ts s n = alike text steps a (key_due es ts s) (operand (keying es ts s)) refl refl
      (λ t e. ap (λ z. on z (have 7 (bare_part (λ p. dict p es) (ts ++ ((lexeme text t) ∷ []))) s)
      (operand_turn (keying es ts s) (lexeme text t) (operand_start t.kind)))
      (not_seen (kind.Operator sign.RightBrace) n e))

  -- the same tokens
  pub regroup : (a : Reader X I) (st : List Lexeme → State) (xs ys zs : List Lexeme)
      → Onward text steps a a (at (st ((xs ++ ys) ++ zs))) (at (st (xs ++ (ys ++ zs))))
  regroup a st xs ys zs o x = subst (λ z. Came text steps a (at (st z)) o) (sym (append_assoc xs ys zs)) x

module _ {X I : Type 0} (texts : TextOf X) (source : TokensOf I (Result (Token X) Fault)) where
  -- before the first item
  pub items_none : {K : Type 0} (a : Reader X I) (now : Items) (h : BracketPurpose) (xs : Exprs) (ts : List Lexeme)
      → (K → KeepsItems now xs) → ElementsSoFar texts source K a a now h xs ts
  items_none a now h xs ts f = record {
    items = xs;
    more = [];
    keeps = f;
    leads = λ s o x. subst (λ z. Came texts.text source.next_gives a (at (item_due h xs z s)) o) (append-nil ts) x;
  }

  -- an item after those before it
  pub item_read : {K : Type 0} {a b c : Reader X I} {now : Items} {h : BracketPurpose} {xs : Exprs} {ts : List Lexeme}
      {o : Operand} (v : ElementsSoFar texts source K a b now h xs ts) (s : Stack) → IsAhead (closer h) b.ahead
      ≡ false
      → (q : GivesOperand texts source (λ s. needed_level s ≡ 0) 0 b c o) → Onward texts.text source.next_gives a c
      (at (item_due h xs ts s))
      (at (have o.level q.part (listing h v.items (ts ++ v.more) s)))
  item_read {b = b} {h = h} {ts = ts} v s n q r x = v.leads s r
      (item_begins texts.text source.next_gives b h v.items (ts ++ v.more) s n r
      (q.leads (listing h v.items (ts ++ v.more) s) refl r x))

  -- with a comma after it
  pub item_more : {K : Type 0} {a b c d : Reader X I} {now now' : Items} {h : BracketPurpose} {xs : Exprs}
      {ts : List Lexeme}
      {o : Operand} {t : Token X} (v : ElementsSoFar texts source K a b now h xs ts) → IsAhead (closer h) b.ahead
      ≡ false
      → (q : GivesOperand texts source (λ s. needed_level s ≡ 0) 0 b c o)
      → ((es : Exprs) (p : Part) → KeepsItems now es → KeepsPart o p → KeepsItems now' (add_expr es p.tree))
      → Takes texts source c d t → t.kind ≡ kind.Operator sign.Comma → ElementsSoFar texts source K a d
      now' h xs ts
  item_more {d = d} {h = h} {ts = ts} {o = o} {t = t} v n q f k e = record {
    items = add_expr v.items q.part.tree;
    more = v.more ++ (q.part.tokens ++ (lexeme texts.text t ∷ []));
    keeps = λ z. f v.items q.part (v.keeps z) q.keeps;
    leads = λ s r x. item_read v s n q r (step_to (have o.level q.part (listing h v.items (ts ++ v.more) s))
        (item_due h (add_expr v.items q.part.tree) ((ts ++ v.more) ++ (q.part.tokens ++ (lexeme texts.text t ∷ []))) s)
        k
        (ap (transition (have o.level q.part (listing h v.items (ts ++ v.more) s)) (lexeme texts.text t)) e) r
        (regroup texts.text source.next_gives d (λ z. item_due h (add_expr v.items q.part.tree) z s) ts v.more
        (q.part.tokens ++ (lexeme texts.text t ∷ [])) r x));
  }

  -- with the closing bracket after it
  pub item_last : {K : Type 0} {a b c d : Reader X I} {now now' : Items} {h : BracketPurpose} {xs : Exprs}
      {ts : List Lexeme}
      {o : Operand} {t : Token X} (v : ElementsSoFar texts source K a b now h xs ts) → IsAhead (closer h) b.ahead
      ≡ false
      → (q : GivesOperand texts source (λ s. needed_level s ≡ 0) 0 b c o)
      → ((es : Exprs) (p : Part) → KeepsItems now es → KeepsPart o p → KeepsItems now' (add_expr es p.tree))
      → Takes texts source c d t → t.kind ≡ closer h → {last : ℕ} → t.place.end ≡ last → K → ListsOn texts source a d
      (record { items = now'; end = last }) h xs ts
  item_last {d = d} {h = h} {ts = ts} {o = o} {t = t} v n q f k e l z = record {
    items = add_expr v.items q.part.tree;
    more = v.more ++ (q.part.tokens ++ (lexeme texts.text t ∷ []));
    keeps = f v.items q.part (v.keeps z) q.keeps;
    ends = ends_more v.more (ends_more q.part.tokens (ends_at (lexeme texts.text t) l));
    leads = λ s r x. item_read v s n q r (step_to (have o.level q.part (listing h v.items (ts ++ v.more) s))
        (have 7 (bare_part (head_tree h (add_expr v.items q.part.tree))
        ((ts ++ v.more) ++ (q.part.tokens ++ (lexeme texts.text t ∷ [])))) s) k
        (item_closes h o.level v.items (ts ++ v.more) s q.part (lexeme texts.text t) t.kind e) r
        (regroup texts.text source.next_gives d (λ y. have 7 (bare_part (head_tree h (add_expr v.items q.part.tree)) y)
        s) ts v.more
        (q.part.tokens ++ (lexeme texts.text t ∷ [])) r x));
  }

  -- with the closing bracket and no further item
  pub items_end : {K : Type 0} {a b c : Reader X I} {now : Items} {h : BracketPurpose} {xs : Exprs} {ts : List Lexeme}
      {t : Token X} (v : ElementsSoFar texts source K a b now h xs ts)
      → Takes texts source b c t → t.kind ≡ closer h → {last : ℕ} → t.place.end ≡ last → K → ListsOn texts source a c
      (record { items = now; end = last }) h xs ts
  items_end {c = c} {h = h} {ts = ts} {t = t} v k e l z = record {
    items = v.items;
    more = v.more ++ (lexeme texts.text t ∷ []);
    keeps = v.keeps z;
    ends = ends_more v.more (ends_at (lexeme texts.text t) l);
    leads = λ s r x. v.leads s r (step_to (item_due h v.items (ts ++ v.more) s)
        (have 7 (bare_part (head_tree h v.items) ((ts ++ v.more) ++ (lexeme texts.text t ∷ []))) s) k
        (ap (λ y. on y (have 7 (bare_part (head_tree h v.items) ((ts ++ v.more) ++ (lexeme texts.text t ∷ []))) s)
        (operand_turn (listing h v.items (ts ++ v.more) s) (lexeme texts.text t) (operand_start t.kind)))
        (is_same t.kind (closer h) e)) r
        (regroup texts.text source.next_gives c (λ y. have 7 (bare_part (head_tree h v.items) y) s) ts v.more
        (lexeme texts.text t ∷ []) r x));
  }

  -- the contents of a bracket, as an operand
  pub bracketed : {fits : Stack → Type 0} {a b c : Reader X I} {l : Listed} {made : Operand} {start : ℕ}
      (h : BracketPurpose)
      (xs : Exprs) (ts : List Lexeme) (n : ListsOn texts source b c l h xs ts) → Starts ts start
      → ((t : Token X) → a.ahead ≡ Some t → first_place ts ≡ t.place)
      → ((s : Stack) → fits s → Onward texts.text source.next_gives a b (at (operand s)) (at (item_due h xs ts s)))
      → made.level ≡ 7 → ((es : Exprs) → KeepsItems l.items es → Builds made (λ p. head_tree h es p) start l.end)
      → IsReady source.can_next source.remaining c → left_in source.remaining c < left_in source.remaining a
      → GivesOperand texts source fits 7 a c made
  bracketed {c = c} h xs ts n st bg f lv k rd lt = record {
    part = bare_part (λ p. head_tree h n.items p) (ts ++ n.more);
    keeps = k n.items n.keeps (ts ++ n.more) (starts_more n.more st) (ends_more ts n.ends);
    low = omega (arith, lv);
    ready = rd;
    later = lt;
    begins = λ t e. first_more n.more st ∙ bg t e;
    leads = λ s r o x. f s r o
        (n.leads s o (subst (λ z. Came texts.text source.next_gives c
        (at (have z (bare_part (λ p. head_tree h n.items p) (ts ++ n.more)) s))
        o) lv x));
  }

  -- arguments of which none is by name
  pub passes_items : {a b : Reader X I} {now : Items} {none : Keywords} {last : ℕ} {e : Expr} {ts : List Lexeme}
      → ListsOn texts source a b (record { items = now; end = last }) (in_call e) no_exprs ts
      → KeepsKeywords none no_keywords
      → PassesOn texts source a b (record { items = now; keywords = none; end = last }) e ts
  passes_items n k = record {
    items = n.items;
    arguments = no_keywords;
    more = n.more;
    keeps = n.keeps;
    names = k;
    ends = n.ends;
    leads = λ s. n.leads s;
  }

  -- the arguments after an operand, as a call
  pub called_with : {a b : Reader X I} {l : CallArguments} {callee made : Operand} (t : Lexeme) (p : Part)
      → KeepsPart callee p
      → (n : PassesOn texts source a b l p.tree (p.tokens ++ (t ∷ [])))
      → ((es : Exprs) (ks : KeywordTrees) → KeepsItems l.items es → KeepsKeywords l.keywords ks
      → Builds made (λ q. call q p.tree es ks) callee.start l.end)
      → OperandGoesOn texts source (λ t p s. item_due (in_call p.tree) no_exprs (p.tokens ++ (t ∷ [])) s) 7 a b
      callee made t p
  called_with t p k n f = record {
    part = call_part p.tree n.items n.arguments ((p.tokens ++ (t ∷ [])) ++ n.more);
    keeps = f n.items n.arguments n.keeps n.names _ (starts_more n.more (starts_more (t ∷ []) k.starts))
        (ends_more (p.tokens ++ (t ∷ [])) n.ends);
    begins = first_more n.more (starts_more (t ∷ []) k.starts) ∙ first_more (t ∷ []) k.starts;
    leads = λ s. n.leads s;
  }
