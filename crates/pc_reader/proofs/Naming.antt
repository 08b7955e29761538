-- Arguments by name, one after another.
use Rattle.std.specs.declared.convert.AsStr.{Ghosts as TextOf}
use Rattle.std.specs.declared.iter.Iterator.{Ghosts as TokensOf}
use Rattle.std.proofs.Common.{◌≡◌, ℕ, false, List, [], ◌∷◌, ◌++◌, Some, None, Result, refl, ap, sym, ◌∙◌, subst}
use Rattle.std.proofs.Common.{append-nil}
use Rattle.pc_source.specs.declared.fault.Fault.{Fault}
use Rattle.pc_token.specs.declared.token.Token.{Token}
use Rattle.pc_token.specs.declared.token.TokenKind.{TokenKind}
use Rattle.pc_token.specs.declared.token.TokenKind.TheVariants as kind
use Rattle.pc_token.specs.declared.token.Operator.TheVariants as sign
use Rattle.pc_token.specs.Lexeme.{Lexeme}
use Rattle.pc_tree.specs.declared.tree.Name.{Name as RustName}
use Rattle.pc_tree.specs.Tree.{Name, Expr, Exprs, no_exprs, Keywords as KeywordTrees, no_keywords, name_of}
use Rattle.pc_tree.specs.NamesAlone.{name_of_tree}
use Rattle.pc_grammar.specs.Grammar.{name_of_token}
use Rattle.pc_grammar.specs.Machine.{at, transition}
use Rattle.pc_grammar.specs.Machine.Kinds.{same_kind}
use Rattle.pc_grammar.specs.Machine.States.{Part, in_call, Stack, listing, naming, operand, have, keyword_due}
use Rattle.pc_grammar.specs.Machine.States.{keyword_named, go, on, stuck}
use Rattle.pc_grammar.specs.Machine.Finishing.{add_keyword, if_plain}
use Rattle.pc_grammar.specs.Machine.Expressions.{needed_level, begin_keyword, call_part}
use Rattle.pc_reader.specs.declared.reader.Reader.{Reader}
use Rattle.pc_reader.specs.declared.operand.Operand.{Operand}
use Rattle.pc_reader.specs.declared.items.Items.{Items}
use Rattle.pc_reader.specs.declared.items.Keywords.{Keywords}
use Rattle.pc_reader.specs.declared.items.Arguments.{Arguments}
use Rattle.pc_reader.specs.Internal.Brackets.{KeepsKeywords}
use Rattle.pc_reader.specs.Internal.Operands.{KeepsPart}
use Rattle.pc_reader.specs.Reading.{lexeme, IsAhead, Came, Onward, Takes, NeedsKind}
use Rattle.pc_reader.specs.Internal.Expressions.{GivesOperand, GivesName, NamesOn, PassesOn}
use Rattle.pc_reader.proofs.BracketLoops.{ElementsSoFar, NamesSoFar}
use Rattle.pc_reader.proofs.Building.{ends_more, ends_at}
use Rattle.pc_reader.proofs.Listing.{regroup, item_read}
use Rattle.pc_reader.proofs.Steps.{step_to, not_seen}

-- after a comma and without the closing parenthesis a name is due
pub needs_name : {X I : Type 0} (text : X → List ℕ) (e : Expr) (xs : Exprs) (ks : KeywordTrees) (ts : List Lexeme)
    (s : Stack) (a : Reader X I) → IsAhead (kind.Operator sign.RightParenthesis) a.ahead ≡ false
    → NeedsKind text kind.Name (keyword_due e xs ks ts s) a
needs_name text e xs ks ts s a n = record {
  unfinished = refl;
  stuck_at = λ t h f. ap (λ z. on z (keyword_named e xs ks (name_of_token (lexeme text t)) (ts ++ (lexeme text t ∷ []))
      s)
      (on (same_kind t.kind (kind.Operator sign.RightParenthesis))
      (have 7 (call_part e xs ks (ts ++ (lexeme text t ∷ []))) s) stuck)) f
      ∙ ap (λ z. on z (have 7 (call_part e xs ks (ts ++ (lexeme text t ∷ []))) s) stuck)
      (not_seen (kind.Operator sign.RightParenthesis) n h);
}

-- an argument that is a name, and `=` after it
pub keyword_begins : (level : ℕ) (e : Expr) (xs : Exprs) (ts : List Lexeme) (s : Stack) (p : Part) (n : Name)
    (t : Lexeme) (k : TokenKind) → if_plain p.plain (name_of_tree p.tree) ≡ Some n → k ≡ kind.Operator sign.Equal
    → transition (have level p (listing (in_call e) xs ts s)) t k ≡ go
    (operand (naming e xs no_keywords n (ts ++ (p.tokens ++ (t ∷ []))) s))
keyword_begins level e xs ts s p n t k f h = ap (transition (have level p (listing (in_call e) xs ts s)) t) h
    ∙ ap (λ z. begin_keyword z e xs (ts ++ (p.tokens ++ (t ∷ []))) s) f

-- an argument that is no name, and `=` after it
pub keyword_stuck : (level : ℕ) (e : Expr) (xs : Exprs) (ts : List Lexeme) (s : Stack) (p : Part) (t : Lexeme)
    (k : TokenKind) → if_plain p.plain (name_of_tree p.tree) ≡ None → k ≡ kind.Operator sign.Equal
    → transition (have level p (listing (in_call e) xs ts s)) t k ≡ stuck
keyword_stuck level e xs ts s p t k f h = ap (transition (have level p (listing (in_call e) xs ts s)) t) h
    ∙ ap (λ z. begin_keyword z e xs (ts ++ (p.tokens ++ (t ∷ []))) s) f

module _ {X I : Type 0} (texts : TextOf X) (source : TokensOf I (Result (Token X) Fault)) where
  -- after the name of the first argument by name
  pub names_none : (a : Reader X I) (now : Keywords) (first : Name) (e : Expr) (xs : Exprs) (ts : List Lexeme)
      → KeepsKeywords now no_keywords → NamesSoFar texts source a a first now first e xs ts
  names_none a now first e xs ts k = record {
    arguments = no_keywords;
    more = [];
    keeps = k;
    leads = λ s o x. subst (λ z. Came texts.text source.next_gives a (at (operand (naming e xs no_keywords first z s)))
        o) (append-nil ts)
        x;
  }

  -- the value of an argument
  pub argument_read : {a b c : Reader X I} {first name : Name} {now : Keywords} {e : Expr} {xs : Exprs}
      {ts : List Lexeme} {o : Operand} (v : NamesSoFar texts source a b first now name e xs ts) (s : Stack)
      → (q : GivesOperand texts source (λ s. needed_level s ≡ 0) 0 b c o)
      → Onward texts.text source.next_gives a c (at (operand (naming e xs no_keywords first ts s)))
      (at (have o.level q.part (naming e xs v.arguments name (ts ++ v.more) s)))
  argument_read {name = name} {e = e} {xs = xs} {ts = ts} v s q r x =
      v.leads s r (q.leads (naming e xs v.arguments name (ts ++ v.more) s) refl r x)

  -- and a comma after it
  pub argument_more : {a b c d : Reader X I} {first name : Name} {now : Keywords} {e : Expr} {xs : Exprs}
      {ts : List Lexeme} {o : Operand} {t : Token X} (v : NamesSoFar texts source a b first now name e xs ts)
      (s : Stack)
      → (q : GivesOperand texts source (λ s. needed_level s ≡ 0) 0 b c o) → Takes texts source c d t
      → t.kind ≡ kind.Operator sign.Comma
      → Onward texts.text source.next_gives a d (at (operand (naming e xs no_keywords first ts s)))
      (at (keyword_due e xs (add_keyword v.arguments name q.part.tree)
      (ts ++ (v.more ++ (q.part.tokens ++ (lexeme texts.text t ∷ [])))) s))
  argument_more {d = d} {name = name} {e = e} {xs = xs} {ts = ts} {o = o} {t = t} v s q h i r x = argument_read v s q r
      (step_to (have o.level q.part (naming e xs v.arguments name (ts ++ v.more) s))
      (keyword_due e xs (add_keyword v.arguments name q.part.tree)
      ((ts ++ v.more) ++ (q.part.tokens ++ (lexeme texts.text t ∷ []))) s) h
      (ap (transition (have o.level q.part (naming e xs v.arguments name (ts ++ v.more) s)) (lexeme texts.text t)) i) r
      (regroup texts.text source.next_gives d (λ z. keyword_due e xs (add_keyword v.arguments name q.part.tree) z s) ts
      v.more
      (q.part.tokens ++ (lexeme texts.text t ∷ [])) r x))

  -- with the closing parenthesis after the value
  pub argument_last : {a b c d : Reader X I} {first name : Name} {now now' : Keywords} {e : Expr} {xs : Exprs}
      {ts : List Lexeme} {o : Operand} {t : Token X} (v : NamesSoFar texts source a b first now name e xs ts)
      → (q : GivesOperand texts source (λ s. needed_level s ≡ 0) 0 b c o)
      → ((ks : KeywordTrees) (p : Part) → KeepsKeywords now ks → KeepsPart o p
      → KeepsKeywords now' (add_keyword ks name p.tree))
      → Takes texts source c d t → t.kind ≡ kind.Operator sign.RightParenthesis → {last : ℕ} → t.place.end ≡ last
      → NamesOn texts source a d (record { keywords = now'; end = last }) e xs no_keywords first ts
  argument_last {d = d} {name = name} {e = e} {xs = xs} {ts = ts} {o = o} {t = t} v q f h i l = record {
    arguments = add_keyword v.arguments name q.part.tree;
    more = v.more ++ (q.part.tokens ++ (lexeme texts.text t ∷ []));
    keeps = f v.arguments q.part v.keeps q.keeps;
    ends = ends_more v.more (ends_more q.part.tokens (ends_at (lexeme texts.text t) l));
    leads = λ s r x. argument_read v s q r
        (step_to (have o.level q.part (naming e xs v.arguments name (ts ++ v.more) s))
        (have 7 (call_part e xs (add_keyword v.arguments name q.part.tree)
        ((ts ++ v.more) ++ (q.part.tokens ++ (lexeme texts.text t ∷ [])))) s) h
        (ap (transition (have o.level q.part (naming e xs v.arguments name (ts ++ v.more) s)) (lexeme texts.text t)) i)
        r
        (regroup texts.text source.next_gives d (λ z. have 7 (call_part e xs (add_keyword v.arguments name q.part.tree)
        z) s) ts v.more
        (q.part.tokens ++ (lexeme texts.text t ∷ [])) r x));
  }

  -- with the closing parenthesis after a comma
  pub arguments_end : {a b c d f : Reader X I} {first name : Name} {now now' : Keywords} {e : Expr} {xs : Exprs}
      {ts : List Lexeme} {o : Operand} {t u : Token X} (v : NamesSoFar texts source a b first now name e xs ts)
      → (q : GivesOperand texts source (λ s. needed_level s ≡ 0) 0 b c o)
      → ((ks : KeywordTrees) (p : Part) → KeepsKeywords now ks → KeepsPart o p
      → KeepsKeywords now' (add_keyword ks name p.tree))
      → Takes texts source c d t → t.kind ≡ kind.Operator sign.Comma → Takes texts source d f u
      → u.kind ≡ kind.Operator sign.RightParenthesis → {last : ℕ} → u.place.end ≡ last
      → NamesOn texts source a f (record { keywords = now'; end = last }) e xs no_keywords first ts
  arguments_end {f = f} {name = name} {e = e} {xs = xs} {ts = ts} {t = t} {u = u} v q g h i k l y = record {
    arguments = add_keyword v.arguments name q.part.tree;
    more = (v.more ++ (q.part.tokens ++ (lexeme texts.text t ∷ []))) ++ (lexeme texts.text u ∷ []);
    keeps = g v.arguments q.part v.keeps q.keeps;
    ends = ends_more (v.more ++ (q.part.tokens ++ (lexeme texts.text t ∷ []))) (ends_at (lexeme texts.text u) y);
    leads = λ s r x. argument_more v s q h i r
        (step_to (keyword_due e xs (add_keyword v.arguments name q.part.tree)
        (ts ++ (v.more ++ (q.part.tokens ++ (lexeme texts.text t ∷ [])))) s)
        (have 7 (call_part e xs (add_keyword v.arguments name q.part.tree)
        ((ts ++ (v.more ++ (q.part.tokens ++ (lexeme texts.text t ∷ [])))) ++ (lexeme texts.text u ∷ []))) s) k
        (ap (transition (keyword_due e xs (add_keyword v.arguments name q.part.tree)
        (ts ++ (v.more ++ (q.part.tokens ++ (lexeme texts.text t ∷ [])))) s) (lexeme texts.text u)) l) r
        (regroup texts.text source.next_gives f (λ z. have 7 (call_part e xs (add_keyword v.arguments name q.part.tree)
        z) s) ts
        (v.more ++ (q.part.tokens ++ (lexeme texts.text t ∷ []))) (lexeme texts.text u ∷ []) r x));
  }

  -- up to the name of the next argument
  pub name_read : {a b c d f : Reader X I} {first name : Name} {now : Keywords} {e : Expr} {xs : Exprs}
      {ts : List Lexeme} {o : Operand} {t : Token X} {n : RustName}
      (v : NamesSoFar texts source a b first now name e xs ts) (s : Stack)
      → (q : GivesOperand texts source (λ s. needed_level s ≡ 0) 0 b c o) → Takes texts source c d t
      → t.kind ≡ kind.Operator sign.Comma → (w : GivesName texts source d f n)
      → Onward texts.text source.next_gives a f (at (operand (naming e xs no_keywords first ts s)))
      (at (keyword_named e xs (add_keyword v.arguments name q.part.tree) (name_of n)
      ((ts ++ (v.more ++ (q.part.tokens ++ (lexeme texts.text t ∷ [])))) ++ (lexeme texts.text w.token ∷ [])) s))
  name_read {name = name} {e = e} {xs = xs} {ts = ts} {t = t} {n = n} v s q h i w r x = argument_more v s q h i r
      (step_to (keyword_due e xs (add_keyword v.arguments name q.part.tree)
      (ts ++ (v.more ++ (q.part.tokens ++ (lexeme texts.text t ∷ [])))) s)
      (keyword_named e xs (add_keyword v.arguments name q.part.tree) (name_of n)
      ((ts ++ (v.more ++ (q.part.tokens ++ (lexeme texts.text t ∷ [])))) ++ (lexeme texts.text w.token ∷ [])) s) w.takes
      (ap (transition (keyword_due e xs (add_keyword v.arguments name q.part.tree)
      (ts ++ (v.more ++ (q.part.tokens ++ (lexeme texts.text t ∷ [])))) s) (lexeme texts.text w.token)) w.is
      ∙ ap (λ z. go (keyword_named e xs (add_keyword v.arguments name q.part.tree) z
      ((ts ++ (v.more ++ (q.part.tokens ++ (lexeme texts.text t ∷ [])))) ++ (lexeme texts.text w.token ∷ [])) s))
      (sym w.name))
      r x)

  -- and its `=`
  pub names_more : {a b c d f g : Reader X I} {first name : Name} {now now' : Keywords} {e : Expr} {xs : Exprs}
      {ts : List Lexeme} {o : Operand} {t u : Token X} {n : RustName}
      (v : NamesSoFar texts source a b first now name e xs ts)
      → (q : GivesOperand texts source (λ s. needed_level s ≡ 0) 0 b c o)
      → ((ks : KeywordTrees) (p : Part) → KeepsKeywords now ks → KeepsPart o p
      → KeepsKeywords now' (add_keyword ks name p.tree))
      → Takes texts source c d t → t.kind ≡ kind.Operator sign.Comma → GivesName texts source d f n
      → Takes texts source f g u → u.kind ≡ kind.Operator sign.Equal
      → NamesSoFar texts source a g first now' (name_of n) e xs ts
  names_more {g = g} {name = name} {e = e} {xs = xs} {ts = ts} {t = t} {u = u} {n = n} v q m h i w k l = record {
    arguments = add_keyword v.arguments name q.part.tree;
    more = (v.more ++ (q.part.tokens ++ (lexeme texts.text t ∷ [])))
        ++ (lexeme texts.text w.token ∷ lexeme texts.text u ∷ []);
    keeps = m v.arguments q.part v.keeps q.keeps;
    leads = λ s r x. name_read v s q h i w r
        (step_to (keyword_named e xs (add_keyword v.arguments name q.part.tree) (name_of n)
        ((ts ++ (v.more ++ (q.part.tokens ++ (lexeme texts.text t ∷ [])))) ++ (lexeme texts.text w.token ∷ [])) s)
        (operand (naming e xs (add_keyword v.arguments name q.part.tree) (name_of n)
        (((ts ++ (v.more ++ (q.part.tokens ++ (lexeme texts.text t ∷ [])))) ++ (lexeme texts.text w.token ∷ []))
        ++ (lexeme texts.text u ∷ [])) s)) k
        (ap (transition (keyword_named e xs (add_keyword v.arguments name q.part.tree) (name_of n)
        ((ts ++ (v.more ++ (q.part.tokens ++ (lexeme texts.text t ∷ [])))) ++ (lexeme texts.text w.token ∷ [])) s)
        (lexeme texts.text u)) l) r
        (regroup texts.text source.next_gives g (λ z. operand (naming e xs (add_keyword v.arguments name q.part.tree)
        (name_of n) z s))
        (ts ++ (v.more ++ (q.part.tokens ++ (lexeme texts.text t ∷ [])))) (lexeme texts.text w.token ∷ [])
        (lexeme texts.text u ∷ [])
        r
        (regroup texts.text source.next_gives g (λ z. operand (naming e xs (add_keyword v.arguments name q.part.tree)
        (name_of n) z s)) ts
        (v.more ++ (q.part.tokens ++ (lexeme texts.text t ∷ []))) (lexeme texts.text w.token ∷ lexeme texts.text u ∷ [])
        r x)));
  }

  -- arguments of which the last are by name
  pub passes_names : {a b c d f : Reader X I} {now : Items} {l : Arguments} {e : Expr} {ts : List Lexeme} {o : Operand}
      {t : Token X} {n : Name} (v : ElementsSoFar texts source (Unit {0}) a b now (in_call e) no_exprs ts)
      → IsAhead (kind.Operator sign.RightParenthesis) b.ahead ≡ false
      → (q : GivesOperand texts source (λ s. needed_level s ≡ 0) 0 b c o) → Takes texts source c d t
      → t.kind ≡ kind.Operator sign.Equal → if_plain q.part.plain (name_of_tree q.part.tree) ≡ Some n
      → ((us : List Lexeme) → NamesOn texts source d f l e v.items no_keywords n us)
      → PassesOn texts source a f (record { items = now; keywords = l.keywords; end = l.end }) e ts
  passes_names {f = f} {e = e} {ts = ts} {o = o} {t = t} {n = n} v m q h i w names =
      let past = q.part.tokens ++ (lexeme texts.text t ∷ []) in let g = names ((ts ++ v.more) ++ past) in record {
        items = v.items;
        arguments = g.arguments;
        more = (v.more ++ past) ++ g.more;
        keeps = v.keeps tt;
        names = g.keeps;
        ends = ends_more (v.more ++ past) g.ends;
        leads = λ s r x. item_read texts source v s m q r
            (step_to (have o.level q.part (listing (in_call e) v.items (ts ++ v.more) s))
            (operand (naming e v.items no_keywords n ((ts ++ v.more) ++ past) s)) h
            (keyword_begins o.level e v.items (ts ++ v.more) s q.part n (lexeme texts.text t) t.kind w i) r
            (g.leads s r (regroup texts.text source.next_gives f
            (λ z. have 7 (call_part e v.items g.arguments (z ++ g.more)) s) ts v.more past r
            (regroup texts.text source.next_gives f (λ z. have 7 (call_part e v.items g.arguments z) s) ts
            (v.more ++ past) g.more r x))));
      }
