-- Parts, arguments and unions, from what was read of them.
use Rattle.std.specs.declared.convert.AsStr.{Ghosts as TextOf}
use Rattle.std.specs.declared.iter.Iterator.{Ghosts as TokensOf}
use Rattle.std.proofs.Common.{◌≡◌, ℕ, ◌≤◌, ◌<◌, false, List, [], ◌∷◌, ◌++◌, Option, None, Result, Ok, Err, refl, arith}
use Rattle.std.proofs.Common.{ap, sym, ◌∙◌, subst}
use Rattle.pc_source.specs.declared.fault.Fault.{Fault}
use Rattle.pc_token.specs.declared.token.Token.{Token}
use Rattle.pc_token.specs.declared.token.TokenKind.TheVariants as kind
use Rattle.pc_token.specs.declared.token.Keyword.TheVariants as word
use Rattle.pc_token.specs.declared.token.Operator.TheVariants as sign
use Rattle.pc_token.specs.Lexeme.{Lexeme}
use Rattle.pc_tree.specs.declared.tree.Ann.TheVariants as rust
use Rattle.pc_tree.specs.declared.tree.Name.{Name as RustName}
use Rattle.pc_tree.specs.Tree.{Name, name_of, Ann, named, none_type, applied, union, Anns, no_anns, more_anns}
use Rattle.pc_tree.specs.Depth.{whole_ann}
use Rattle.pc_grammar.specs.Grammar.{span, name_of_token}
use Rattle.pc_grammar.specs.Machine.{Reading, at, short, stop}
use Rattle.pc_grammar.specs.Machine.States.{AnnStack, ann_whole, ann_inside, State, on, part_due}
use Rattle.pc_grammar.specs.Machine.States.{part_read, argument_due, empty_opened}
use Rattle.pc_grammar.specs.Machine.Finishing.{add_ann, finish_ann}
use Rattle.pc_reader.proofs.Steps.{not_seen}
use Rattle.pc_reader.specs.declared.reader.Reader.{Reader}
use Rattle.pc_reader.specs.Internal.Operands.{Starts}
use Rattle.pc_reader.specs.Reading.{Blames, IsAhead, lexeme, Came, IsReady, left_in, Takes, NeedsKind}
use Rattle.pc_reader.specs.Internal.Expressions.{GivesName}
use Rattle.pc_reader.proofs.Building.{starts_more, ends_more, ends_one}
use Rattle.pc_reader.proofs.Streams.{blame}
use Rattle.pc_parse.specs.declared.parser.Parser.{Parser}
use Rattle.pc_parse.specs.Internal.WholeTrees.{deep_after, GivesAnn}
use Rattle.pc_parse.proofs.Depths.{note_of, shallow}
use Rattle.pc_parse.specs.declared.annotation.Annotation.{Annotation}
use Rattle.pc_parse.specs.declared.annotation.Annotations.{Annotations}
use Rattle.pc_parse.specs.Internal.Annotations.{KeepsAnn, KeepsAnns, MakesAnn, GivesUnion, GivesPart, ReadsPart}
use Rattle.pc_parse.specs.Internal.Annotations.{GivesApplied, ReadsApplied, PartsSoFar, ArgumentsSoFar}
use Rattle.pc_parse.proofs.Annotated.{names, nothing}
use Rattle.pc_parse.proofs.AnnotationSteps.{to_none, to_name, to_bracket, to_parenthesis, to_bar, to_comma, to_close}
use Rattle.pc_parse.proofs.AnnotationSteps.{alone, filled, united, closes, no_part}

-- where no part begins
pub part_misfits : {X I : Type 0} (text : X → List ℕ) (steps : I → Option (Result (Token X) Fault) → I → Type 0)
    (a : Reader X I) (e : Fault) → IsAhead (kind.Keyword word.None) a.ahead ≡ false
    → Blames e (λ x. (st : State) → NeedsKind text kind.Name st a → Came text steps a (at st) x)
    → Blames e (λ x. (parts : Anns) (before : List Lexeme) (s : AnnStack)
    → Came text steps a (at (part_due parts before s)) x)
part_misfits text steps a e k w = blame (λ x u. λ parts before s. u (part_due parts before s)
    (no_part text steps a parts before s k)) w

module _ {X I : Type 0} {texts : TextOf X} {source : TokensOf I (Result (Token X) Fault)} where
  -- ---- arguments

  pub opened : {a b : Reader X I} {t : Token X} (d : Reader X I) → Takes texts source a b t
      → t.kind ≡ kind.Operator sign.LeftParenthesis → (head : RustName) (r : Result Annotation Fault)
      → ReadsApplied texts source (λ n ts parts before s. empty_opened n ts parts before s) b d head r
      → ReadsApplied texts source (λ n ts parts before s. argument_due n ts parts before s) a d head r
  opened {t = t} d h k head (Ok o) x = record {
    ready = x.ready;
    later = omega (arith, x.later, h.later);
    applies = λ ts st. let y = x.applies (ts ++ (lexeme texts.text t ∷ []))
        (starts_more (lexeme texts.text t ∷ []) st) in record {
          tree = y.tree;
          tokens = y.tokens;
          keeps = y.keeps;
          leads = λ parts before s o' z. to_parenthesis h (name_of head) ts parts before s k o'
              (y.leads parts before s o' z);
        };
  }
  opened {t = t} d h k head (Err e) x = blame (λ o w. λ ts st parts before s. to_parenthesis h (name_of head) ts parts
      before s k o (w (ts ++ (lexeme texts.text t ∷ [])) (starts_more (lexeme texts.text t ∷ []) st) parts before s)) x

  pub no_arguments_yet : (a : Reader X I) (now : Annotations) (head : RustName)
      → IsAhead (kind.Operator sign.LeftParenthesis) a.ahead ≡ false → KeepsAnns now no_anns → (ts : List Lexeme)
      → Starts ts head.place.start
      → ArgumentsSoFar texts source a a now head ts
  no_arguments_yet a now head e k ts st = record {
    arguments = no_anns;
    tokens = ts;
    keeps = k;
    starts = st;
    leads =
        λ parts before s. filled texts.text source.next_gives a (name_of head) ts parts before s e;
  }

  module _ {a m : Reader X I} {now : Annotations} {head : RustName} (v : (ts : List Lexeme) → Starts ts head.place.start
      → ArgumentsSoFar texts source a m now head ts) where
    pub argument_fails : {e : Fault} → Blames e (λ x. (s : AnnStack)
        → Came texts.text source.next_gives m (at (part_due no_anns [] s)) x)
        → Blames e (λ x. (ts : List Lexeme) → Starts ts head.place.start
        → (parts : Anns) (before : List Lexeme) (s : AnnStack) → Came texts.text source.next_gives a
        (at (argument_due (name_of head) ts parts before s)) x)
    argument_fails w = blame (λ x u. λ ts st parts before s. let z = v ts st in
        z.leads parts before s x (u (ann_inside (name_of head) z.arguments z.tokens parts before s))) w

    module _ {d : Reader X I} {o : Annotation} (n : GivesUnion texts source m d o) where
      pub close_fails : {e : Fault} → IsAhead (kind.Operator sign.Bar) d.ahead ≡ false
          → IsAhead (kind.Operator sign.Comma) d.ahead ≡ false
          → Blames e (λ x. (st : State) → NeedsKind texts.text (kind.Operator sign.RightBracket) st d
          → Came texts.text source.next_gives d (at st) x)
          → Blames e (λ x. (ts : List Lexeme) → Starts ts head.place.start → (parts : Anns) (before : List Lexeme)
          (s : AnnStack) → Came texts.text source.next_gives a (at (argument_due (name_of head) ts parts before s)) x)
      close_fails bar comma w = blame (λ x u. λ ts st parts before s. let z = v ts st in
          z.leads parts before s x (n.leads (ann_inside (name_of head) z.arguments z.tokens parts before s) x
          (u (part_read n.tree n.tokens no_anns [] (ann_inside (name_of head) z.arguments z.tokens parts before s))
          (closes texts.text source.next_gives d n.tree n.tokens (name_of head) z.arguments z.tokens parts before s bar
          comma)))) w

      pub comma_fails : {e : Fault} → Blames e (λ x. (r : Reading) → (d.ahead ≡ None → stop r ≡ short)
          → Came texts.text source.next_gives d r x)
          → Blames e (λ x. (ts : List Lexeme) → Starts ts head.place.start → (parts : Anns) (before : List Lexeme)
          (s : AnnStack) → Came texts.text source.next_gives a (at (argument_due (name_of head) ts parts before s)) x)
      comma_fails w = blame (λ x u. λ ts st parts before s. let z = v ts st in
          z.leads parts before s x (n.leads (ann_inside (name_of head) z.arguments z.tokens parts before s) x
          (u (at (part_read n.tree n.tokens no_anns [] (ann_inside (name_of head) z.arguments z.tokens parts before s)))
          (λ q. refl)))) w

      module _ {b : Reader X I} {t : Token X} (h : Takes texts source d b t) {next : Annotations}
          (push : (rest : Anns) (x : Ann) (ts : List Lexeme) → KeepsAnns now rest → KeepsAnn o x ts
          → KeepsAnns next (add_ann rest x)) where
        pub more_arguments : t.kind ≡ kind.Operator sign.Comma → (ts : List Lexeme) → Starts ts head.place.start
            → ArgumentsSoFar texts source a b next head ts
        more_arguments k ts st = let z = v ts st in record {
          arguments = add_ann z.arguments n.tree;
          tokens = z.tokens ++ (n.tokens ++ (lexeme texts.text t ∷ []));
          keeps = push z.arguments n.tree n.tokens z.keeps n.keeps;
          starts = starts_more (n.tokens ++ (lexeme texts.text t ∷ [])) z.starts;
          leads = λ parts before s x y. z.leads parts before s x
              (n.leads (ann_inside (name_of head) z.arguments z.tokens parts before s) x
              (to_comma h n.tree n.tokens (name_of head) z.arguments z.tokens parts before s k x y));
        }

        pub all_arguments : {made : Annotation} → left_in source.remaining m ≤ left_in source.remaining a
            → t.kind ≡ kind.Operator sign.RightBracket
            → ((anns : Anns) → KeepsAnns next anns → MakesAnn made (λ q. applied q (name_of head) anns) head.place.start
            t.place.end)
            → GivesApplied texts source (λ i ts parts before s. argument_due i ts parts before s) a b head made
        all_arguments later k make = record {
          ready = h.ready;
          later = omega (arith, later, n.later, h.later);
          applies = λ ts st. let z = v ts st in record {
            tree = applied (span (z.tokens ++ (n.tokens ++ (lexeme texts.text t ∷ [])))) (name_of head)
                (add_ann z.arguments n.tree);
            tokens = z.tokens ++ (n.tokens ++ (lexeme texts.text t ∷ []));
            keeps = make (add_ann z.arguments n.tree) (push z.arguments n.tree n.tokens z.keeps n.keeps)
                (z.tokens ++ (n.tokens ++ (lexeme texts.text t ∷ [])))
                (starts_more (n.tokens ++ (lexeme texts.text t ∷ [])) z.starts)
                (ends_more z.tokens (ends_more n.tokens (ends_one (lexeme texts.text t))));
            leads = λ parts before s x y. z.leads parts before s x
                (n.leads (ann_inside (name_of head) z.arguments z.tokens parts before s) x
                (to_close h n.tree n.tokens (name_of head) z.arguments z.tokens parts before s k x y));
          };
        }

  -- ---- parts

  pub none_part : {a b : Reader X I} {t : Token X} → Takes texts source a b t → t.kind ≡ kind.Keyword word.None
      → GivesPart texts source a b (record { ann = rust.NoneValue t.place; place = t.place; depth = 0 })
  none_part {t = t} h k = record {
    tree = none_type (span (lexeme texts.text t ∷ []));
    tokens = lexeme texts.text t ∷ [];
    keeps = nothing (lexeme texts.text t);
    ready = h.ready;
    later = h.later;
    leads = λ parts before s. to_none h parts before s k;
  }

  module _ {a m : Reader X I} {name : RustName} (n : GivesName texts source a m name) where
    pub name_part : IsAhead (kind.Operator sign.LeftBracket) m.ahead ≡ false
        → GivesPart texts source a m (record { ann = rust.Name name; place = name.place; depth = 0 })
    name_part e = record {
      tree = named (name_of_token (lexeme texts.text n.token));
      tokens = lexeme texts.text n.token ∷ [];
      keeps = names name (lexeme texts.text n.token) n.name;
      ready = n.takes.ready;
      later = n.takes.later;
      leads = λ parts before s x y. to_name n.takes parts before s n.is x
          (alone texts.text source.next_gives m (name_of_token (lexeme texts.text n.token))
          (lexeme texts.text n.token ∷ []) parts before s e x y);
    }

    pub bracket_fails : {e : Fault} → Blames e (λ x. (r : Reading) → (m.ahead ≡ None → stop r ≡ short)
        → Came texts.text source.next_gives m r x)
        → Blames e (λ x. (parts : Anns) (before : List Lexeme) (s : AnnStack)
        → Came texts.text source.next_gives a (at (part_due parts before s)) x)
    bracket_fails w = blame (λ x u. λ parts before s. to_name n.takes parts before s n.is x
        (u (at (Rattle.pc_grammar.specs.Machine.States.part_named (name_of_token (lexeme texts.text n.token))
        (lexeme texts.text n.token ∷ []) parts before s)) (λ q. refl))) w

    pub applied_part : {d : Reader X I} {t : Token X} (b : Reader X I) → Takes texts source m d t
        → t.kind ≡ kind.Operator sign.LeftBracket → (r : Result Annotation Fault)
        → ReadsApplied texts source (λ i ts parts before s. argument_due i ts parts before s) d b name r
        → ReadsPart texts source a b r
    applied_part {d = d} {t = t} b h k (Ok o) x =
        let st : Starts (lexeme texts.text n.token ∷ lexeme texts.text t ∷ []) name.place.start =
        record {
          head = lexeme texts.text n.token;
          tail = lexeme texts.text t ∷ [];
          is = refl;
          start =
              sym (ap (λ (z : Name). z.place.start) n.name);
        } in
        let y = x.applies (lexeme texts.text n.token ∷ lexeme texts.text t ∷ []) st in record {
          tree = y.tree;
          tokens = y.tokens;
          keeps = y.keeps;
          ready = x.ready;
          later = omega (arith, x.later, h.later, n.takes.later);
          leads = λ parts before s o' z. to_name n.takes parts before s n.is o'
              (to_bracket h (name_of_token (lexeme texts.text n.token)) (lexeme texts.text n.token ∷ []) parts before s
              k o'
              (subst (λ i. Came texts.text source.next_gives d
              (at (argument_due i (lexeme texts.text n.token ∷ lexeme texts.text t ∷ []) parts before
              s)) o') n.name (y.leads parts before s o' z)));
        }
    applied_part {d = d} {t = t} b h k (Err e) x =
        let st : Starts (lexeme texts.text n.token ∷ lexeme texts.text t ∷ []) name.place.start =
        record {
          head = lexeme texts.text n.token;
          tail = lexeme texts.text t ∷ [];
          is = refl;
          start =
              sym (ap (λ (z : Name). z.place.start) n.name);
        } in
        blame (λ o' w. λ parts before s. to_name n.takes parts before s n.is o'
        (to_bracket h (name_of_token (lexeme texts.text n.token)) (lexeme texts.text n.token ∷ []) parts before s k o'
        (subst (λ i. Came texts.text source.next_gives d
        (at (argument_due i (lexeme texts.text n.token ∷ lexeme texts.text t ∷ []) parts before s))
        o') n.name (w (lexeme texts.text n.token ∷ lexeme texts.text t ∷ []) st parts before s)))) x

  -- ---- unions

  module _ {a m : Reader X I} {o : Annotation} (n : GivesPart texts source a m o) where
    pub first_bar_fails : {e : Fault} → Blames e (λ x. (r : Reading) → (m.ahead ≡ None → stop r ≡ short)
        → Came texts.text source.next_gives m r x)
        → Blames e (λ x. (s : AnnStack) → Came texts.text source.next_gives a (at (part_due no_anns [] s)) x)
    first_bar_fails w = blame (λ x u. λ s. n.leads no_anns [] s x
        (u (at (part_read n.tree n.tokens no_anns [] s)) (λ q. refl))) w

    pub parts_begun : {b : Reader X I} {t : Token X} {now next : Annotations} → Takes texts source m b t
        → t.kind ≡ kind.Operator sign.Bar → KeepsAnns now no_anns
        → ((rest : Anns) (x : Ann) (ts : List Lexeme) → KeepsAnns now rest → KeepsAnn o x ts
        → KeepsAnns next (add_ann rest x)) → PartsSoFar texts source a b next o.place.start
    parts_begun {t = t} h k none push = record {
      first = n.tree;
      rest = no_anns;
      tokens = n.tokens ++ (lexeme texts.text t ∷ []);
      keeps = push no_anns n.tree n.tokens none n.keeps;
      starts = starts_more (lexeme texts.text t ∷ []) n.keeps.starts;
      leads = λ s x y. n.leads no_anns [] s x (to_bar h n.tree n.tokens no_anns [] s k x y);
    }

  module _ {a m : Reader X I} {now : Annotations} {start : ℕ} (v : PartsSoFar texts source a m now start) where
    pub part_fails : {e : Fault} → Blames e (λ x. (parts : Anns) (before : List Lexeme) (s : AnnStack)
        → Came texts.text source.next_gives m (at (part_due parts before s)) x)
        → Blames e (λ x. (s : AnnStack) → Came texts.text source.next_gives a (at (part_due no_anns [] s)) x)
    part_fails w = blame (λ x u. λ s. v.leads s x (u (more_anns v.first v.rest) v.tokens s)) w

    module _ {d : Reader X I} {o : Annotation} (n : GivesPart texts source m d o) where
      pub bar_fails : {e : Fault} → Blames e (λ x. (r : Reading) → (d.ahead ≡ None → stop r ≡ short)
          → Came texts.text source.next_gives d r x)
          → Blames e (λ x. (s : AnnStack) → Came texts.text source.next_gives a (at (part_due no_anns [] s)) x)
      bar_fails w = blame (λ x u. λ s. v.leads s x (n.leads (more_anns v.first v.rest) v.tokens s x
          (u (at (part_read n.tree n.tokens (more_anns v.first v.rest) v.tokens s)) (λ q. refl)))) w

      module _ {next : Annotations} (push : (rest : Anns) (x : Ann) (ts : List Lexeme) → KeepsAnns now rest
          → KeepsAnn o x ts → KeepsAnns next (add_ann rest x)) where
        pub more_parts : {b : Reader X I} {t : Token X} → Takes texts source d b t
            → t.kind ≡ kind.Operator sign.Bar → PartsSoFar texts source a b next start
        more_parts {t = t} h k = record {
          first = v.first;
          rest = add_ann v.rest n.tree;
          tokens = v.tokens ++ (n.tokens ++ (lexeme texts.text t ∷ []));
          keeps = push (more_anns v.first v.rest) n.tree n.tokens v.keeps n.keeps;
          starts = starts_more (n.tokens ++ (lexeme texts.text t ∷ [])) v.starts;
          leads = λ s x y. v.leads s x (n.leads (more_anns v.first v.rest) v.tokens s x
              (to_bar h n.tree n.tokens (more_anns v.first v.rest) v.tokens s k x y));
        }

        pub all_parts : {made : Annotation} → left_in source.remaining m < left_in source.remaining a
            → IsAhead (kind.Operator sign.Bar) d.ahead
            ≡ false
            → ((anns : Anns) → KeepsAnns next anns → MakesAnn made (λ q. union q anns) start o.place.end)
            → GivesUnion texts source a d made
        all_parts later bar make = record {
          tree = union (span (v.tokens ++ n.tokens)) (add_ann (more_anns v.first v.rest) n.tree);
          tokens = v.tokens ++ n.tokens;
          keeps = make (add_ann (more_anns v.first v.rest) n.tree)
              (push (more_anns v.first v.rest) n.tree n.tokens v.keeps n.keeps) (v.tokens ++ n.tokens)
              (starts_more n.tokens v.starts) (ends_more v.tokens n.keeps.ends);
          ready = n.ready;
          later = omega (arith, n.later, later);
          leads = λ s x y. v.leads s x (n.leads (more_anns v.first v.rest) v.tokens s x
              (united texts.text source.next_gives d n.tree n.tokens (more_anns v.first v.rest) v.tokens s bar x y));
        }

  -- ---- whole annotations

  pub whole_annotation : (a b : Parser X I) (m : Reader X I) (o : Annotation)
      → GivesUnion texts source a.reader m o → IsAhead (kind.Operator sign.Bar) m.ahead ≡ false → b.reader ≡ m
      → b.deep ≡ deep_after a.deep (record { start = o.place.start; depth = o.depth } ∷ [])
      → GivesAnn texts source a b o.ann
  whole_annotation a b m o n bar same deep =
      let e : b.deep ≡ deep_after a.deep (whole_ann n.tree ∷ []) = deep
      ∙ note_of a.deep o.place.start o.depth (whole_ann n.tree).depth (whole_ann n.tree) n.keeps.first n.keeps.depth
      refl in record {
        annotation = n.tree;
        keeps = record {
          deep = e;
          kept = λ q. n.keeps.kept (let d = n.keeps.depth in let s =
              shallow a.deep (whole_ann n.tree) (sym e ∙ q) in omega arith);
        };
        ready = subst (λ z. IsReady source.can_next source.remaining z) (sym same) n.ready;
        later = omega (arith, n.later, ap (left_in source.remaining) same);
        behind = λ c. part_read n.tree n.tokens no_anns [] (ann_whole c);
        unfinished = λ c. refl;
        leads = λ c x y. n.leads (ann_whole c) x
            (subst (λ z. Came texts.text source.next_gives z (at (part_read n.tree n.tokens no_anns [] (ann_whole c)))
            x) same y);
        goes = λ c t h. ap (λ z. on z (part_due (more_anns n.tree no_anns) (n.tokens ++ (lexeme texts.text t ∷ []))
            (ann_whole c)) (finish_ann c n.tree t.kind)) (not_seen (kind.Operator sign.Bar)
            (subst (λ (z : Reader X I). IsAhead (kind.Operator sign.Bar) z.ahead ≡ false) (sym same) bar) h);
      }
