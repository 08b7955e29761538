-- Classes and their members, as the machine reads them and as the tree holds them.
use Rattle.std.specs.declared.convert.AsStr.{Ghosts as TextOf}
use Rattle.std.specs.declared.iter.Iterator.{Ghosts as TokensOf}
use Rattle.std.proofs.Common.{◌≡◌, ℕ, ◌≤◌, true, false, List, [], ◌∷◌, ◌++◌, map, Option, Some, None, Result, refl}
use Rattle.std.proofs.Common.{arith, ap, sym, ◌∙◌, subst, append_assoc}
use Rattle.std.specs.Prelude.{Vec, codes}
use Rattle.std.specs.declared.alloc.Global.{Global}
use Rattle.std.proofs.lemmas.List.{append-nil}
use Rattle.pc_source.specs.declared.fault.Fault.{Fault}
use Rattle.pc_source.specs.declared.place.Place.{Place}
use Rattle.pc_token.specs.declared.token.Token.{Token}
use Rattle.pc_token.specs.declared.token.TokenKind.{TokenKind}
use Rattle.pc_token.specs.declared.token.TokenKind.TheVariants as kind
use Rattle.pc_token.specs.declared.token.Keyword.TheVariants as word
use Rattle.pc_token.specs.declared.token.Operator.TheVariants as sign
use Rattle.pc_tree.specs.declared.tree.Ann.{Ann as RustAnn}
use Rattle.pc_tree.specs.declared.tree.Name.{Name as RustName}
use Rattle.pc_tree.specs.declared.tree.Literal.{Literal as RustLiteral}
use Rattle.pc_tree.specs.declared.tree.Member.{Member as RustMember}
use Rattle.pc_tree.specs.declared.tree.Member.TheVariants as rust
use Rattle.pc_tree.specs.declared.tree.Field.{Field as RustField}
use Rattle.pc_tree.specs.declared.tree.FuncDef.{FuncDef as RustFuncDef}
use Rattle.pc_tree.specs.Tree.{Name, Ann, Literal, Field, Member, field_member, method_member, ClassDef, name_of}
use Rattle.pc_tree.specs.Tree.{ann_of, option_name_of, option_literal_of, member_of, no_anns}
use Rattle.pc_tree.specs.Depth.{whole_ann, wholes_of_def, wholes_of_members}
use Rattle.pc_grammar.specs.Grammar.{name_of_token}
use Rattle.pc_grammar.specs.Machine.{Reading, at, transition, stop, short}
use Rattle.pc_grammar.specs.Machine.Kinds.{same_kind, a_kind}
use Rattle.pc_grammar.specs.Machine.States.{Top, ClassStart, of_class, AnnotationPosition, of_field}
use Rattle.pc_grammar.specs.Machine.States.{LiteralContext, default_of_field, ann_whole, State, fixed, items}
use Rattle.pc_grammar.specs.Machine.States.{decorator_due, class_due, class_named, base_due, members, def_due}
use Rattle.pc_grammar.specs.Machine.States.{part_due, Transition, stuck, on}
use Rattle.pc_grammar.specs.Machine.Finishing.{field, finish_ann, after_class}
use Rattle.pc_grammar.specs.Machine.Lines.{due, members_end}
use Rattle.pc_reader.specs.declared.reader.Reader.{Reader}
use Rattle.pc_reader.specs.Reading.{Blames, IsAhead, lexeme, Came, Onward, left_in, Takes, NeedsKind}
use Rattle.pc_reader.specs.Internal.Expressions.{GivesName}
use Rattle.pc_reader.specs.Internal.StatesAhead.{StandsBefore, LeadsTo}
use Rattle.pc_reader.specs.Internal.Literals.{opens_literal, or_literal, GivesDefault}
use Rattle.pc_reader.specs.Internal.FixedWords.{GivesFixed, TakesForm, NeedsForm}
use Rattle.pc_reader.proofs.Steps.{step_to, alike, needs, not_seen, kind_seen}
use Rattle.pc_reader.proofs.Streams.{blame}
use Rattle.pc_reader.proofs.Stands.{awaits, passes, takes, reached_so, reached_after, reaches_to}
use Rattle.pc_reader.proofs.Words.{kind_due, kind_read}
use Rattle.pc_parse.specs.declared.parser.Parser.{Parser}
use Rattle.pc_parse.specs.Internal.WholeTrees.{deep_after, KeepsTree, GivesAnn}
use Rattle.pc_parse.specs.Internal.Signatures.{GivesFunction}
use Rattle.pc_parse.specs.Internal.Classes.{with_base, GoOn, GivesBase, GivesField, GivesMember, GivesMembers}
use Rattle.pc_parse.specs.Internal.Classes.{MembersSoFar, GivesClass}
use Rattle.pc_parse.proofs.Parameters.{kept_more, kept_none}

members_split : (ms : List Member) (m : Member) → wholes_of_members (ms ++ (m ∷ [])) ≡ wholes_of_members ms
    ++ wholes_of_members (m ∷ [])
members_split [] m = refl
members_split (field_member f ∷ ms) m = ap (λ z. whole_ann f.annotation ∷ z) (members_split ms m)
members_split (method_member f ∷ ms) m = ap (λ z. wholes_of_def f ++ z) (members_split ms m)
    ∙ sym (append_assoc (wholes_of_def f) (wholes_of_members ms) (wholes_of_members (m ∷ [])))

-- after a member the end of the suite may come
ends_some : (c : ClassStart) (ms : List Member) (m : Member) (k : TokenKind) → members_end c (ms ++ (m ∷ [])) k
    ≡ on (same_kind k kind.Dedent) (after_class c (ms ++ (m ∷ []))) stuck
ends_some c [] m k = refl
ends_some c (x ∷ ms) m k = refl

literal_behind : (c : ClassStart) (ms : List Member) (n : Name) (a : Ann) (l : Option Literal) (k : TokenKind)
    → or_literal (default_of_field c ms n a) (λ i. on (same_kind i kind.Newline)
    (members c (ms ++ (field n a None ∷ []))) stuck) l k ≡ on (same_kind k kind.Newline)
    (members c (ms ++ (field n a l ∷ []))) stuck
literal_behind c ms n a None k = refl
literal_behind c ms n a (Some l) k = refl

-- before anything was taken
module _ {X I : Type 0} (text : X → List ℕ) (steps : I → Option (Result (Token X) Fault) → I → Type 0) where
  pub no_field : (a : Reader X I) (c : ClassStart) (ms : List Member) → IsAhead (kind.Keyword word.Def) a.ahead ≡ false
      → GoOn a c ms → NeedsKind text kind.Name (members c ms) a
  no_field a c ms d g = record {
    unfinished = refl;
    stuck_at = λ t h e. passes _ _ _ e ∙ passes _ (def_due (of_class c ms) t.place) _
        (not_seen (kind.Keyword word.Def) d h) ∙ g t h;
  }

  -- `pass` in the place of members
  pub passed_over : (a : Reader X I) → IsAhead (kind.Keyword word.Pass) a.ahead ≡ true → (c : ClassStart)
      → Onward text steps a a (at (members c []))
      (at (fixed (a_kind (kind.Keyword word.Pass)) (a_kind kind.Newline ∷ a_kind kind.Dedent ∷ [])
      (after_class c [])))
  passed_over a e c = alike text steps a (members c []) (fixed (a_kind (kind.Keyword word.Pass))
      (a_kind kind.Newline ∷ a_kind kind.Dedent ∷ []) (after_class c [])) refl refl
      (λ t h. let k = kind_seen (kind.Keyword word.Pass) e h in ap (transition (members c []) (lexeme text t)) k
      ∙ sym (ap (transition (fixed (a_kind (kind.Keyword word.Pass)) (a_kind kind.Newline ∷ a_kind kind.Dedent ∷ [])
      (after_class c [])) (lexeme text t)) k))

  -- with no base the suite begins
  unbased : (a : Reader X I) → IsAhead (kind.Operator sign.LeftParenthesis) a.ahead ≡ false → (c : ClassStart)
      → Onward text steps a a (at (class_named c))
      (at (fixed (a_kind (kind.Operator sign.Colon)) (a_kind kind.Newline ∷ a_kind kind.Indent ∷ [])
      (members c [])))
  unbased a e c = alike text steps a (class_named c) (fixed (a_kind (kind.Operator sign.Colon))
      (a_kind kind.Newline ∷ a_kind kind.Indent ∷ []) (members c [])) refl refl
      (λ t h. passes _ (base_due c) (on (same_kind t.kind (kind.Operator sign.Colon))
      (fixed (a_kind kind.Newline) (a_kind kind.Indent ∷ []) (members c [])) stuck)
      (not_seen (kind.Operator sign.LeftParenthesis) e h))

  pub suite_missing : (a : Reader X I) (e : Fault) → IsAhead (kind.Operator sign.LeftParenthesis) a.ahead ≡ false
      → Blames e (λ o. (next : State)
      → Came text steps a
      (at (due (a_kind (kind.Operator sign.Colon) ∷ a_kind kind.Newline ∷ a_kind kind.Indent ∷ []) next)) o)
      → Blames e (λ o. (c : ClassStart) → c.base ≡ None → Came text steps a (at (class_named c)) o)
  suite_missing a e i w = blame (λ o u. λ c q. unbased a i c o (u (members c []))) w

  pub needs_dataclass : (a : Reader X I) (first : Place) (top : Top)
      → NeedsForm text (codes "dataclass") (decorator_due first top) a
  needs_dataclass a first top = record {
    unfinished = refl;
    stuck_at = λ t h e. ap (λ z. on z (fixed (a_kind kind.Newline) (a_kind (kind.Keyword word.Class) ∷ [])
        (class_due first t.place top)) stuck) e;
  }

module _ {X I : Type 0} {texts : TextOf X} {source : TokensOf I (Result (Token X) Fault)} where
  -- ---- fields

  module _ (a : Parser X I) {m : Reader X I} {name : RustName} (n : GivesName texts source a.reader m name) where
    named : (c : ClassStart) (ms : List Member) → Onward texts.text source.next_gives a.reader m (at (members c ms))
        (at (fixed (a_kind (kind.Operator sign.Colon)) [] (part_due no_anns []
        (ann_whole (of_field c ms (name_of_token (lexeme texts.text n.token)))))))
    named c ms = step_to (members c ms) (fixed (a_kind (kind.Operator sign.Colon)) []
        (part_due no_anns [] (ann_whole (of_field c ms (name_of_token (lexeme texts.text n.token)))))) n.takes
        (ap (transition (members c ms) (lexeme texts.text n.token)) n.is)

    pub colon_missing : {e : Fault} → Blames e (λ o. (st : State) → NeedsKind texts.text (kind.Operator sign.Colon) st m
        → Came texts.text source.next_gives m (at st) o)
        → Blames e (λ o. (c : ClassStart) (ms : List Member) → IsAhead (kind.Keyword word.Def) a.reader.ahead ≡ false
        → GoOn a.reader c ms → Came texts.text source.next_gives a.reader (at (members c ms)) o)
    colon_missing w =
        blame
        (λ o u. λ c ms d g. named c ms o
        (u (fixed (a_kind (kind.Operator sign.Colon)) [] (part_due no_anns []
        (ann_whole (of_field c ms (name_of_token (lexeme texts.text n.token))))))
        (kind_due (kind.Operator sign.Colon) [] (part_due no_anns []
        (ann_whole (of_field c ms (name_of_token (lexeme texts.text n.token)))))))) w

    module _ {p : Reader X I} {t : Token X} (h : Takes texts source m p t)
        (k : t.kind ≡ kind.Operator sign.Colon) where
      annotated : (c : ClassStart) (ms : List Member) → Onward texts.text source.next_gives a.reader p
          (at (members c ms))
          (at (part_due no_anns [] (ann_whole (of_field c ms (name_of_token (lexeme texts.text n.token))))))
      annotated c ms o y = named c ms o (kind_read (kind.Operator sign.Colon) h k []
          (part_due no_anns [] (ann_whole (of_field c ms (name_of_token (lexeme texts.text n.token))))) o y)

      pub field_annotation_fails : {e : Fault} → Blames e (λ o. (i : AnnotationPosition)
          → Came texts.text source.next_gives p (at (part_due no_anns [] (ann_whole i))) o)
          → Blames e (λ o. (c : ClassStart) (ms : List Member) → IsAhead (kind.Keyword word.Def) a.reader.ahead ≡ false
          → GoOn a.reader c ms → Came texts.text source.next_gives a.reader (at (members c ms)) o)
      field_annotation_fails w = blame (λ o u. λ c ms d g. annotated c ms o
          (u (of_field c ms (name_of_token (lexeme texts.text n.token))))) w

      module _ {q b : Parser X I} {ann : RustAnn} (same : q.reader ≡ p) (x : GivesAnn texts source q b ann) where
        behind : (c : ClassStart) (ms : List Member) → LeadsTo texts.text source.next_gives p b.reader
            (part_due no_anns [] (ann_whole (of_field c ms (name_of_token (lexeme texts.text n.token)))))
            (finish_ann (of_field c ms (name_of_token (lexeme texts.text n.token))) x.annotation)
        behind c ms = let i = of_field c ms (name_of_token (lexeme texts.text n.token)) in record {
          behind = x.behind i;
          stands = record { unfinished = x.unfinished i; goes = x.goes i };
          leads = λ o y. subst (λ z. Came texts.text source.next_gives z (at (part_due no_anns [] (ann_whole i))) o)
              same (x.leads i o y);
        }

        pub field_default_fails : {e : Fault} → Blames e (λ o. (st : State) (i : LiteralContext)
            (other : TokenKind → Transition) → StandsBefore texts.text b.reader st (opens_literal i other)
            → Came texts.text source.next_gives b.reader (at st) o)
            → Blames e (λ o. (c : ClassStart) (ms : List Member) → IsAhead (kind.Keyword word.Def) a.reader.ahead
            ≡ false → GoOn a.reader c ms → Came texts.text source.next_gives a.reader (at (members c ms)) o)
        field_default_fails w = blame (λ o u. λ c ms d g. let N = name_of_token (lexeme texts.text n.token) in let r =
            behind c ms in
            annotated c ms o (r.leads o (u r.behind (default_of_field c ms N x.annotation)
            (λ i. on (same_kind i kind.Newline) (members c (ms ++ (field N x.annotation None ∷ []))) stuck)
            r.stands))) w

        module _ {f : Reader X I} {l : Option RustLiteral} (y : GivesDefault texts source b.reader f l) where
          ended_line : (c : ClassStart) (ms : List Member) → LeadsTo texts.text source.next_gives p f
              (part_due no_anns [] (ann_whole (of_field c ms (name_of_token (lexeme texts.text n.token)))))
              (λ k. on (same_kind k kind.Newline)
              (members c (ms ++ (field (name_of_token (lexeme texts.text n.token)) x.annotation (option_literal_of l)
              ∷ [])))
              stuck)
          ended_line c ms = let N = name_of_token (lexeme texts.text n.token) in let r = behind c ms in
              let z = y.leads r.behind (default_of_field c ms N x.annotation)
              (λ i. on (same_kind i kind.Newline) (members c (ms ++ (field N x.annotation None ∷ []))) stuck)
              r.stands in
              reached_after r.leads (reached_so (λ k. on (same_kind k kind.Newline)
              (members c (ms ++ (field N x.annotation (option_literal_of l) ∷ []))) stuck) z
              (λ t h. literal_behind c ms N x.annotation (option_literal_of l) t.kind))

          pub line_end_missing : {e : Fault} → Blames e (λ o. (st : State) → NeedsKind texts.text kind.Newline st f
              → Came texts.text source.next_gives f (at st) o)
              → Blames e (λ o. (c : ClassStart) (ms : List Member) → IsAhead (kind.Keyword word.Def) a.reader.ahead
              ≡ false → GoOn a.reader c ms → Came texts.text source.next_gives a.reader (at (members c ms)) o)
          line_end_missing w = blame (λ o u. λ c ms d g. let r = ended_line c ms in
              annotated c ms o
              (r.leads o
              (u r.behind
              (awaits kind.Newline
              (members c (ms ++ (field (name_of_token (lexeme texts.text n.token)) x.annotation (option_literal_of l)
              ∷ [])))
              r.stands (λ t h. refl))))) w

          pub field_read : {s : Parser X I} {v : Token X} → q.deep ≡ a.deep → s.deep ≡ b.deep
              → Takes texts source f s.reader v → v.kind ≡ kind.Newline
              → GivesField texts source a s (record { name = name; annotation = ann; default = l })
          field_read {s = s} {v = v} qa sb j i = let N = name_of_token (lexeme texts.text n.token) in
              let make : Name → Ann → Field = λ e z. record {
                name = e;
                annotation = z;
                default =
                    option_literal_of l;
              } in record {
                field = record { name = N; annotation = x.annotation; default = option_literal_of l };
                keeps = record {
                  deep = sb ∙ x.keeps.deep ∙ ap (λ z. deep_after z (whole_ann x.annotation ∷ [])) qa;
                  kept = λ e. ap (λ z. make z (ann_of ann)) n.name ∙ ap (make N) (x.keeps.kept (sym sb ∙ e));
                };
                ready = j.ready;
                later = omega (
                  arith,
                  j.later,
                  y.later,
                  x.later,
                  h.later,
                  n.takes.later,
                  ap (left_in source.remaining)
                      same,
                );
                leads = λ c ms o z. annotated c ms o
                    (reaches_to (members c (ms ++ (field N x.annotation (option_literal_of l) ∷ []))) (ended_line c ms)
                    j (takes kind.Newline v.kind (members c (ms ++ (field N x.annotation (option_literal_of l) ∷ [])))
                    stuck i) o z);
              }

  -- ---- members

  pub field_as_member : {a b : Parser X I} {f : RustField} → GivesField texts source a b f
      → GivesMember texts source a b (rust.Field f)
  field_as_member x = record {
    member = field_member x.field;
    keeps = record { deep = x.keeps.deep; kept = λ e. ap field_member (x.keeps.kept e) };
    ready = x.ready;
    later = x.later;
    leads = x.leads;
  }

  pub method_fails : {a m : Reader X I} {t : Token X} {e : Fault} → Takes texts source a m t
      → t.kind ≡ kind.Keyword word.Def
      → Blames e (λ o. (owner : Rattle.pc_grammar.specs.Machine.States.FunctionOwner) (first : Place)
      → Rattle.pc_grammar.specs.Fronts.Lines.is_in_class owner ≡ true
      → Came texts.text source.next_gives m (at (def_due owner first)) o)
      → Blames e (λ o. (c : ClassStart) (ms : List Member) → GoOn a c ms
      → Came texts.text source.next_gives a (at (members c ms)) o)
  method_fails {t = t} h k w = blame (λ o u. λ c ms g. step_to (members c ms) (def_due (of_class c ms) t.place) h
      (ap (transition (members c ms) (lexeme texts.text t)) k) o (u (of_class c ms) t.place refl)) w

  pub method_as_member : (a p : Parser X I) {b : Parser X I} {t : Token X} {f : RustFuncDef}
      → Takes texts source a.reader p.reader t → t.kind ≡ kind.Keyword word.Def → p.deep ≡ a.deep
      → GivesFunction texts source true p b f → GivesMember texts source a b (rust.Method f)
  method_as_member a p {b = b} {t = t} h k same x = record {
    member = method_member x.function;
    keeps = record {
      deep = subst (λ z. b.deep ≡ deep_after z (wholes_of_def x.function)) same x.keeps.deep
          ∙ ap (λ z. deep_after a.deep z) (sym (append-nil (wholes_of_def x.function)));
      kept = λ e. ap method_member (x.keeps.kept e);
    };
    ready = x.ready;
    later = omega (arith, x.later, h.later);
    leads = λ c ms o y. step_to (members c ms) (def_due (of_class c ms) t.place) h
        (ap (transition (members c ms) (lexeme texts.text t)) k) o (x.leads (of_class c ms) t.place refl o y);
  }

  -- ---- lists of members

  pub no_members : (a : Parser X I) {v : Vec RustMember Global} → v.items ≡ []
      → IsAhead (kind.Keyword word.Pass) a.reader.ahead ≡ false → MembersSoFar texts source a a v
  no_members a e p = record {
    all = [];
    keeps = kept_none member_of wholes_of_members refl a.deep e;
    goes_on = λ c t h. passes _ (fixed (a_kind kind.Newline) (a_kind kind.Dedent ∷ []) (after_class c [])) stuck
        (not_seen (kind.Keyword word.Pass) p h);
    leads = λ c o y. y;
  }

  module _ {a m : Parser X I} {v : Vec RustMember Global} (s : MembersSoFar texts source a m v) where
    pub member_fails : {e : Fault} → Blames e (λ o. (c : ClassStart) (ms : List Member) → GoOn m.reader c ms
        → Came texts.text source.next_gives m.reader (at (members c ms)) o) → Blames e (λ o. (c : ClassStart)
        → Came texts.text source.next_gives a.reader (at (members c [])) o)
    member_fails w = blame (λ o u. λ c. s.leads c o (u c s.all (s.goes_on c))) w

    module _ {q : Parser X I} {r : RustMember} (x : GivesMember texts source m q r) where
      pub dedent_fails : {e : Fault} → Blames e (λ o. (z : Reading) → (q.reader.ahead ≡ None → stop z ≡ short)
          → Came texts.text source.next_gives q.reader z o) → Blames e (λ o. (c : ClassStart)
          → Came texts.text source.next_gives a.reader (at (members c [])) o)
      dedent_fails w =
          blame
          (λ o u. λ c. s.leads c o (x.leads c s.all o (u (at (members c (s.all ++ (x.member ∷ [])))) (λ z. refl)))) w

    module _ {q : Parser X I} {r : RustMember} (x : GivesMember texts source m q r) {v' : Vec RustMember Global}
        (push : v'.items ≡ v.items ++ (r ∷ [])) where
      kept : KeepsTree (λ (w : Vec RustMember Global). map member_of w.items) wholes_of_members a.deep q.deep v'
          (s.all ++ (x.member ∷ []))
      kept = kept_more member_of (λ p. wholes_of_members (p ∷ [])) wholes_of_members members_split push s.keeps x.keeps

      pub more_members : IsAhead kind.Dedent q.reader.ahead ≡ false → MembersSoFar texts source a q v'
      more_members e = record {
        all = s.all ++ (x.member ∷ []);
        keeps = kept;
        goes_on = λ c t h. ends_some c s.all x.member t.kind ∙ passes _ (after_class c (s.all ++ (x.member ∷ []))) stuck
            (not_seen kind.Dedent e h);
        leads = λ c o y. s.leads c o (x.leads c s.all o y);
      }

      pub last_member : {b : Parser X I} {t : Token X} → Takes texts source q.reader b.reader t
          → t.kind ≡ kind.Dedent → b.deep ≡ q.deep → left_in source.remaining m.reader ≤ left_in source.remaining
          a.reader
          → GivesMembers texts source a b v'
      last_member {b = b} {t = t} h k same later = record {
        all = s.all ++ (x.member ∷ []);
        keeps = subst (λ z. KeepsTree (λ (w : Vec RustMember Global). map member_of w.items) wholes_of_members a.deep z
            v' (s.all ++ (x.member ∷ []))) (sym same) kept;
        ready = h.ready;
        later = omega (arith, h.later, x.later, later);
        leads = λ c o y. s.leads c o (x.leads c s.all o (step_to (members c (s.all ++ (x.member ∷ [])))
            (after_class c (s.all ++ (x.member ∷ []))) h
            (ap (transition (members c (s.all ++ (x.member ∷ []))) (lexeme texts.text t)) k
            ∙ ends_some c s.all x.member kind.Dedent) o y));
      }

  -- ---- the beginning of a class

  pub no_base : {a b : Reader X I} → IsAhead (kind.Operator sign.LeftParenthesis) a.ahead ≡ false
      → GivesFixed texts source (a_kind (kind.Operator sign.Colon) ∷ a_kind kind.Newline ∷ a_kind kind.Indent
      ∷ []) a b → GivesBase texts source a b None
  no_base {a = a} {b = b} e x = record {
    ready = x.ready;
    later = x.later;
    leads = λ c q o y. unbased texts.text source.next_gives a e c o (x.leads (members c []) o
        (subst (λ z. Came texts.text source.next_gives b (at (members (record c { base = z }) [])) o) (sym q) y));
  }

  module _ {a m : Reader X I} {t : Token X} (h : Takes texts source a m t)
      (k : t.kind ≡ kind.Operator sign.LeftParenthesis) where
    opened : (c : ClassStart) → Onward texts.text source.next_gives a m (at (class_named c)) (at (base_due c))
    opened c = step_to (class_named c) (base_due c) h (ap (transition (class_named c) (lexeme texts.text t)) k)

    pub base_fails : {e : Fault} → Blames e (λ o. (st : State) → NeedsKind texts.text kind.Name st m
        → Came texts.text source.next_gives m (at st) o) → Blames e (λ o. (c : ClassStart) → c.base ≡ None
        → Came texts.text source.next_gives a (at (class_named c)) o)
    base_fails w =
        blame
        (λ o u. λ c q. opened c o
        (u (base_due c) (needs (λ t. fixed (a_kind (kind.Operator sign.RightParenthesis))
        (a_kind (kind.Operator sign.Colon) ∷ a_kind kind.Newline ∷ a_kind kind.Indent ∷ [])
        (members (record c { base = Some (name_of_token t) }) [])) refl (λ t i. refl)))) w

    module _ {p : Reader X I} {name : RustName} (n : GivesName texts source m p name) where
      based : (c : ClassStart) → Onward texts.text source.next_gives a p (at (class_named c))
          (at (fixed (a_kind (kind.Operator sign.RightParenthesis))
          (a_kind (kind.Operator sign.Colon) ∷ a_kind kind.Newline ∷ a_kind kind.Indent ∷ [])
          (members (record c { base = Some (name_of name) }) [])))
      based c o y = let rest : State → State = λ next. fixed (a_kind (kind.Operator sign.RightParenthesis))
          (a_kind (kind.Operator sign.Colon) ∷ a_kind kind.Newline ∷ a_kind kind.Indent ∷ []) next in
          opened c o
          (step_to (base_due c) (rest (members (record c { base = Some (name_of_token (lexeme texts.text n.token)) })
          []))
          n.takes (ap (transition (base_due c) (lexeme texts.text n.token)) n.is) o
          (subst (λ z. Came texts.text source.next_gives p (at (rest (members (record c { base = Some z }) []))) o)
          n.name y))

      pub base_unclosed : {e : Fault} → Blames e (λ o. (next : State)
          → Came texts.text source.next_gives p
          (at (due (a_kind (kind.Operator sign.RightParenthesis) ∷ a_kind (kind.Operator sign.Colon)
          ∷ a_kind kind.Newline ∷ a_kind kind.Indent ∷ []) next)) o)
          → Blames e (λ o. (c : ClassStart) → c.base ≡ None → Came texts.text source.next_gives a (at (class_named c))
          o)
      base_unclosed w = blame (λ o u. λ c q. based c o (u (members (record c { base = Some (name_of name) }) []))) w

      pub base_read : {b : Reader X I} → GivesFixed texts source
          (a_kind (kind.Operator sign.RightParenthesis) ∷ a_kind (kind.Operator sign.Colon) ∷ a_kind kind.Newline
          ∷ a_kind kind.Indent ∷ []) p b → GivesBase texts source a b (Some name)
      base_read x = record {
        ready = x.ready;
        later = omega (arith, x.later, n.takes.later, h.later);
        leads = λ c q o y. based c o (x.leads (members (record c { base = Some (name_of name) }) []) o y);
      }

  -- ---- classes

  module _ (a : Parser X I) {m : Reader X I} {t : Token X} (f : TakesForm texts source (codes "dataclass")
      a.reader m t) where
    decorated : (first : Place) (top : Top) → Onward texts.text source.next_gives a.reader m
        (at (decorator_due first top))
        (at (fixed (a_kind kind.Newline) (a_kind (kind.Keyword word.Class) ∷ []) (class_due first t.place top)))
    decorated first top = step_to (decorator_due first top) (fixed (a_kind kind.Newline)
        (a_kind (kind.Keyword word.Class) ∷ []) (class_due first t.place top)) f.takes
        (ap (λ z. on z (fixed (a_kind kind.Newline) (a_kind (kind.Keyword word.Class) ∷ [])
        (class_due first t.place top)) stuck) f.is)

    pub class_word_missing : {e : Fault} → Blames e (λ o. (next : State)
        → Came texts.text source.next_gives m (at (due (a_kind kind.Newline ∷ a_kind (kind.Keyword word.Class) ∷ [])
        next)) o)
        → Blames e (λ o. (first : Place) (top : Top) → Came texts.text source.next_gives a.reader
        (at (decorator_due first top)) o)
    class_word_missing w = blame (λ o u. λ first top. decorated first top o (u (class_due first t.place top))) w

    module _ {p : Reader X I} (x : GivesFixed texts source
        (a_kind kind.Newline ∷ a_kind (kind.Keyword word.Class) ∷ []) m p) where
      pub class_name_missing : {e : Fault} → Blames e (λ o. (st : State) → NeedsKind texts.text kind.Name st p
          → Came texts.text source.next_gives p (at st) o) → Blames e (λ o. (first : Place) (top : Top)
          → Came texts.text source.next_gives a.reader (at (decorator_due first top)) o)
      class_name_missing w = blame (λ o u. λ first top. decorated first top o (x.leads (class_due first t.place top) o
          (u (class_due first t.place top)
          (needs (λ v. class_named (record {
            top = top;
            first = first;
            decorator = t.place;
            name = name_of_token v;
            base =
                None;
          })) refl (λ v i. refl))))) w

      module _ {q : Reader X I} {name : RustName} (n : GivesName texts source p q name) where
        named_class : (first : Place) (top : Top) → Onward texts.text source.next_gives a.reader q
            (at (decorator_due first top))
            (at (class_named (record {
              top = top;
              first = first;
              decorator = t.place;
              name =
                  name_of_token (lexeme texts.text n.token);
              base = None;
            })))
        named_class first top o y = decorated first top o (x.leads (class_due first t.place top) o
            (step_to (class_due first t.place top)
            (class_named (record {
              top = top;
              first = first;
              decorator = t.place;
              name =
                  name_of_token (lexeme texts.text n.token);
              base = None;
            })) n.takes
            (ap (transition (class_due first t.place top) (lexeme texts.text n.token)) n.is) o y))

        pub class_base_fails : {e : Fault} → Blames e (λ o. (c : ClassStart) → c.base ≡ None
            → Came texts.text source.next_gives q (at (class_named c)) o) → Blames e (λ o. (first : Place) (top : Top)
            → Came texts.text source.next_gives a.reader (at (decorator_due first top)) o)
        class_base_fails w = blame (λ o u. λ first top. named_class first top o
            (u (record {
              top = top;
              first = first;
              decorator = t.place;
              name = name_of_token (lexeme texts.text n.token);
              base =
                  None;
            }) refl)) w

        module _ (r : Parser X I) {base : Option RustName} (z : GivesBase texts source q r.reader base) where
          pub class_members_fail : {e : Fault} → Blames e (λ o. (c : ClassStart)
              → Came texts.text source.next_gives r.reader (at (members c [])) o)
              → Blames e (λ o. (first : Place) (top : Top)
              → Came texts.text source.next_gives a.reader (at (decorator_due first top)) o)
          class_members_fail w = blame (λ o u. λ first top. let c : ClassStart =
              record {
                top = top;
                first = first;
                decorator = t.place;
                name = name_of_token (lexeme texts.text n.token);
                base =
                    None;
              } in
              named_class first top o (z.leads c refl o (u (with_base c base)))) w

          pub class_read : {b : Parser X I} {v : Vec RustMember Global} → r.deep ≡ a.deep
              → GivesMembers texts source r b v
              → GivesClass texts source a b (record {
                decorator = t.place;
                name = name;
                base = base;
                members =
                    v;
              })
          class_read {b = b} {v = v} same y =
              let make : Name → List Member → ClassDef = λ i ms. record {
                decorator = t.place;
                name = i;
                base =
                    option_name_of base;
                members = ms;
              } in record {
                class = make (name_of_token (lexeme texts.text n.token)) y.all;
                keeps = record {
                  deep = subst (λ i. b.deep ≡ deep_after i (wholes_of_members y.all)) same y.keeps.deep;
                  kept = λ e. ap (λ i. make i (map member_of v.items)) n.name
                      ∙ ap (make (name_of_token (lexeme texts.text n.token))) (y.keeps.kept e);
                };
                ready = y.ready;
                later = omega (arith, y.later, z.later, n.takes.later, x.later, f.takes.later);
                leads = λ first top o i. let c : ClassStart = record {
                  top = top;
                  first = first;
                  decorator = t.place;
                  name = name_of_token (lexeme texts.text n.token);
                  base = None;
                } in
                    named_class first top o (z.leads c refl o (y.leads (with_base c base) o i));
              }
