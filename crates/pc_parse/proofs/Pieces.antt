-- Constants, items and the last line, as the machine reads them and as the tree holds them.
use Rattle.std.specs.declared.convert.AsStr.{Ghosts as TextOf}
use Rattle.std.specs.declared.iter.Iterator.{Ghosts as TokensOf}
use Rattle.std.proofs.Common.{◌≡◌, ℕ, ◌&&◌, Bool, true, false, List, [], ◌∷◌, ◌++◌, Option, Some, None, Result, refl}
use Rattle.std.proofs.Common.{arith, ap, sym, ◌∙◌, subst, append_assoc}
use Rattle.std.specs.Prelude.{Vec, codes, bytes_eq}
use Rattle.std.specs.declared.alloc.Global.{Global}
use Rattle.std.proofs.lemmas.List.{append-nil}
use Rattle.pc_source.specs.declared.fault.Fault.{Fault}
use Rattle.pc_source.specs.declared.place.Place.{Place}
use Rattle.pc_token.specs.declared.token.Token.{Token}
use Rattle.pc_token.specs.declared.token.TokenKind.{TokenKind}
use Rattle.pc_token.specs.declared.token.TokenKind.TheVariants as kind
use Rattle.pc_token.specs.declared.token.Keyword.TheVariants as word
use Rattle.pc_token.specs.declared.token.Operator.TheVariants as sign
use Rattle.pc_tree.specs.declared.tree.Ann.{Ann as RustAnn}
use Rattle.pc_tree.specs.declared.tree.Name.{Name as RustName}
use Rattle.pc_tree.specs.declared.tree.Item.{Item as RustItem}
use Rattle.pc_tree.specs.declared.tree.ItemKind.TheVariants as rust
use Rattle.pc_tree.specs.declared.tree.ClassDef.{ClassDef as RustClassDef}
use Rattle.pc_tree.specs.declared.tree.FuncDef.{FuncDef as RustFuncDef}
use Rattle.pc_tree.specs.declared.tree.Constant.{Constant as RustConstant}
use Rattle.pc_tree.specs.Tree.{Name, Ann, Expr, Constant, Item, constant_item, class_item, def_item, no_anns, name_of}
use Rattle.pc_tree.specs.Tree.{option_ann_of, expr_of, item_of}
use Rattle.pc_tree.specs.Depth.{optional_anns, whole_expr, wholes_of_item, wholes_of_items}
use Rattle.pc_grammar.specs.Grammar.{name_of_token}
use Rattle.pc_grammar.specs.Machine.{at, transition, reads}
use Rattle.pc_grammar.specs.Machine.Kinds.{same_kind, a_kind}
use Rattle.pc_grammar.specs.Machine.States.{after_headers, Top, of_module, AnnotationPosition, of_constant}
use Rattle.pc_grammar.specs.Machine.States.{ExpressionPosition, in_constant, whole, ann_whole, part_due, State, fixed}
use Rattle.pc_grammar.specs.Machine.States.{items, importing, item_named, decorator_due, def_due, operand, have, ended}
use Rattle.pc_grammar.specs.Machine.States.{Transition, stuck, on}
use Rattle.pc_grammar.specs.Machine.Finishing.{add_item, at_line_end}
use Rattle.pc_grammar.specs.Machine.Lines.{due, module_of as module_over}
use Rattle.pc_grammar.specs.Fronts.Lines.{is_in_class}
use Rattle.pc_reader.specs.declared.operand.Operand.{Operand}
use Rattle.pc_reader.specs.declared.reader.Reader.{Reader}
use Rattle.pc_reader.specs.Reading.{Blames, IsAhead, lexeme, Came, Onward, left_in, Takes, NeedsKind}
use Rattle.pc_reader.specs.Internal.Expressions.{GivesName}
use Rattle.pc_reader.specs.Internal.StatesAhead.{StandsBefore, LeadsTo}
use Rattle.pc_reader.specs.Internal.FixedWords.{GivesFixed}
use Rattle.pc_reader.proofs.Steps.{step_to, alike, not_seen, kind_seen}
use Rattle.pc_reader.proofs.Streams.{blame}
use Rattle.pc_reader.proofs.Stands.{awaits, passes, takes, reached_so, reaches_to}
use Rattle.pc_parse.specs.declared.parser.Parser.{Parser}
use Rattle.pc_parse.specs.declared.optional_imports.OptionalImports.{OptionalImports}
use Rattle.pc_parse.specs.Internal.WholeTrees.{deep_after, GivesWhole, ending_of}
use Rattle.pc_parse.specs.Internal.Signatures.{opens_ann, or_ann, GivesOpened, GivesFunction}
use Rattle.pc_parse.specs.Internal.Classes.{GivesClass}
use Rattle.pc_parse.specs.Internal.Modules.{IsNoLastLine, top_of, GivesConstant, GivesItem, GivesLast, ItemsSoFar}
use Rattle.pc_parse.proofs.Depths.{noted_more, none_before, kept_tree}
use Rattle.pc_parse.proofs.Parameters.{kept_more}

-- where `=` begins the value of a constant
abbrev begins_value : Name → Option Ann → Top → TokenKind → Transition
begins_value n a top k = on (same_kind k (kind.Operator sign.Equal)) (operand (whole (in_constant n a top))) stuck

valued : (n : Name) (top : Top) (a : Option Ann) (k : TokenKind) → or_ann (of_constant n top) (begins_value n None top)
    a k ≡ begins_value n a top k
valued n top None k = refl
valued n top (Some a) k = refl

-- only the end of a line ends a constant
line_end_is : (s : State) (k : TokenKind) → at_line_end s (ending_of k) ≡ on (same_kind k kind.Newline) s stuck
line_end_is s kind.Newline = refl
line_end_is s (kind.Keyword word.In) = refl
line_end_is s (kind.Operator sign.Plus) = refl
line_end_is s _ = refl

items_split : (is : List Item) (i : Item) → wholes_of_items (is ++ (i ∷ [])) ≡ wholes_of_items is ++ wholes_of_item i
items_split [] i = append-nil (wholes_of_item i)
items_split (x ∷ is) i = ap (λ z. wholes_of_item x ++ z) (items_split is i)
    ∙ sym (append_assoc (wholes_of_item x) (wholes_of_items is) (wholes_of_item i))

-- both of two
both_left : (b c : Bool) → (b && c) ≡ true → b ≡ true
both_left true c e = refl
both_left false c e = e

both_right : (b c : Bool) → (b && c) ≡ true → c ≡ true
both_right true c e = e
both_right false c e = cc

-- whether the last line goes on after this name
abbrev last_line_ahead : {X I : Type 0} → Reader X I → Name → Bool
last_line_ahead a n = IsAhead (kind.Operator sign.LeftParenthesis) a.ahead && bytes_eq n.text (codes "main")

pub no_last_line : {X I : Type 0} (a : Reader X I) (n : Name)
    → (IsAhead (kind.Operator sign.LeftParenthesis) a.ahead && bytes_eq n.text (codes "main")) ≡ false
    → IsNoLastLine a n
no_last_line {X = X} a n e t h = sym (ap (λ (v : Option (Token X)). IsAhead (kind.Operator sign.LeftParenthesis) v
    && bytes_eq n.text (codes "main")) h) ∙ e

-- with no header
no_header : (b : Bool) (s : State) → on (b && false) s stuck ≡ stuck
no_header true s = refl
no_header false s = refl

-- where no item begins
pub no_item : {X I : Type 0} (text : X → List ℕ) (a : Reader X I) (top : Top) → IsAhead (kind.Operator sign.At) a.ahead
    ≡ false → IsAhead (kind.Keyword word.Def) a.ahead ≡ false → NeedsKind text kind.Name (items after_headers top) a
no_item text a top x y = record {
  unfinished = refl;
  stuck_at = λ t h e. passes _ (item_named (name_of_token (lexeme text t)) top) _ e
      ∙ passes _ (decorator_due t.place top) _ (not_seen (kind.Operator sign.At) x h)
      ∙ passes _ (def_due (of_module top) t.place) _ (not_seen (kind.Keyword word.Def) y h)
      ∙ no_header (same_kind t.kind (kind.Keyword word.From)) (importing after_headers top);
}

module _ {X I : Type 0} (text : X → List ℕ) (steps : I → Option (Result (Token X) Fault) → I → Type 0) (a : Reader X I)
    (n : Name) (e : (IsAhead (kind.Operator sign.LeftParenthesis) a.ahead && bytes_eq n.text (codes "main"))
    ≡ true) where
  -- the last line, from after its name
  pub last_line : (top : Top) → Onward text steps a a (at (item_named n top))
      (at (fixed (a_kind (kind.Operator sign.LeftParenthesis)) (a_kind (kind.Operator sign.RightParenthesis)
      ∷ a_kind kind.Newline ∷ a_kind kind.End ∷ []) (ended (module_over top n.place))))
  last_line top = alike text steps a (item_named n top) (fixed (a_kind (kind.Operator sign.LeftParenthesis))
      (a_kind (kind.Operator sign.RightParenthesis) ∷ a_kind kind.Newline ∷ a_kind kind.End ∷ [])
      (ended (module_over top n.place))) refl refl
      (λ t h. let k = kind_seen (kind.Operator sign.LeftParenthesis)
      (both_left (IsAhead (kind.Operator sign.LeftParenthesis) a.ahead) (bytes_eq n.text (codes "main")) e) h in
      let q = both_right (IsAhead (kind.Operator sign.LeftParenthesis) a.ahead) (bytes_eq n.text (codes "main")) e in
      ap (transition (item_named n top) (lexeme text t)) k
      ∙ ap (λ z. on z (fixed (a_kind (kind.Operator sign.RightParenthesis)) (a_kind kind.Newline ∷ a_kind kind.End ∷ [])
      (ended (module_over top n.place))) stuck) q
      ∙ sym (ap (transition (fixed (a_kind (kind.Operator sign.LeftParenthesis))
      (a_kind (kind.Operator sign.RightParenthesis) ∷ a_kind kind.Newline ∷ a_kind kind.End ∷ [])
      (ended (module_over top n.place))) (lexeme text t)) k))

  pub last_line_fails : (f : Fault) → Blames f (λ o. (next : State)
      → Came text steps a
      (at (due (a_kind (kind.Operator sign.LeftParenthesis) ∷ a_kind (kind.Operator sign.RightParenthesis)
      ∷ a_kind kind.Newline ∷ a_kind kind.End ∷ []) next)) o)
      → Blames f (λ o. (top : Top) → Came text steps a (at (item_named n top)) o)
  last_line_fails f w = blame (λ o u. λ top. last_line top o (u (ended (module_over top n.place)))) w

module _ {X I : Type 0} {text : X → List ℕ} where
  -- a name with which no last line begins
  begun : (a : Reader X I) (n : Name) (top : Top) → IsNoLastLine a n
      → StandsBefore text a (item_named n top) (opens_ann sign.Colon (of_constant n top) (begins_value n None top))
  begun a n top unlike = record {
    unfinished = refl;
    goes = λ t h. ap (λ z. on (same_kind t.kind (kind.Operator sign.Colon))
        (part_due no_anns [] (ann_whole (of_constant n top))) (on (same_kind t.kind (kind.Operator sign.Equal))
        (operand (whole (in_constant n None top)))
        (on z (fixed (a_kind (kind.Operator sign.RightParenthesis)) (a_kind kind.Newline ∷ a_kind kind.End ∷ [])
        (ended (module_over top n.place))) stuck))) (unlike t h);
  }

pub constant_annotation_fails : {X I : Type 0} (text : X → List ℕ) (steps : I → Option (Result (Token X) Fault) → I
    → Type 0) (a : Reader X I) (n : Name) → IsNoLastLine a n → (e : Fault)
    → Blames e (λ o. (st : State) (c : AnnotationPosition) (other : TokenKind → Transition)
    → StandsBefore text a st (opens_ann sign.Colon c other) → Came text steps a (at st) o)
    → Blames e (λ o. (top : Top) → Came text steps a (at (item_named n top)) o)
constant_annotation_fails text steps a n unlike e w = blame (λ o u. λ top. u (item_named n top) (of_constant n top)
    (begins_value n None top) (begun a n top unlike)) w

module _ {X I : Type 0} {texts : TextOf X} {source : TokensOf I (Result (Token X) Fault)} where
  -- ---- constants

  module _ (a : Parser X I) (n : Name) (unlike : IsNoLastLine a.reader n) where
    module _ {q : Parser X I} {ann : Option RustAnn} (x : GivesOpened texts source sign.Colon a q ann) where
      valued_at : (top : Top) → LeadsTo texts.text source.next_gives a.reader q.reader (item_named n top)
          (begins_value n x.annotation top)
      valued_at top = reached_so (begins_value n x.annotation top)
          (x.leads (item_named n top) (of_constant n top) (begins_value n None top) (begun a.reader n top unlike))
          (λ t h. valued n top x.annotation t.kind)

      pub value_missing : {e : Fault} → Blames e (λ o. (st : State) → NeedsKind texts.text (kind.Operator sign.Equal) st
          q.reader → Came texts.text source.next_gives q.reader (at st) o) → Blames e
          (λ o. (top : Top) → Came texts.text source.next_gives a.reader (at (item_named n top)) o)
      value_missing w = blame (λ o u. λ top. let r = valued_at top in
          r.leads o (u r.behind (awaits (kind.Operator sign.Equal) (operand (whole (in_constant n x.annotation top)))
          r.stands (λ t h. refl)))) w

      module _ {p : Reader X I} {t : Token X} (h : Takes texts source q.reader p t)
          (k : t.kind ≡ kind.Operator sign.Equal) where
        to_value : (top : Top) → Onward texts.text source.next_gives a.reader p (at (item_named n top))
            (at (operand (whole (in_constant n x.annotation top))))
        to_value top = reaches_to (operand (whole (in_constant n x.annotation top))) (valued_at top) h
            (takes (kind.Operator sign.Equal) t.kind (operand (whole (in_constant n x.annotation top))) stuck k)

        pub value_fails : {e : Fault} → Blames e (λ o. (c : ExpressionPosition)
            → Came texts.text source.next_gives p (at (operand (whole c))) o) → Blames e
            (λ o. (top : Top) → Came texts.text source.next_gives a.reader (at (item_named n top)) o)
        value_fails w = blame (λ o u. λ top. to_value top o (u (in_constant n x.annotation top))) w

        module _ {w b : Parser X I} {o : Operand} (same : w.reader ≡ p) (y : GivesWhole texts source w b o) where
          to_end : (top : Top) → Onward texts.text source.next_gives a.reader b.reader (at (item_named n top))
              (at (have o.level y.part (whole (in_constant n x.annotation top))))
          to_end top r z = to_value top r
              (subst (λ i. Came texts.text source.next_gives i (at (operand (whole (in_constant n x.annotation top))))
              r) same
              (y.leads (in_constant n x.annotation top) r z))

          pub line_unended : {e : Fault} → Blames e (λ r. (st : State) → NeedsKind texts.text kind.Newline st b.reader
              → Came texts.text source.next_gives b.reader (at st) r) → Blames e (λ r. (top : Top)
              → Came texts.text source.next_gives a.reader (at (item_named n top)) r)
          line_unended w = blame (λ r u. λ top. let next = items after_headers
              (add_item top (constant_item n.place (record {
                name = n;
                annotation = x.annotation;
                value =
                    y.part.tree;
              }))) in
              to_end top r (u (have o.level y.part (whole (in_constant n x.annotation top))) (record {
                unfinished = refl;
                stuck_at = λ v g e. y.goes (in_constant n x.annotation top) v g ∙ line_end_is next v.kind
                    ∙ ap (λ z. on z next stuck) e;
              }))) w

          pub constant_read : {s : Parser X I} {v : Token X} (name : RustName) → n ≡ name_of name → w.deep ≡ q.deep
              → s.deep ≡ b.deep → Takes texts source b.reader s.reader v → v.kind ≡ kind.Newline
              → GivesConstant texts source a s n (record { name = name; annotation = ann; value = o.expr })
          constant_read {s = s} {v = v} name is wq sb j i =
              let late : s.deep ≡ deep_after q.deep (whole_expr y.part.tree ∷ []) = sb ∙ y.deep
              ∙ ap (λ z. deep_after z (whole_expr y.part.tree ∷ [])) wq in
              let make : Name → Option Ann → Expr → Constant = λ d z u.
              record { name = d; annotation = z; value = u } in record {
                constant = record { name = n; annotation = x.annotation; value = y.part.tree };
                keeps = record {
                  deep = late ∙ ap (λ z. deep_after z (whole_expr y.part.tree ∷ [])) x.keeps.deep
                      ∙ noted_more a.deep (optional_anns x.annotation) (whole_expr y.part.tree ∷ []);
                  kept = λ e. ap (λ z. make z (option_ann_of ann) (expr_of o.expr)) (sym is)
                      ∙ ap (λ z. make n z (expr_of o.expr)) (x.keeps.kept
                      (none_before q.deep (whole_expr y.part.tree ∷ []) (sym late ∙ e)))
                      ∙ ap (make n x.annotation) (kept_tree o y.part q.deep y.keeps (sym late ∙ e));
                };
                ready = j.ready;
                later = omega (arith, j.later, y.later, h.later, x.later, ap (left_in source.remaining) same);
                leads = λ top r z. let next = items after_headers (add_item top
                    (constant_item n.place (record { name = n; annotation = x.annotation; value = y.part.tree }))) in
                    to_end top r (step_to (have o.level y.part (whole (in_constant n x.annotation top))) next j
                    (y.goes (in_constant n x.annotation top) v j.here ∙ line_end_is next v.kind
                    ∙ takes kind.Newline v.kind next stuck i) r z);
              }

  -- ---- items

  pub class_as_item : (a p : Parser X I) {b : Parser X I} {t : Token X} {c : RustClassDef}
      → Takes texts source a.reader p.reader t → t.kind ≡ kind.Operator sign.At → p.deep ≡ a.deep
      → GivesClass texts source p b c
      → GivesItem texts source a b (record { first = t.place; kind = rust.Class c })
  class_as_item a p {b = b} {t = t} h k same x = record {
    item = class_item t.place x.class;
    keeps = record {
      deep = subst (λ z. b.deep ≡ deep_after z (wholes_of_item (class_item t.place x.class))) same
          x.keeps.deep;
      kept = λ e. ap (class_item t.place) (x.keeps.kept e);
    };
    ready = x.ready;
    later = omega (arith, x.later, h.later);
    leads = λ top o y. step_to (items after_headers top) (decorator_due t.place top) h
        (ap (transition (items after_headers top) (lexeme texts.text t)) k) o (x.leads t.place top o y);
  }

  pub class_fails : {a m : Reader X I} {t : Token X} {e : Fault} → Takes texts source a m t
      → t.kind ≡ kind.Operator sign.At → Blames e (λ o. (first : Place) (top : Top)
      → Came texts.text source.next_gives m (at (decorator_due first top)) o)
      → Blames e (λ o. (top : Top) → Came texts.text source.next_gives a (at (items after_headers top)) o)
  class_fails {t = t} h k w = blame (λ o u. λ top. step_to (items after_headers top) (decorator_due t.place top) h
      (ap (transition (items after_headers top) (lexeme texts.text t)) k) o (u t.place top)) w

  pub function_as_item : (a p : Parser X I) {b : Parser X I} {t : Token X} {f : RustFuncDef}
      → Takes texts source a.reader p.reader t → t.kind ≡ kind.Keyword word.Def → p.deep ≡ a.deep
      → GivesFunction texts source false p b f
      → GivesItem texts source a b (record { first = t.place; kind = rust.Def f })
  function_as_item a p {b = b} {t = t} h k same x = record {
    item = def_item t.place x.function;
    keeps = record {
      deep = subst (λ z. b.deep ≡ deep_after z (wholes_of_item (def_item t.place x.function))) same
          x.keeps.deep;
      kept = λ e. ap (def_item t.place) (x.keeps.kept e);
    };
    ready = x.ready;
    later = omega (arith, x.later, h.later);
    leads = λ top o y. step_to (items after_headers top) (def_due (of_module top) t.place) h
        (ap (transition (items after_headers top) (lexeme texts.text t)) k) o
        (x.leads (of_module top) t.place refl o y);
  }

  pub function_fails : {a m : Reader X I} {t : Token X} {e : Fault} → Takes texts source a m t
      → t.kind ≡ kind.Keyword word.Def
      → Blames e (λ o. (owner : Rattle.pc_grammar.specs.Machine.States.FunctionOwner) (first : Place)
      → is_in_class owner ≡ false
      → Came texts.text source.next_gives m (at (def_due owner first)) o) → Blames e
      (λ o. (top : Top) → Came texts.text source.next_gives a (at (items after_headers top)) o)
  function_fails {t = t} h k w = blame (λ o u. λ top. step_to (items after_headers top)
      (def_due (of_module top) t.place) h (ap (transition (items after_headers top) (lexeme texts.text t)) k) o
      (u (of_module top) t.place refl)) w

  module _ (a : Parser X I) {m : Reader X I} {name : RustName} (n : GivesName texts source a.reader m name) where
    named : (top : Top) → Onward texts.text source.next_gives a.reader m (at (items after_headers top))
        (at (item_named (name_of name) top))
    named top o y = step_to (items after_headers top) (item_named (name_of_token (lexeme texts.text n.token)) top)
        n.takes
        (ap (transition (items after_headers top) (lexeme texts.text n.token)) n.is) o
        (subst (λ z. Came texts.text source.next_gives m (at (item_named z top)) o) n.name y)

    pub constant_fails : {e : Fault} → Blames e (λ o. (top : Top)
        → Came texts.text source.next_gives m (at (item_named (name_of name) top)) o)
        → Blames e (λ o. (top : Top) → Came texts.text source.next_gives a.reader (at (items after_headers top)) o)
    constant_fails w = blame (λ o u. λ top. named top o (u top)) w

    pub last_read : {b : Parser X I} → (IsAhead (kind.Operator sign.LeftParenthesis) m.ahead
        && bytes_eq (name_of name).text (codes "main")) ≡ true → b.deep ≡ a.deep
        → GivesFixed texts source (a_kind (kind.Operator sign.LeftParenthesis)
        ∷ a_kind (kind.Operator sign.RightParenthesis) ∷ a_kind kind.Newline ∷ a_kind kind.End ∷ []) m b.reader
        → GivesLast texts source a b name.place
    last_read e same x = record {
      same = same;
      ready = x.ready;
      leads = λ top o y. named top o (last_line texts.text source.next_gives m (name_of name) e top o
          (x.leads (ended (module_over top name.place)) o y));
    }

    pub constant_as_item : (p : Parser X I) {b : Parser X I} {v : RustConstant} → p.reader ≡ m → p.deep ≡ a.deep
        → GivesConstant texts source p b (name_of name) v → GivesItem texts source a b
        (record { first = name.place; kind = rust.Constant v })
    constant_as_item p {b = b} pm same x = record {
      item = constant_item name.place x.constant;
      keeps = record {
        deep = subst (λ z. b.deep ≡ deep_after z (wholes_of_item (constant_item name.place x.constant)))
            same x.keeps.deep;
        kept = λ e. ap (constant_item name.place) (x.keeps.kept e);
      };
      ready = x.ready;
      later = omega (arith, x.later, n.takes.later, ap (left_in source.remaining) pm);
      leads = λ top o y. named top o
          (subst (λ z. Came texts.text source.next_gives z (at (item_named (name_of name) top)) o) pm
          (x.leads top o y));
    }

  -- ---- lists of items

  pub more_items : {a m b : Parser X I} {h : OptionalImports} {v v' : Vec RustItem Global} {i : RustItem}
      → ItemsSoFar texts source a m h v → GivesItem texts source m b i → v'.items ≡ v.items ++ (i ∷ [])
      → ItemsSoFar texts source a b h v'
  more_items {h = h} s x push = record {
    all = s.all ++ (x.item ∷ []);
    keeps = kept_more item_of wholes_of_item wholes_of_items items_split push s.keeps x.keeps;
    leads = λ o y. s.leads o (x.leads (top_of h s.all) o y);
  }
