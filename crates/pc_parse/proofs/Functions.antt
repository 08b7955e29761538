-- Functions, as the machine reads them and as the tree holds them.
use Rattle.std.specs.declared.convert.AsStr.{Ghosts as TextOf}
use Rattle.std.specs.declared.iter.Iterator.{Ghosts as TokensOf}
use Rattle.std.proofs.Common.{◌≡◌, ℕ, Bool, true, false, List, [], ◌∷◌, ◌++◌, map, Option, Some, None, Result, Ok, Err}
use Rattle.std.proofs.Common.{refl, arith, ap, sym, ◌∙◌, subst}
use Rattle.std.specs.Prelude.{Vec, codes}
use Rattle.std.specs.declared.alloc.Global.{Global}
use Rattle.pc_source.specs.declared.fault.Fault.{Fault}
use Rattle.pc_source.specs.declared.place.Place.{Place}
use Rattle.pc_token.specs.declared.token.Token.{Token}
use Rattle.pc_token.specs.declared.token.TokenKind.{TokenKind}
use Rattle.pc_token.specs.declared.token.TokenKind.TheVariants as kind
use Rattle.pc_token.specs.declared.token.Operator.TheVariants as sign
use Rattle.pc_tree.specs.declared.tree.Ann.{Ann as RustAnn}
use Rattle.pc_tree.specs.declared.tree.Name.{Name as RustName}
use Rattle.pc_tree.specs.declared.tree.Param.{Param as RustParam}
use Rattle.pc_tree.specs.declared.tree.Stmt.{Stmt as RustStmt}
use Rattle.pc_tree.specs.Tree.{Name, Ann, Param, FuncDef, Stmts, option_ann_of, param_of, stmts_of_list}
use Rattle.pc_tree.specs.Depth.{optional_anns, wholes_of_params, wholes_of_stmts}
use Rattle.pc_grammar.specs.Grammar.{name_of_token}
use Rattle.pc_grammar.specs.Machine.{at, transition}
use Rattle.pc_grammar.specs.Machine.Kinds.{same_kind, a_form}
use Rattle.pc_grammar.specs.Machine.States.{FunctionOwner, of_module, of_class, DefStart, DefHead, Block, def_body}
use Rattle.pc_grammar.specs.Machine.States.{AnnotationPosition, of_return, State, fixed, def_due, self_read, param_due}
use Rattle.pc_grammar.specs.Machine.States.{params_read, Transition, stuck, on}
use Rattle.pc_grammar.specs.Machine.Finishing.{suite_of}
use Rattle.pc_grammar.specs.Machine.Lines.{params_of}
use Rattle.pc_grammar.specs.Fronts.Lines.{is_in_class}
use Rattle.pc_reader.specs.declared.reader.Reader.{Reader}
use Rattle.pc_reader.specs.Reading.{Blames, IsAhead, lexeme, Came, Onward, Takes, NeedsKind}
use Rattle.pc_reader.specs.Internal.Expressions.{GivesName}
use Rattle.pc_reader.specs.Internal.StatesAhead.{StandsBefore, LeadsTo}
use Rattle.pc_reader.specs.Internal.FixedWords.{TakesForm}
use Rattle.pc_reader.proofs.Steps.{step_to, not_seen}
use Rattle.pc_reader.proofs.Streams.{blame}
use Rattle.pc_reader.proofs.Stands.{stands_at, awaits, takes, reached_so, reaches_to}
use Rattle.pc_reader.proofs.Words.{form_read, kind_due, kind_read}
use Rattle.pc_parse.specs.declared.parser.Parser.{Parser}
use Rattle.pc_parse.specs.Internal.WholeTrees.{deep_after, KeepsTree}
use Rattle.pc_parse.specs.Internal.Signatures.{opens_ann, or_ann, GivesOpened, GivesParams, ReadsParamsFrom}
use Rattle.pc_parse.specs.Internal.Signatures.{GivesSignature, ReadsSignature, GivesFunction}
use Rattle.pc_parse.specs.Internal.Suites.{GivesSuite}
use Rattle.pc_parse.proofs.Depths.{noted_more, none_before}
use Rattle.pc_parse.proofs.Parameters.{kept_none}

-- the state after the opening parenthesis, before the first parameter
abbrev begun : Bool → DefStart → State
begun true d = fixed (a_form (codes "self")) [] (self_read d)
begun false d = param_due d []

-- a function with what was read of it
abbrev head_of : DefStart → List Param → Option Ann → DefHead
head_of d ps r = record { start = d; params = ps; returns = r }

returned : (d : DefStart) (ps : List Param) (r : Option Ann) (k : TokenKind)
    → or_ann (of_return d ps) (λ i. on (same_kind i (kind.Operator sign.Colon))
    (suite_of (def_body (head_of d ps None))) stuck) r k ≡ on (same_kind k (kind.Operator sign.Colon))
    (suite_of (def_body (head_of d ps r))) stuck
returned d ps None k = refl
returned d ps (Some a) k = refl

module _ {X I : Type 0} {text : X → List ℕ} where
  pub needs_open : (a : Reader X I) (owner : FunctionOwner) (d : DefStart)
      → NeedsKind text (kind.Operator sign.LeftParenthesis)
      (params_of owner d) a
  needs_open a (of_module top) d = kind_due (kind.Operator sign.LeftParenthesis) [] (param_due d [])
  needs_open a (of_class c ms) d = kind_due (kind.Operator sign.LeftParenthesis) (a_form (codes "self") ∷ [])
      (self_read d)

module _ {X I : Type 0} {texts : TextOf X} {source : TokensOf I (Result (Token X) Fault)} where
  opens : {a b : Reader X I} {t : Token X} → Takes texts source a b t
      → t.kind ≡ kind.Operator sign.LeftParenthesis → (owner : FunctionOwner) (d : DefStart)
      → Onward texts.text source.next_gives a b (at (params_of owner d)) (at (begun (is_in_class owner) d))
  opens h k (of_module top) d = kind_read (kind.Operator sign.LeftParenthesis) h k [] (param_due d [])
  opens h k (of_class c ms) d = kind_read (kind.Operator sign.LeftParenthesis) h k (a_form (codes "self") ∷ [])
      (self_read d)

  -- ---- signatures

  signature_so : (a p b : Parser X I) {t : Token X} (method : Bool) → Takes texts source a.reader p.reader t
      → t.kind ≡ kind.Operator sign.LeftParenthesis → p.deep ≡ a.deep → (r : Result (Vec RustParam Global) Fault)
      → ReadsParamsFrom texts source (begun method) p b r → ReadsSignature texts source method a b r
  signature_so a p b method h k same (Ok v) x = record {
    params = x.params;
    keeps = record {
      deep = subst (λ z. b.deep ≡ deep_after z (wholes_of_params x.params)) same x.keeps.deep;
      kept =
          x.keeps.kept;
    };
    ready = x.ready;
    later = omega (arith, x.later, h.later);
    leads = λ owner d m o y. opens h k owner d o
        (subst (λ z. Came texts.text source.next_gives p.reader (at (begun z d)) o) (sym m)
        (x.leads d o y));
  }
  signature_so a p b method h k same (Err e) x = blame (λ o w. λ owner d m. opens h k owner d o
      (subst (λ z. Came texts.text source.next_gives p.reader (at (begun z d)) o) (sym m) (w d))) x

  pub signature_of_method : (a p b : Parser X I) {t : Token X} → Takes texts source a.reader p.reader t
      → t.kind ≡ kind.Operator sign.LeftParenthesis → p.deep ≡ a.deep → (r : Result (Vec RustParam Global) Fault)
      → ReadsParamsFrom texts source (λ d. fixed (a_form (codes "self")) [] (self_read d)) p b r
      → ReadsSignature texts source true a b r
  signature_of_method a p b h k same r x = signature_so a p b true h k same r x

  pub signature_of_function : (a p b : Parser X I) {t : Token X} → Takes texts source a.reader p.reader t
      → t.kind ≡ kind.Operator sign.LeftParenthesis → p.deep ≡ a.deep → (r : Result (Vec RustParam Global) Fault)
      → ReadsParamsFrom texts source (λ d. param_due d []) p b r → ReadsSignature texts source false a b r
  signature_of_function a p b h k same r x = signature_so a p b false h k same r x

  -- ---- methods

  -- after `self`
  pub after_self : (a p b : Parser X I) {t : Token X} {u : Token X} {m : Reader X I}
      → TakesForm texts source (codes "self") a.reader m t → Takes texts source m p.reader u
      → u.kind ≡ kind.Operator sign.Comma → p.deep ≡ a.deep → (r : Result (Vec RustParam Global) Fault)
      → ReadsParamsFrom texts source (λ d. param_due d []) p b r
      → ReadsParamsFrom texts source (λ d. fixed (a_form (codes "self")) [] (self_read d)) a b r
  after_self a p b {u = u} f h k same (Ok v) x = record {
    params = x.params;
    keeps = record {
      deep = subst (λ z. b.deep ≡ deep_after z (wholes_of_params x.params)) same x.keeps.deep;
      kept =
          x.keeps.kept;
    };
    ready = x.ready;
    later = omega (arith, x.later, h.later, f.takes.later);
    leads = λ d o y. form_read f [] (self_read d) o (step_to (self_read d) (param_due d []) h
        (ap (transition (self_read d) (lexeme texts.text u)) k) o (x.leads d o y));
  }
  after_self a p b {u = u} f h k same (Err e) x = blame (λ o w. λ d. form_read f [] (self_read d) o
      (step_to (self_read d) (param_due d []) h (ap (transition (self_read d) (lexeme texts.text u)) k) o (w d))) x

  pub self_alone : {a b : Parser X I} {t : Token X} {u : Token X} {m : Reader X I} {v : Vec RustParam Global}
      → TakesForm texts source (codes "self") a.reader m t → Takes texts source m b.reader u
      → u.kind ≡ kind.Operator sign.RightParenthesis → b.deep ≡ a.deep
      → v.items ≡ [] → GivesParams texts source (λ d. fixed (a_form (codes "self")) [] (self_read d)) a b v
  self_alone {a = a} {b = b} {u = u} {v = v} f h k same e = record {
    params = [];
    keeps = subst (λ z. KeepsTree (λ (w : Vec RustParam Global). map param_of w.items) wholes_of_params a.deep z v [])
        (sym same) (kept_none param_of wholes_of_params refl {v = v} a.deep e);
    ready = h.ready;
    later = omega (arith, h.later, f.takes.later);
    leads = λ d o y. form_read f [] (self_read d) o (step_to (self_read d) (params_read d []) h
        (ap (transition (self_read d) (lexeme texts.text u)) k) o y);
  }

  pub self_unclosed : {a m : Reader X I} {t : Token X} {e : Fault} → TakesForm texts source (codes "self") a m t
      → IsAhead (kind.Operator sign.Comma) m.ahead ≡ false
      → Blames e (λ o. (st : State) → NeedsKind texts.text (kind.Operator sign.RightParenthesis) st m
      → Came texts.text source.next_gives m (at st) o) → Blames e (λ o. (d : DefStart)
      → Came texts.text source.next_gives a (at (fixed (a_form (codes "self")) [] (self_read d))) o)
  self_unclosed {m = m} f p w = blame (λ o u. λ d. form_read f [] (self_read d) o (u (self_read d) (record {
    unfinished = refl;
    stuck_at = λ t h e. ap (λ z. on z (param_due d []) (on (same_kind t.kind (kind.Operator sign.RightParenthesis))
        (params_read d []) stuck)) (not_seen (kind.Operator sign.Comma) p h) ∙ ap (λ z. on z (params_read d []) stuck)
        e;
  }))) w

  -- ---- functions

  pub signature_fails : (a : Parser X I) (method : Bool) {m : Reader X I} {name : RustName} {e : Fault}
      → GivesName texts source a.reader m name
      → Blames e (λ o. (owner : FunctionOwner) (d : DefStart) → is_in_class owner ≡ method
      → Came texts.text source.next_gives m (at (params_of owner d)) o)
      → Blames e (λ o. (owner : FunctionOwner) (first : Place) → is_in_class owner ≡ method
      → Came texts.text source.next_gives a.reader (at (def_due owner first)) o)
  signature_fails a method n w = blame (λ o u. λ owner first i. let d : DefStart =
      record { owner = owner; first = first; name = name_of_token (lexeme texts.text n.token) } in
      step_to (def_due owner first) (params_of owner d) n.takes
      (ap (transition (def_due owner first) (lexeme texts.text n.token))
      n.is) o (u owner d i)) w

  module _ (a : Parser X I) {p q : Parser X I} {name : RustName} {method : Bool} {v : Vec RustParam Global}
      (n : GivesName texts source a.reader p.reader name) (same : p.deep ≡ a.deep)
      (x : GivesSignature texts source method p q v) where
    to_params : (owner : FunctionOwner) (first : Place) → is_in_class owner ≡ method
        → Onward texts.text source.next_gives a.reader q.reader (at (def_due owner first))
        (at (params_read (record { owner = owner; first = first; name = name_of_token (lexeme texts.text n.token) })
        x.params))
    to_params owner first m o y = let d : DefStart = record {
      owner = owner;
      first = first;
      name =
          name_of_token (lexeme texts.text n.token);
    } in
        step_to (def_due owner first) (params_of owner d) n.takes
        (ap (transition (def_due owner first) (lexeme texts.text n.token)) n.is) o (x.leads owner d m o y)

    bare : (d : DefStart) → StandsBefore texts.text q.reader (params_read d x.params)
        (opens_ann sign.Arrow (of_return d x.params) (λ k. on (same_kind k (kind.Operator sign.Colon))
        (suite_of (def_body (head_of d x.params None))) stuck))
    bare d = stands_at (params_read d x.params) (opens_ann sign.Arrow (of_return d x.params)
        (λ k. on (same_kind k (kind.Operator sign.Colon)) (suite_of (def_body (head_of d x.params None))) stuck)) refl
        (λ t k. refl)

    pub returns_fail : {e : Fault} → Blames e (λ o. (st : State) (c : AnnotationPosition)
        (other : TokenKind → Transition)
        → StandsBefore texts.text q.reader st (opens_ann sign.Arrow c other)
        → Came texts.text source.next_gives q.reader (at st) o)
        → Blames e (λ o. (owner : FunctionOwner) (first : Place) → is_in_class owner ≡ method
        → Came texts.text source.next_gives a.reader (at (def_due owner first)) o)
    returns_fail w = blame (λ o u. λ owner first m. let d : DefStart =
        record { owner = owner; first = first; name = name_of_token (lexeme texts.text n.token) } in
        to_params owner first m o (u (params_read d x.params) (of_return d x.params)
        (λ k. on (same_kind k (kind.Operator sign.Colon)) (suite_of (def_body (head_of d x.params None))) stuck)
        (bare d))) w

    module _ {r : Parser X I} {ann : Option RustAnn} (z : GivesOpened texts source sign.Arrow q r ann) where
      to_colon : (d : DefStart) → LeadsTo texts.text source.next_gives q.reader r.reader (params_read d x.params)
          (λ k. on (same_kind k (kind.Operator sign.Colon)) (suite_of (def_body (head_of d x.params z.annotation)))
          stuck)
      to_colon d = reached_so (λ k. on (same_kind k (kind.Operator sign.Colon))
          (suite_of (def_body (head_of d x.params z.annotation))) stuck)
          (z.leads (params_read d x.params) (of_return d x.params)
          (λ k. on (same_kind k (kind.Operator sign.Colon)) (suite_of (def_body (head_of d x.params None))) stuck)
          (bare d)) (λ t h. returned d x.params z.annotation t.kind)

      pub colon_fails : {e : Fault} → Blames e (λ o. (st : State) → NeedsKind texts.text (kind.Operator sign.Colon) st
          r.reader → Came texts.text source.next_gives r.reader (at st) o)
          → Blames e (λ o. (owner : FunctionOwner) (first : Place) → is_in_class owner ≡ method
          → Came texts.text source.next_gives a.reader (at (def_due owner first)) o)
      colon_fails w = blame (λ o u. λ owner first m. let d : DefStart =
          record { owner = owner; first = first; name = name_of_token (lexeme texts.text n.token) } in let y =
          to_colon d in
          to_params owner first m o
          (y.leads o (u y.behind (awaits (kind.Operator sign.Colon)
          (suite_of (def_body (head_of d x.params z.annotation))) y.stands (λ t h. refl))))) w

      module _ (s : Parser X I) {t : Token X} (h : Takes texts source r.reader s.reader t)
          (k : t.kind ≡ kind.Operator sign.Colon) where
        to_suite : (owner : FunctionOwner) (first : Place) → is_in_class owner ≡ method
            → Onward texts.text source.next_gives a.reader s.reader (at (def_due owner first))
            (at
            (suite_of
            (def_body (head_of (record {
              owner = owner;
              first = first;
              name = name_of_token (lexeme texts.text n.token);
            })
            x.params z.annotation))))
        to_suite owner first m o y = let d : DefStart = record {
          owner = owner;
          first = first;
          name =
              name_of_token (lexeme texts.text n.token);
        } in
            to_params owner first m o (reaches_to (suite_of (def_body (head_of d x.params z.annotation))) (to_colon d) h
            (takes (kind.Operator sign.Colon) t.kind (suite_of (def_body (head_of d x.params z.annotation))) stuck
            k) o y)

        pub suite_fails : {e : Fault} → Blames e (λ o. (block : Block) → Came texts.text source.next_gives s.reader
            (at (suite_of block))
            o)
            → Blames e (λ o. (owner : FunctionOwner) (first : Place) → is_in_class owner ≡ method
            → Came texts.text source.next_gives a.reader (at (def_due owner first)) o)
        suite_fails w = blame (λ o u. λ owner first m. to_suite owner first m o
            (u
            (def_body
            (head_of (record { owner = owner; first = first; name = name_of_token (lexeme texts.text n.token) })
            x.params z.annotation)))) w

        pub function_read : {b : Parser X I} {body : Vec RustStmt Global} → s.deep ≡ r.deep
            → GivesSuite texts source s b body
            → GivesFunction texts source method a b (record {
              name = name;
              params = v;
              returns = ann;
              body =
                  body;
            })
        function_read {b = b} {body = body} sr y =
            let third : b.deep ≡ deep_after r.deep (wholes_of_stmts y.statements) =
            subst (λ i. b.deep ≡ deep_after i (wholes_of_stmts y.statements)) sr y.keeps.deep in
            let first_is : q.deep ≡ deep_after a.deep (wholes_of_params x.params) =
            subst (λ i. q.deep ≡ deep_after i (wholes_of_params x.params)) same x.keeps.deep in record {
              function = record {
                name = name_of_token (lexeme texts.text n.token);
                params = x.params;
                returns = z.annotation;
                body = y.statements;
              };
              keeps = record {
                deep = third ∙ ap (λ i. deep_after i (wholes_of_stmts y.statements))
                    (z.keeps.deep ∙ ap (λ i. deep_after i (optional_anns z.annotation)) first_is)
                    ∙ noted_more (deep_after a.deep (wholes_of_params x.params)) (optional_anns z.annotation)
                    (wholes_of_stmts y.statements)
                    ∙ noted_more a.deep (wholes_of_params x.params) (optional_anns z.annotation ++ wholes_of_stmts
                    y.statements);
                kept = λ e. let er : r.deep ≡ None = none_before r.deep (wholes_of_stmts y.statements)
                    (sym third ∙ e) in let eq : q.deep ≡ None = none_before q.deep (optional_anns z.annotation)
                    (sym z.keeps.deep ∙ er) in
                    let make : Name → List Param → Option Ann → Stmts → FuncDef = λ i ps j ss.
                    record { name = i; params = ps; returns = j; body = ss } in
                    ap (λ i. make i (map param_of v.items) (option_ann_of ann) (stmts_of_list body.items)) n.name
                    ∙ ap (λ i. make (name_of_token (lexeme texts.text n.token)) i (option_ann_of ann)
                    (stmts_of_list body.items))
                    (x.keeps.kept eq)
                    ∙ ap (λ i. make (name_of_token (lexeme texts.text n.token)) x.params i (stmts_of_list body.items))
                    (z.keeps.kept er)
                    ∙ ap (λ i. make (name_of_token (lexeme texts.text n.token)) x.params z.annotation i)
                    (y.keeps.kept e);
              };
              ready = y.ready;
              later = omega (arith, y.later, h.later, z.later, x.later, n.takes.later);
              leads = λ owner first m o i. to_suite owner first m o
                  (y.leads
                  (def_body
                  (head_of (record {
                    owner = owner;
                    first = first;
                    name = name_of_token (lexeme texts.text n.token);
                  })
                  x.params z.annotation)) o i);
            }
