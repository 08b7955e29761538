-- Parameters, as the machine reads them and as the tree holds them.
use Rattle.std.specs.declared.convert.AsStr.{Ghosts as TextOf}
use Rattle.std.specs.declared.iter.Iterator.{Ghosts as TokensOf}
use Rattle.std.proofs.Common.{◌≡◌, ℕ, ◌≤◌, false, List, [], ◌∷◌, ◌++◌, map, Option, Some, None, Result, refl, arith, ap}
use Rattle.std.proofs.Common.{sym, ◌∙◌, subst, append_assoc}
use Rattle.std.specs.Prelude.{Vec}
use Rattle.std.specs.declared.alloc.Global.{Global}
use Rattle.std.proofs.lemmas.List.{append-nil}
use Rattle.pc_source.specs.declared.fault.Fault.{Fault}
use Rattle.pc_token.specs.declared.token.Token.{Token}
use Rattle.pc_token.specs.declared.token.TokenKind.{TokenKind}
use Rattle.pc_token.specs.declared.token.TokenKind.TheVariants as kind
use Rattle.pc_token.specs.declared.token.Operator.{Operator as Opener}
use Rattle.pc_token.specs.declared.token.Operator.TheVariants as sign
use Rattle.pc_tree.specs.declared.tree.Ann.{Ann as RustAnn}
use Rattle.pc_tree.specs.declared.tree.Name.{Name as RustName}
use Rattle.pc_tree.specs.declared.tree.Literal.{Literal as RustLiteral}
use Rattle.pc_tree.specs.declared.tree.Param.{Param as RustParam}
use Rattle.pc_tree.specs.Tree.{Name, Ann, Literal, Param, no_anns, option_ann_of, option_literal_of, param_of}
use Rattle.pc_tree.specs.Depth.{Whole, optional_anns, wholes_of_params}
use Rattle.pc_grammar.specs.Grammar.{name_of_token}
use Rattle.pc_grammar.specs.Machine.{Reading, at, transition, stop, short}
use Rattle.pc_grammar.specs.Machine.States.{DefStart, AnnotationPosition, of_param, LiteralContext, default_of_param}
use Rattle.pc_grammar.specs.Machine.States.{ann_whole, State, part_due, param_due, param_named, params_read, Transition}
use Rattle.pc_grammar.specs.Machine.States.{stuck}
use Rattle.pc_grammar.specs.Machine.Finishing.{param, param_end, param_more}
use Rattle.pc_reader.specs.declared.reader.Reader.{Reader}
use Rattle.pc_reader.specs.Reading.{Blames, IsAhead, lexeme, Came, Onward, IsReady, left_in, Takes, NeedsKind}
use Rattle.pc_reader.specs.Internal.Expressions.{GivesName}
use Rattle.pc_reader.specs.Internal.StatesAhead.{StandsBefore, LeadsTo}
use Rattle.pc_reader.specs.Internal.Literals.{or_literal, GivesDefault}
use Rattle.pc_reader.proofs.Steps.{step_to, not_seen}
use Rattle.pc_reader.proofs.Streams.{blame}
use Rattle.pc_reader.proofs.Stands.{stands_at, stands_so, awaits, passes, takes, stays, reached_so, reached_on}
use Rattle.pc_reader.proofs.Stands.{reached_after, goes_to, reaches_to}
use Rattle.pc_parse.specs.declared.parser.Parser.{Parser}
use Rattle.pc_parse.specs.Internal.WholeTrees.{deep_after, KeepsTree, GivesAnn}
use Rattle.pc_parse.specs.Internal.Signatures.{opens_ann, or_ann, GivesOpened, GivesParam, GivesParams, ParamsSoFar}
use Rattle.pc_parse.proofs.Depths.{noted_more, none_before, noted_nothing}

-- ---- lists that are kept

map_push : {V T : Type 0} (of : V → T) (vs : List V) (v : V) → map of (vs ++ (v ∷ [])) ≡ map of vs ++ (of v ∷ [])
map_push of [] v = refl
map_push of (x ∷ vs) v = ap (λ z. of x ∷ z) (map_push of vs v)

-- one more at the end
pub kept_more : {V T : Type 0} (of : V → T) (w : T → List Whole) (ws : List T → List Whole)
    → ((ts : List T) (t : T) → ws (ts ++ (t ∷ [])) ≡ ws ts ++ w t)
    → {v v' : Vec V Global} {x : V} {ts : List T} {t : T} {before mid after : Option ℕ} → v'.items ≡ v.items ++ (x ∷ [])
    → KeepsTree (λ (u : Vec V Global). map of u.items) ws before mid v ts → KeepsTree of w mid after x t
    → KeepsTree (λ (u : Vec V Global). map of u.items) ws before after v' (ts ++ (t ∷ []))
kept_more of w ws split {v = v} {x = x} {ts = ts} {t = t} {before = before} {mid = mid} e j k = record {
  deep = k.deep ∙ ap (λ z. deep_after z (w t)) j.deep ∙ noted_more before (ws ts) (w t)
      ∙ ap (deep_after before) (sym (split ts t));
  kept = λ q. ap (map of) e ∙ map_push of v.items x ∙ ap (λ z. z ++ (of x ∷ []))
      (j.kept (none_before mid (w t) (sym k.deep ∙ q))) ∙ ap (λ z. ts ++ (z ∷ [])) (k.kept q);
}

-- none at all
pub kept_none : {V T : Type 0} (of : V → T) (ws : List T → List Whole) → ws [] ≡ []
    → {v : Vec V Global} (before : Option ℕ) → v.items ≡ [] → KeepsTree (λ (u : Vec V Global). map of u.items) ws before
    before v []
kept_none of ws n before e = record {
  deep = sym (ap (deep_after before) n ∙ noted_nothing before);
  kept =
      λ q. ap (map of) e;
}

pub params_split : (ps : List Param) (p : Param) → wholes_of_params (ps ++ (p ∷ [])) ≡ wholes_of_params ps
    ++ optional_anns p.annotation
params_split [] p = append-nil (optional_anns p.annotation)
params_split (q ∷ ps) p = ap (λ z. optional_anns q.annotation ++ z) (params_split ps p)
    ∙ sym (append_assoc (optional_anns q.annotation) (wholes_of_params ps) (optional_anns p.annotation))

-- ---- tokens after a name

ann_more : (d : DefStart) (ps : List Param) (n : Name) (a : Option Ann) (k : TokenKind)
    → or_ann (of_param d ps n) (param_more d ps n None) a k ≡ param_more d ps n a k
ann_more d ps n None k = refl
ann_more d ps n (Some a) k = refl

literal_end : (d : DefStart) (ps : List Param) (n : Name) (a : Option Ann) (l : Option Literal) (k : TokenKind)
    → or_literal (default_of_param d ps n a) (param_end d ps (param n a None)) l k ≡ param_end d ps (param n a l) k
literal_end d ps n a None k = refl
literal_end d ps n a (Some l) k = refl

module _ {X I : Type 0} (text : X → List ℕ) (steps : I → Option (Result (Token X) Fault) → I → Type 0) (a : Reader X I)
    (e : Fault) where
  -- the token that begins it could not be taken
  pub opener_fails : (opener : Opener) → Blames e (λ o. (r : Reading) → (a.ahead ≡ None → stop r ≡ short)
      → Came text steps a r o)
      → Blames e (λ o. (st : State) (c : AnnotationPosition) (other : TokenKind → Transition)
      → StandsBefore text a st (opens_ann opener c other) → Came text steps a (at st) o)
  opener_fails opener w = blame (λ o u. λ st c other x. u (at st) (λ q. x.unfinished)) w

  -- where neither a name nor the closing parenthesis stands
  pub no_parameter : Blames e (λ o. (st : State) → NeedsKind text kind.Name st a → Came text steps a (at st) o)
      → Blames e (λ o. (d : DefStart) (ps : List Param) → IsAhead (kind.Operator sign.RightParenthesis) a.ahead ≡ false
      → Came text steps a (at (param_due d ps)) o)
  no_parameter w = blame (λ o u. λ d ps p. u (param_due d ps) (record {
    unfinished = refl;
    stuck_at = λ t h e. passes _ (param_named d ps (name_of_token (lexeme text t))) _ e
        ∙ passes _ (params_read d ps) stuck (not_seen (kind.Operator sign.RightParenthesis) p h);
  })) w

module _ {X I : Type 0} {texts : TextOf X} {source : TokensOf I (Result (Token X) Fault)} where
  pub no_annotation : (opener : Opener) (a : Parser X I) → IsReady source.can_next source.remaining a.reader
      → IsAhead (kind.Operator opener) a.reader.ahead ≡ false → GivesOpened texts source opener a a None
  no_annotation opener a d e = record {
    annotation = None;
    keeps = record { deep = sym (noted_nothing a.deep); kept = λ q. refl };
    ready = d;
    later = omega arith;
    leads = λ st c other x. stays (stands_so other x (λ t h. passes _ (part_due no_anns [] (ann_whole c)) (other t.kind)
        (not_seen (kind.Operator opener) e h)));
  }

  pub annotation_fails : (opener : Opener) {a m : Reader X I} {t : Token X} {e : Fault}
      → Takes texts source a m t → t.kind ≡ kind.Operator opener
      → Blames e (λ o. (c : AnnotationPosition) → Came texts.text source.next_gives m
      (at (part_due no_anns [] (ann_whole c))) o)
      → Blames e (λ o. (st : State) (c : AnnotationPosition) (other : TokenKind → Transition)
      → StandsBefore texts.text a st (opens_ann opener c other) → Came texts.text source.next_gives a (at st) o)
  annotation_fails opener {t = t} h k w = blame (λ o u. λ st c other x. goes_to (part_due no_anns [] (ann_whole c)) x h
      (takes (kind.Operator opener) t.kind (part_due no_anns [] (ann_whole c)) (other t.kind) k) o (u c)) w

  pub annotation_read : (opener : Opener) {a m b : Parser X I} {t : Token X} {n : RustAnn}
      → Takes texts source a.reader m.reader t → t.kind ≡ kind.Operator opener → m.deep ≡ a.deep
      → GivesAnn texts source m b n
      → GivesOpened texts source opener a b (Some n)
  annotation_read opener {a = a} {b = b} {t = t} {n = n} h k same x = record {
    annotation = Some x.annotation;
    keeps = record {
      deep = subst (λ z. b.deep ≡ deep_after z (optional_anns (Some x.annotation))) same x.keeps.deep;
      kept = λ q. ap (λ z. Some z) (x.keeps.kept q);
    };
    ready = x.ready;
    later = omega (arith, x.later, h.later);
    leads = λ st c other s. record {
      behind = x.behind c;
      stands = record { unfinished = x.unfinished c; goes = x.goes c };
      leads = λ o y. goes_to (part_due no_anns [] (ann_whole c)) s h
          (takes (kind.Operator opener) t.kind (part_due no_anns [] (ann_whole c)) (other t.kind) k) o (x.leads c o y);
    };
  }

  -- ---- parameters

  module _ (a : Parser X I) {m : Reader X I} {name : RustName} (n : GivesName texts source a.reader m name) where
    named : (d : DefStart) (ps : List Param) → Onward texts.text source.next_gives a.reader m (at (param_due d ps))
        (at (param_named d ps (name_of_token (lexeme texts.text n.token))))
    named d ps = step_to (param_due d ps) (param_named d ps (name_of_token (lexeme texts.text n.token))) n.takes
        (ap (transition (param_due d ps) (lexeme texts.text n.token)) n.is)

    stands : (d : DefStart) (ps : List Param) → StandsBefore texts.text m
        (param_named d ps (name_of_token (lexeme texts.text n.token)))
        (opens_ann sign.Colon (of_param d ps (name_of_token (lexeme texts.text n.token)))
        (param_more d ps (name_of_token (lexeme texts.text n.token)) None))
    stands d ps = stands_at (param_named d ps (name_of_token (lexeme texts.text n.token)))
        (opens_ann sign.Colon (of_param d ps (name_of_token (lexeme texts.text n.token)))
        (param_more d ps (name_of_token (lexeme texts.text n.token)) None)) refl (λ t k. refl)

    pub its_annotation_fails : {e : Fault} → Blames e (λ o. (st : State) (c : AnnotationPosition)
        (other : TokenKind → Transition) → StandsBefore texts.text m st (opens_ann sign.Colon c other)
        → Came texts.text source.next_gives m (at st) o)
        → Blames e (λ o. (d : DefStart) (ps : List Param) → IsAhead (kind.Operator sign.RightParenthesis) a.reader.ahead
        ≡ false → Came texts.text source.next_gives a.reader (at (param_due d ps)) o)
    its_annotation_fails w = blame (λ o u. λ d ps p. named d ps o
        (u (param_named d ps (name_of_token (lexeme texts.text n.token)))
        (of_param d ps (name_of_token (lexeme texts.text n.token)))
        (param_more d ps (name_of_token (lexeme texts.text n.token)) None) (stands d ps))) w

    module _ {q b : Parser X I} {ann : Option RustAnn} (same : q.reader ≡ m)
        (x : GivesOpened texts source sign.Colon q b ann) where
      behind : (d : DefStart) (ps : List Param) → LeadsTo texts.text source.next_gives m b.reader
          (param_named d ps (name_of_token (lexeme texts.text n.token)))
          (param_more d ps (name_of_token (lexeme texts.text n.token))
          x.annotation)
      behind d ps = let N = name_of_token (lexeme texts.text n.token) in
          let r : LeadsTo texts.text source.next_gives q.reader b.reader (param_named d ps N)
          (or_ann (of_param d ps N) (param_more d ps N None) x.annotation) =
          x.leads (param_named d ps N) (of_param d ps N) (param_more d ps N None)
          (subst (λ z. StandsBefore texts.text z (param_named d ps N) (opens_ann sign.Colon (of_param d ps N)
          (param_more d ps N None))) (sym same) (stands d ps)) in
          reached_so (param_more d ps N x.annotation)
          (subst (λ z. LeadsTo texts.text source.next_gives z b.reader (param_named d ps N)
          (or_ann (of_param d ps N) (param_more d ps N None) x.annotation)) same r)
          (λ t h. ann_more d ps N x.annotation t.kind)

      pub its_default_fails : {e : Fault} → Blames e (λ o. (st : State) (c : LiteralContext)
          (other : TokenKind → Transition)
          → StandsBefore texts.text b.reader st (Rattle.pc_reader.specs.Internal.Literals.opens_literal c other)
          → Came texts.text source.next_gives b.reader (at st) o)
          → Blames e (λ o. (d : DefStart) (ps : List Param) → IsAhead (kind.Operator sign.RightParenthesis)
          a.reader.ahead ≡ false → Came texts.text source.next_gives a.reader (at (param_due d ps)) o)
      its_default_fails w = blame (λ o u. λ d ps p. let N = name_of_token (lexeme texts.text n.token) in let r =
          behind d ps in
          named d ps o (r.leads o (u r.behind (default_of_param d ps N x.annotation)
          (param_end d ps (param N x.annotation None)) r.stands))) w

      pub parameter_read : {f : Parser X I} {l : Option RustLiteral} → q.deep ≡ a.deep → f.deep ≡ b.deep
          → GivesDefault texts source b.reader f.reader l
          → GivesParam texts source a f (record { name = name; annotation = ann; default = l })
      parameter_read {f = f} {l = l} qa fb y = let N = name_of_token (lexeme texts.text n.token) in record {
        parameter = param N x.annotation (option_literal_of l);
        keeps = record {
          deep = fb ∙ x.keeps.deep ∙ ap (λ z. deep_after z (optional_anns x.annotation)) qa;
          kept = λ e. ap (λ z. param z (option_ann_of ann) (option_literal_of l)) n.name
              ∙ ap (λ z. param N z (option_literal_of l)) (x.keeps.kept (sym fb ∙ e));
        };
        ready = y.ready;
        later = omega (arith, y.later, x.later, n.takes.later, ap (left_in source.remaining) same);
        leads = λ d ps. let r = behind d ps in
            reached_after (named d ps)
            (reached_on r (reached_so (param_end d ps (param N x.annotation (option_literal_of l)))
            (y.leads r.behind (default_of_param d ps N x.annotation) (param_end d ps (param N x.annotation None))
            r.stands) (λ t h. literal_end d ps N x.annotation (option_literal_of l) t.kind)));
      }

  -- ---- lists of parameters

  pub no_params : (a : Parser X I) {v : Vec RustParam Global} → v.items ≡ [] → ParamsSoFar texts source a a v
  no_params a e = record { params = []; keeps = kept_none param_of wholes_of_params refl a.deep e; leads = λ d o y. y }

  module _ {a m : Parser X I} {v : Vec RustParam Global} (s : ParamsSoFar texts source a m v) where
    pub take_fails : {e : Fault} → Blames e (λ o. (r : Reading) → (m.reader.ahead ≡ None → stop r ≡ short)
        → Came texts.text source.next_gives m.reader r o) → Blames e
        (λ o. (d : DefStart) → Came texts.text source.next_gives a.reader (at (param_due d []))
        o)
    take_fails w = blame (λ o u. λ d. s.leads d o (u (at (param_due d s.params)) (λ q. refl))) w

    pub params_end : {b : Parser X I} {t : Token X} → Takes texts source m.reader b.reader t
        → t.kind ≡ kind.Operator sign.RightParenthesis → b.deep ≡ m.deep → left_in source.remaining m.reader ≤ left_in
        source.remaining a.reader
        → GivesParams texts source (λ d. param_due d []) a b v
    params_end {b = b} {t = t} h k same later = record {
      params = s.params;
      keeps = subst (λ z. KeepsTree (λ (w : Vec RustParam Global). map param_of w.items) wholes_of_params a.deep z v
          s.params) (sym same) s.keeps;
      ready = h.ready;
      later = omega (arith, h.later, later);
      leads = λ d o y. s.leads d o (step_to (param_due d s.params) (params_read d s.params) h
          (ap (transition (param_due d s.params) (lexeme texts.text t)) k) o y);
    }

    pub parameter_fails : {e : Fault} → IsAhead (kind.Operator sign.RightParenthesis) m.reader.ahead ≡ false
        → Blames e (λ o. (d : DefStart) (ps : List Param) → IsAhead (kind.Operator sign.RightParenthesis) m.reader.ahead
        ≡ false → Came texts.text source.next_gives m.reader (at (param_due d ps)) o)
        → Blames e (λ o. (d : DefStart) → Came texts.text source.next_gives a.reader (at (param_due d [])) o)
    parameter_fails p w = blame (λ o u. λ d. s.leads d o (u d s.params p)) w

    module _ {q : Parser X I} {r : RustParam} (x : GivesParam texts source m q r) where
      -- the tokens after a parameter
      pub comma_fails : {e : Fault} → Blames e (λ o. (z : Reading) → (q.reader.ahead ≡ None → stop z ≡ short)
          → Came texts.text source.next_gives q.reader z o) → Blames e (λ o. (d : DefStart)
          → Came texts.text source.next_gives a.reader (at (param_due d [])) o)
      comma_fails w = blame (λ o u. λ d. let y = x.leads d s.params in
          s.leads d o (y.leads o (u (at y.behind) (λ e. y.stands.unfinished)))) w

      pub close_fails : {e : Fault} → IsAhead (kind.Operator sign.Comma) q.reader.ahead ≡ false
          → Blames e (λ o. (st : State) → NeedsKind texts.text (kind.Operator sign.RightParenthesis) st q.reader
          → Came texts.text source.next_gives q.reader (at st) o) → Blames e (λ o. (d : DefStart)
          → Came texts.text source.next_gives a.reader (at (param_due d [])) o)
      close_fails p w = blame (λ o u. λ d. let y = x.leads d s.params in
          s.leads d o
          (y.leads o (u y.behind (awaits (kind.Operator sign.RightParenthesis)
          (params_read d (s.params ++ (x.parameter ∷ []))) y.stands
          (λ t h. passes _ (param_due d (s.params ++ (x.parameter ∷ []))) _
          (not_seen (kind.Operator sign.Comma) p h)))))) w

      module _ {v' : Vec RustParam Global} (push : v'.items ≡ v.items ++ (r ∷ [])) where
        kept : KeepsTree (λ (w : Vec RustParam Global). map param_of w.items) wholes_of_params a.deep q.deep v'
            (s.params ++ (x.parameter ∷ []))
        kept = kept_more param_of (λ p. optional_anns p.annotation) wholes_of_params params_split push s.keeps x.keeps

        pub more_params : {b : Parser X I} {t : Token X} → Takes texts source q.reader b.reader t
            → t.kind ≡ kind.Operator sign.Comma → b.deep ≡ q.deep → ParamsSoFar texts source a b v'
        more_params {t = t} h k same = record {
          params = s.params ++ (x.parameter ∷ []);
          keeps = subst (λ z. KeepsTree (λ (w : Vec RustParam Global). map param_of w.items) wholes_of_params a.deep z
              v' (s.params ++ (x.parameter ∷ []))) (sym same) kept;
          leads = λ d o y. s.leads d o (reaches_to (param_due d (s.params ++ (x.parameter ∷ []))) (x.leads d s.params) h
              (takes (kind.Operator sign.Comma) t.kind (param_due d (s.params ++ (x.parameter ∷ []))) _ k) o y);
        }

        pub last_param : {b : Parser X I} {t : Token X} → Takes texts source q.reader b.reader t
            → t.kind ≡ kind.Operator sign.RightParenthesis → IsAhead (kind.Operator sign.Comma) q.reader.ahead ≡ false
            → b.deep ≡ q.deep
            → left_in source.remaining m.reader ≤ left_in source.remaining a.reader
            → GivesParams texts source (λ d. param_due d []) a b
            v'
        last_param {t = t} h k p same later = record {
          params = s.params ++ (x.parameter ∷ []);
          keeps = subst (λ z. KeepsTree (λ (w : Vec RustParam Global). map param_of w.items) wholes_of_params a.deep z
              v' (s.params ++ (x.parameter ∷ []))) (sym same) kept;
          ready = h.ready;
          later = omega (arith, h.later, x.later, later);
          leads = λ d o y. s.leads d o (reaches_to (params_read d (s.params ++ (x.parameter ∷ []))) (x.leads d s.params)
              h
              (passes _ (param_due d (s.params ++ (x.parameter ∷ []))) _ (not_seen (kind.Operator sign.Comma) p h.here)
              ∙ takes (kind.Operator sign.RightParenthesis) t.kind (params_read d (s.params ++ (x.parameter ∷ [])))
              stuck k) o y);
        }
