-- Whole expressions, and lines with their ends.
use Rattle.std.specs.declared.convert.AsStr.{Ghosts as TextOf}
use Rattle.std.specs.declared.iter.Iterator.{Ghosts as TokensOf}
use Rattle.std.proofs.Common.{◌≡◌, ◌≤◌, ◌<◌, ◌⊎◌, inl, inr, true, false, [], ◌∷◌, Option, Some, None, Result}
use Rattle.std.proofs.Common.{Ok, Err, refl, arith, ap, sym, ◌∙◌, subst}
use Rattle.std.specs.Prelude.{Vec}
use Rattle.std.specs.declared.alloc.Global.{Global}
use Rattle.pc_source.specs.declared.fault.Fault.{Fault}
use Rattle.pc_source.specs.declared.place.Place.{Place}
use Rattle.pc_token.specs.declared.token.Token.{Token}
use Rattle.pc_token.specs.declared.token.TokenKind.{TokenKind}
use Rattle.pc_token.specs.declared.token.TokenKind.TheVariants as kind
use Rattle.pc_token.specs.declared.token.Keyword.TheVariants as word
use Rattle.pc_tree.specs.declared.tree.Stmt.{Stmt as RustStmt}
use Rattle.pc_tree.specs.Tree.{Stmt, Stmts, no_stmts, Branches, stmt_of}
use Rattle.pc_tree.specs.Depth.{whole_expr, wholes_of_stmt, wholes_of_stmts}
use Rattle.pc_grammar.specs.Machine.{at}
use Rattle.pc_grammar.specs.Machine.Kinds.{Follow, same_kind, follow_of, lead_of, leads_out}
use Rattle.pc_grammar.specs.Machine.States.{Block, Site, else_body, whole, State, stmts, after_branch, operand, have}
use Rattle.pc_grammar.specs.Machine.Expressions.{needed_level}
use Rattle.pc_grammar.specs.Machine.Finishing.{add_stmt, suite_of, nested_in}
use Rattle.pc_reader.specs.declared.operand.Operand.{Operand}
use Rattle.pc_reader.specs.declared.reader.Reader.{Reader}
use Rattle.pc_reader.specs.Internal.Expressions.{GivesOperand, NextIs, Over, Undotted}
use Rattle.pc_reader.specs.Reading.{kind_ahead, place_ahead, IsAhead, Onward, IsReady, lexeme, left_in}
use Rattle.pc_reader.proofs.Steps.{not_seen}
use Rattle.pc_reader.proofs.Streams.{blame}
use Rattle.pc_parse.specs.declared.parser.Parser.{Parser}
use Rattle.pc_parse.specs.Internal.WholeTrees.{deep_after, KeepsTree, GivesWhole}
use Rattle.pc_parse.specs.Internal.Suites.{LineEnds, ReadsLineEnd, ReadsFrom, ReadsSuite, ReadsElse}
use Rattle.pc_parse.proofs.Depths.{note_of}
use Rattle.pc_parse.proofs.Statements.{whole_turn, out_dedent}

next : {X : Type 0} (P : Follow → Type 0) (a : Option (Token X)) (t : Token X) → NextIs P a → a ≡ Some t
    → P (follow_of t.kind)
next P a t h e = subst (λ z. NextIs P z) e h

-- the kind that was seen ahead
pub ahead_kind : {X : Type 0} {a : Option (Token X)} {k : TokenKind} {t : Token X} → kind_ahead a ≡ Some k → a ≡ Some t
    → k ≡ t.kind
ahead_kind {k = k} {t = t} h e = some (sym h ∙ ap kind_ahead e)
  where
    some : Some k ≡ Some t.kind → k ≡ t.kind
    some q = cc

module _ {X I : Type 0} (texts : TextOf X) (source : TokensOf I (Result (Token X) Fault)) where
  -- an expression that was read and noted
  pub whole_given : (a b : Parser X I) (r : Reader X I) (o : Operand) → b.reader ≡ r
      → b.deep ≡ deep_after a.deep (record { start = o.first; depth = o.depth } ∷ [])
      → GivesOperand texts source (λ s. needed_level s ≡ 0) 0 a.reader r o → NextIs (Over 0 o.level) r.ahead
      → NextIs (Undotted o.level) r.ahead → GivesWhole texts source a b o
  whole_given a b r o e d g v u = record {
    part = g.part;
    keeps = g.keeps;
    begins = g.begins;
    deep = d ∙ note_of a.deep o.first o.depth _ (whole_expr g.part.tree) g.keeps.first g.keeps.depth refl;
    ready = subst (λ z. IsReady source.can_next source.remaining z) (sym e) g.ready;
    later = subst (λ z. left_in source.remaining z < left_in source.remaining a.reader) (sym e) g.later;
    leads = λ c. subst (λ z. Onward texts.text source.next_gives a.reader z (at (operand (whole c)))
        (at (have o.level g.part (whole c))))
        (sym e) (g.leads (whole c) refl);
    goes = λ c t h. let i = ap (λ (z : Reader X I). z.ahead) (sym e)
        ∙ h in whole_turn o.level g.part c (lexeme texts.text t)
        (follow_of t.kind) (next (Over 0 o.level) r.ahead t v i) (next (Undotted o.level) r.ahead t u i);
  }

  -- a line whose end was read
  pub line_ended : (start st : Stmts → Block → State) (fits : Stmts → Type 0) (a b c : Parser X I) (s : RustStmt)
      (r : Result RustStmt Fault) (statement : Stmt)
      → KeepsTree stmt_of wholes_of_stmt a.deep b.deep s statement → left_in source.remaining b.reader ≤ left_in
      source.remaining a.reader
      → ((done : Stmts) (block : Block) → fits done → Onward texts.text source.next_gives a.reader b.reader
      (at (start done block))
      (at (st done block)))
      → ((done : Stmts) (block : Block) → fits done → LineEnds texts.text b (st done block)
      (stmts (add_stmt done statement) block))
      → ReadsLineEnd texts source b c s r → ReadsFrom texts source start fits a c r
  line_ended start st fits a b c s (Ok x) statement k l path ends h = record {
    statement = statement;
    keeps = record { deep = h.1.deep ∙ k.deep; kept = λ e. ap stmt_of h.0 ∙ k.kept (sym h.1.deep ∙ e) };
    ready = h.1.ready;
    later = let q = h.1.later in omega arith;
    leads = λ done block f o x. path done block f o (h.1.leads (st done block) (stmts (add_stmt done statement) block)
        (ends done block f) o x);
  }
  line_ended start st fits a b c s (Err e) statement k l path ends h =
      blame (λ o w. λ done block f. path done block f o (w (st done block) (stmts (add_stmt done statement) block)
      (ends done block f))) h

  -- a statement whose beginning was read, in which nothing is too deep
  pub line_continued : (start st : Stmts → Block → State) (fits : Stmts → Type 0) (a b c : Parser X I)
      (r : Result RustStmt Fault)
      → b.deep ≡ a.deep → left_in source.remaining b.reader ≤ left_in source.remaining a.reader
      → ((done : Stmts) (block : Block) → fits done → Onward texts.text source.next_gives a.reader b.reader
      (at (start done block))
      (at (st done block)))
      → ReadsFrom texts source st (λ _. Unit {0}) b c r → ReadsFrom texts source start fits a c r
  line_continued start st fits a b c (Ok s) d l path h = record {
    statement = h.statement;
    keeps = record { deep = h.keeps.deep ∙ ap (λ z. deep_after z (wholes_of_stmt h.statement)) d; kept = h.keeps.kept };
    ready = h.ready;
    later = let q = h.later in omega arith;
    leads = λ done block f o x. path done block f o (h.leads done block tt o x);
  }
  line_continued start st fits a b c (Err e) d l path h = blame
      (λ o w. λ done block f. path done block f o (w done block tt)) h

module _ {X I : Type 0} (texts : TextOf X) (source : TokensOf I (Result (Token X) Fault)) where
  -- the same of statements of which less is known
  pub refit : (start : Stmts → Block → State) (fits fits' : Stmts → Type 0) (a b : Parser X I)
      (r : Result RustStmt Fault) → ((done : Stmts) → fits' done → fits done)
      → ReadsFrom texts source start fits a b r → ReadsFrom texts source start fits' a b r
  refit start fits fits' a b (Ok s) f h = record {
    statement = h.statement;
    keeps = h.keeps;
    ready = h.ready;
    later =
        h.later;
    leads = λ done block k. h.leads done block (f done k);
  }
  refit start fits fits' a b (Err e) f h = blame (λ o w. λ done block k. w done block (f done k)) h

-- the token ahead has the kind that was tested
pub seen_kind : {X : Type 0} {a : Option (Token X)} {t : Token X} (kind : TokenKind) → IsAhead kind a ≡ true
    → a ≡ Some t → same_kind t.kind kind ≡ true
seen_kind kind e h = sym (ap (IsAhead kind) h) ∙ e

-- a suite that may end here has no statement yet
pub no_statements : {X : Type 0} {a : Option (Token X)} {t : Token X} {done : Stmts} → (done ≡ no_stmts)
    ⊎ (IsAhead kind.Dedent a ≡ false) → a ≡ Some t → lead_of t.kind ≡ leads_out → done ≡ no_stmts
no_statements (inl e) h l = e
no_statements {t = t} (inr n) h l = absurd (two (sym (not_seen kind.Dedent n h) ∙ out_dedent t.kind l))
  where
    two : false ≡ true → ⊥
    two q = cc

-- no token is ahead where there is no place
pub no_place : {X : Type 0} {a : Option (Token X)} {t : Token X} → place_ahead a ≡ None → a ≡ Some t → ⊥
no_place {t = t} h e = some (sym h ∙ ap place_ahead e)
  where
    some : None ≡ Some t.place → ⊥
    some q = cc

-- the place ahead is that of the first token of what was read there
pub first_is : {X : Type 0} (a : Option (Token X)) (first begins : Place) → place_ahead a ≡ Some first
    → ((t : Token X) → a ≡ Some t → begins ≡ t.place) → begins ≡ first
first_is None first begins h f = absurd (none h)
  where
    none : None ≡ Some first → ⊥
    none q = cc
first_is (Some t) first begins h f = f t refl ∙ some h
  where
    some : Some t.place ≡ Some first → t.place ≡ first
    some q = cc

module _ {X I : Type 0} (texts : TextOf X) (source : TokensOf I (Result (Token X) Fault)) where
  -- the suite after `else`
  pub else_read : (a b c : Parser X I) (r : Result (Vec RustStmt Global) Fault) → b.deep ≡ a.deep
      → left_in source.remaining b.reader ≤ left_in source.remaining a.reader
      → ((bs : Branches) (site : Site) → IsAhead (kind.Keyword word.Elif) a.reader.ahead ≡ false
      → Onward texts.text source.next_gives a.reader b.reader (at (after_branch bs site))
      (at (suite_of (nested_in site (else_body bs)))))
      → ReadsSuite texts source b c r → ReadsElse texts source a c r
  else_read a b c (Ok v) d l path h = record {
    statements = h.statements;
    keeps = record {
      deep = h.keeps.deep ∙ ap (λ z. deep_after z (wholes_of_stmts h.statements)) d;
      kept =
          h.keeps.kept;
    };
    ready = h.ready;
    later = let q = h.later in omega arith;
    leads = λ bs site n o x. path bs site n o (h.leads (nested_in site (else_body bs)) o x);
  }
  else_read a b c (Err e) d l path h = blame (λ o w. λ bs site n. path bs site n o (w (nested_in site (else_body bs))))
      h
