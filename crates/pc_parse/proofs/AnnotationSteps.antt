-- Turns at single tokens inside an annotation.
use Rattle.std.specs.declared.convert.AsStr.{Ghosts as TextOf}
use Rattle.std.specs.declared.iter.Iterator.{Ghosts as TokensOf}
use Rattle.std.proofs.Common.{◌≡◌, ℕ, Bool, false, List, [], ◌∷◌, ◌++◌, Option, Result, refl, ap, sym, ◌∙◌}
use Rattle.pc_source.specs.declared.fault.Fault.{Fault}
use Rattle.pc_token.specs.declared.token.Token.{Token}
use Rattle.pc_token.specs.declared.token.TokenKind.TheVariants as kind
use Rattle.pc_token.specs.declared.token.Keyword.TheVariants as word
use Rattle.pc_token.specs.declared.token.Operator.TheVariants as sign
use Rattle.pc_token.specs.Lexeme.{Lexeme}
use Rattle.pc_tree.specs.Tree.{Name, Ann, named, none_type, applied, Anns, no_anns}
use Rattle.pc_grammar.specs.Grammar.{span, name_of_token}
use Rattle.pc_grammar.specs.Machine.{at, transition}
use Rattle.pc_grammar.specs.Machine.Kinds.{same_kind}
use Rattle.pc_grammar.specs.Machine.States.{AnnStack, ann_inside, State, part_due, part_named, part_read, argument_due}
use Rattle.pc_grammar.specs.Machine.States.{empty_opened, empty_closed, stuck, on}
use Rattle.pc_grammar.specs.Machine.Finishing.{add_ann}
use Rattle.pc_grammar.specs.Machine.Annotations.{ann_of_parts, ann_end, part_read_turn, part_turn}
use Rattle.pc_reader.specs.declared.reader.Reader.{Reader}
use Rattle.pc_reader.specs.Reading.{IsAhead, lexeme, Onward, Takes, NeedsKind}
use Rattle.pc_reader.proofs.Steps.{step_to, alike, needs, not_seen}

-- where no choice is taken
pub on_none : (x y z : Bool) (p q r : State) → x ≡ false → y ≡ false → z ≡ false → on x p (on y q (on z r stuck))
    ≡ stuck
on_none x y z p q r ex ey ez = ap (λ v. on v p (on y q (on z r stuck))) ex ∙ ap (λ v. on v q (on z r stuck)) ey
    ∙ ap (λ v. on v r stuck) ez

module _ {X I : Type 0} {texts : TextOf X} {source : TokensOf I (Result (Token X) Fault)} {a b : Reader X I}
    {t : Token X} (h : Takes texts source a b t) where
  pub to_none : (parts : Anns) (before : List Lexeme) (s : AnnStack) → t.kind ≡ kind.Keyword word.None
      → Onward texts.text source.next_gives a b (at (part_due parts before s))
      (at (part_read (none_type (span (lexeme texts.text t ∷ []))) (lexeme texts.text t ∷ []) parts before s))
  to_none parts before s e = step_to (part_due parts before s)
      (part_read (none_type (span (lexeme texts.text t ∷ []))) (lexeme texts.text t ∷ []) parts before s) h
      (ap (transition (part_due parts before s) (lexeme texts.text t)) e)

  pub to_name : (parts : Anns) (before : List Lexeme) (s : AnnStack) → t.kind ≡ kind.Name
      → Onward texts.text source.next_gives a b (at (part_due parts before s))
      (at (part_named (name_of_token (lexeme texts.text t)) (lexeme texts.text t ∷ []) parts before s))
  to_name parts before s e = step_to (part_due parts before s)
      (part_named (name_of_token (lexeme texts.text t)) (lexeme texts.text t ∷ []) parts before s) h
      (ap (transition (part_due parts before s) (lexeme texts.text t)) e)

  pub to_bracket : (n : Name) (us : List Lexeme) (parts : Anns) (before : List Lexeme) (s : AnnStack)
      → t.kind ≡ kind.Operator sign.LeftBracket
      → Onward texts.text source.next_gives a b (at (part_named n us parts before s))
      (at (argument_due n (us ++ (lexeme texts.text t ∷ [])) parts before s))
  to_bracket n us parts before s e = step_to (part_named n us parts before s)
      (argument_due n (us ++ (lexeme texts.text t ∷ [])) parts before s) h
      (ap (transition (part_named n us parts before s) (lexeme texts.text t)) e)

  pub to_parenthesis : (n : Name) (us : List Lexeme) (parts : Anns) (before : List Lexeme) (s : AnnStack)
      → t.kind ≡ kind.Operator sign.LeftParenthesis
      → Onward texts.text source.next_gives a b (at (argument_due n us parts before s))
      (at (empty_opened n (us ++ (lexeme texts.text t ∷ [])) parts before s))
  to_parenthesis n us parts before s e = step_to (argument_due n us parts before s)
      (empty_opened n (us ++ (lexeme texts.text t ∷ [])) parts before s) h
      (ap (transition (argument_due n us parts before s) (lexeme texts.text t)) e)

  pub to_bar : (x : Ann) (us : List Lexeme) (parts : Anns) (before : List Lexeme) (s : AnnStack)
      → t.kind ≡ kind.Operator sign.Bar
      → Onward texts.text source.next_gives a b (at (part_read x us parts before s))
      (at (part_due (add_ann parts x) (before ++ (us ++ (lexeme texts.text t ∷ []))) s))
  to_bar x us parts before s e = step_to (part_read x us parts before s)
      (part_due (add_ann parts x) (before ++ (us ++ (lexeme texts.text t ∷ []))) s) h
      (ap (transition (part_read x us parts before s) (lexeme texts.text t)) e)

  pub to_comma : (x : Ann) (us : List Lexeme) (head : Name) (done : Anns) (ts : List Lexeme) (parts : Anns)
      (before : List Lexeme) (s : AnnStack) → t.kind ≡ kind.Operator sign.Comma
      → Onward texts.text source.next_gives a b
      (at (part_read x us no_anns [] (ann_inside head done ts parts before s)))
      (at (part_due no_anns [] (ann_inside head (add_ann done x) (ts ++ (us ++ (lexeme texts.text t ∷ []))) parts before
      s)))
  to_comma x us head done ts parts before s e = step_to (part_read x us no_anns []
      (ann_inside head done ts parts before s)) (part_due no_anns []
      (ann_inside head (add_ann done x) (ts ++ (us ++ (lexeme texts.text t ∷ []))) parts before s)) h
      (ap (transition (part_read x us no_anns [] (ann_inside head done ts parts before s)) (lexeme texts.text t)) e)

  pub to_close : (x : Ann) (us : List Lexeme) (head : Name) (done : Anns) (ts : List Lexeme) (parts : Anns)
      (before : List Lexeme) (s : AnnStack) → t.kind ≡ kind.Operator sign.RightBracket
      → Onward texts.text source.next_gives a b
      (at (part_read x us no_anns [] (ann_inside head done ts parts before s)))
      (at (part_read (applied (span (ts ++ (us ++ (lexeme texts.text t ∷ [])))) head (add_ann done x))
      (ts ++ (us ++ (lexeme texts.text t ∷ []))) parts before s))
  to_close x us head done ts parts before s e = step_to (part_read x us no_anns []
      (ann_inside head done ts parts before s)) (part_read (applied (span (ts ++ (us ++ (lexeme texts.text t ∷ []))))
      head
      (add_ann done x)) (ts ++ (us ++ (lexeme texts.text t ∷ []))) parts before s) h
      (ap (transition (part_read x us no_anns [] (ann_inside head done ts parts before s)) (lexeme texts.text t)) e)

module _ {X I : Type 0} (text : X → List ℕ) (steps : I → Option (Result (Token X) Fault) → I → Type 0)
    (a : Reader X I) where
  -- a name with no bracket after it is a part
  pub alone : (n : Name) (us : List Lexeme) (parts : Anns) (before : List Lexeme) (s : AnnStack)
      → IsAhead (kind.Operator sign.LeftBracket) a.ahead ≡ false
      → Onward text steps a a (at (part_named n us parts before s)) (at (part_read (named n) us parts before s))
  alone n us parts before s e = alike text steps a (part_named n us parts before s)
      (part_read (named n) us parts before s) refl refl
      (λ t h. ap (λ z. on z (argument_due n (us ++ (lexeme text t ∷ [])) parts before s)
      (part_read_turn (named n) us parts before s (lexeme text t) t.kind))
      (not_seen (kind.Operator sign.LeftBracket) e h))

  -- an argument is due where none is left out
  pub filled : (n : Name) (us : List Lexeme) (parts : Anns) (before : List Lexeme) (s : AnnStack)
      → IsAhead (kind.Operator sign.LeftParenthesis) a.ahead ≡ false
      → Onward text steps a a (at (argument_due n us parts before s))
      (at (part_due no_anns [] (ann_inside n no_anns us parts before s)))
  filled n us parts before s e = alike text steps a (argument_due n us parts before s)
      (part_due no_anns [] (ann_inside n no_anns us parts before s)) refl refl
      (λ t h. ap (λ z. on z (empty_opened n (us ++ (lexeme text t ∷ [])) parts before s)
      (part_turn no_anns [] (ann_inside n no_anns us parts before s) (lexeme text t) t.kind))
      (not_seen (kind.Operator sign.LeftParenthesis) e h))

  -- parts with no `|` after the last are one annotation
  pub united : (x : Ann) (us : List Lexeme) (parts : Anns) (before : List Lexeme) (s : AnnStack)
      → IsAhead (kind.Operator sign.Bar) a.ahead ≡ false
      → Onward text steps a a (at (part_read x us parts before s))
      (at (part_read (ann_of_parts parts x (before ++ us)) (before ++ us) no_anns [] s))
  united x us parts before s e = alike text steps a (part_read x us parts before s)
      (part_read (ann_of_parts parts x (before ++ us)) (before ++ us) no_anns [] s) refl refl
      (λ t h. ap (λ z. on z (part_due (add_ann parts x) (before ++ (us ++ (lexeme text t ∷ []))) s)
      (ann_end (ann_of_parts parts x (before ++ us)) (before ++ us) s (lexeme text t) t.kind))
      (not_seen (kind.Operator sign.Bar) e h)
      ∙ ap (λ z. on z (part_due (add_ann no_anns (ann_of_parts parts x (before ++ us)))
      ([] ++ ((before ++ us) ++ (lexeme text t ∷ []))) s) (ann_end (ann_of_parts parts x (before ++ us)) (before ++ us)
      s (lexeme text t) t.kind)) (sym (not_seen (kind.Operator sign.Bar) e h)))

  -- after an argument with neither `|` nor a comma the bracket closes
  pub closes : (x : Ann) (us : List Lexeme) (head : Name) (done : Anns) (ts : List Lexeme) (parts : Anns)
      (before : List Lexeme) (s : AnnStack)
      → IsAhead (kind.Operator sign.Bar) a.ahead ≡ false → IsAhead (kind.Operator sign.Comma) a.ahead ≡ false
      → NeedsKind text (kind.Operator sign.RightBracket) (part_read x us no_anns []
      (ann_inside head done ts parts before s)) a
  closes x us head done ts parts before s e d = record {
    unfinished = refl;
    stuck_at = λ t h c. on_none (same_kind t.kind (kind.Operator sign.Bar))
        (same_kind t.kind (kind.Operator sign.Comma)) (same_kind t.kind (kind.Operator sign.RightBracket))
        (part_due (add_ann no_anns x) ([] ++ (us ++ (lexeme text t ∷ []))) (ann_inside head done ts parts before s))
        (part_due no_anns [] (ann_inside head (add_ann done x) (ts ++ (us ++ (lexeme text t ∷ []))) parts before s))
        (part_read (applied (span (ts ++ (us ++ (lexeme text t ∷ [])))) head (add_ann done x))
        (ts ++ (us ++ (lexeme text t ∷ []))) parts before s) (not_seen (kind.Operator sign.Bar) e h)
        (not_seen (kind.Operator sign.Comma) d h) c;
  }

  -- where neither `None` nor a name stands, no part begins
  pub no_part : (parts : Anns) (before : List Lexeme) (s : AnnStack) → IsAhead (kind.Keyword word.None) a.ahead ≡ false
      → NeedsKind text kind.Name (part_due parts before s) a
  no_part parts before s e = record {
    unfinished = refl;
    stuck_at = λ t h c. ap (λ v. on v (part_named (name_of_token (lexeme text t)) (lexeme text t ∷ []) parts before s)
        (on (same_kind t.kind (kind.Keyword word.None)) (part_read (none_type (span (lexeme text t ∷ [])))
        (lexeme text t ∷ []) parts before s) stuck)) c
        ∙ ap (λ v. on v (part_read (none_type (span (lexeme text t ∷ []))) (lexeme text t ∷ []) parts before s) stuck)
        (not_seen (kind.Keyword word.None) e h);
  }

  -- after `N[(` only `)]` stands
  pub needs_parenthesis : (head : Name) (us : List Lexeme) (parts : Anns) (before : List Lexeme) (s : AnnStack)
      → NeedsKind text (kind.Operator sign.RightParenthesis) (empty_opened head us parts before s) a
  needs_parenthesis head us parts before s = needs (λ t. empty_closed head (us ++ (t ∷ [])) parts before s) refl
      (λ t k. refl)
