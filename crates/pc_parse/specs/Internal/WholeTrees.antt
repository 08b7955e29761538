-- Results of the functions that read whole expressions and annotations, and the first that is too deep.
use Rattle.std.specs.declared.convert.AsStr.{Ghosts as TextOf}
use Rattle.std.specs.declared.iter.Iterator.{Ghosts as TokensOf}
use Rattle.std.specs.Prelude.{ℕ, ◌≡◌, ◌<◌, List, [], ◌∷◌, Option, Some, None, Result, MatchResult}
use Rattle.pc_source.specs.declared.fault.Fault.{Fault}
use Rattle.pc_token.specs.declared.token.Token.{Token}
use Rattle.pc_token.specs.declared.token.TokenKind.{TokenKind}
use Rattle.pc_tree.specs.declared.tree.Ann.{Ann as RustAnn}
use Rattle.pc_tree.specs.Tree.{Ann, no_anns, ann_of}
use Rattle.pc_tree.specs.Depth.{Whole, whole_expr, whole_ann, first_too_deep}
use Rattle.pc_grammar.specs.Grammar.{first_place}
use Rattle.pc_grammar.specs.Machine.{at, transition, stop_at, short}
use Rattle.pc_grammar.specs.Machine.Kinds.{Follow, ends, follow_of, Ending, no_ending}
use Rattle.pc_grammar.specs.Machine.States.{Part, ExpressionPosition, AnnotationPosition, whole, ann_whole, State}
use Rattle.pc_grammar.specs.Machine.States.{part_due, operand, have}
use Rattle.pc_grammar.specs.Machine.Finishing.{finish, finish_ann}
use Rattle.pc_reader.specs.declared.operand.Operand.{Operand}
use Rattle.pc_reader.specs.Internal.Operands.{KeepsPart}
use Rattle.pc_reader.specs.Reading.{Blames, Came, Onward, IsReady, lexeme, left_in}
use Rattle.pc_parse.specs.declared.parser.Parser.{Parser}

-- ---- the first that is too deep

-- the first byte if there is one, otherwise the second
abbrev pub sooner : Option ℕ → Option ℕ → Option ℕ
sooner (Some byte) later = Some byte
sooner None later = later

-- the first byte of a tree that is too deep, after these whole expressions and annotations
abbrev pub deep_after : Option ℕ → List Whole → Option ℕ
deep_after deep ws = sooner deep (first_too_deep ws)

-- the value keeps the tree, unless something was too deep by the time that it was read; `before` and `after` are the
-- first byte of a tree that is too deep, before and after the reading
pub record KeepsTree {V T : Type 0} (of : V → T) (wholes : T → List Whole) (before after : Option ℕ) (value : V)
    (tree : T) : Type 0 where
  pub deep : after ≡ deep_after before (wholes tree)
  pub kept : after ≡ None → of value ≡ tree

-- ---- whole expressions and annotations

-- the way in which a token with this effect ends a whole expression
abbrev pub ending_in : Follow → Ending
ending_in (ends e) = e
ending_in _ = no_ending

-- the way in which a token of this kind ends a whole expression
abbrev pub ending_of : TokenKind → Ending
ending_of k = ending_in (follow_of k)

module _ {X I : Type 0} (texts : TextOf X) (source : TokensOf I (Result (Token X) Fault)) where
  -- a whole expression was read, and its depth noted
  pub record GivesWhole (a b : Parser X I) (o : Operand) : Type 0 where
    pub part : Part
    pub keeps : KeepsPart o part
    pub begins : (t : Token X) → a.reader.ahead ≡ Some t → first_place part.tokens ≡ t.place
    pub deep : b.deep ≡ deep_after a.deep (whole_expr part.tree ∷ [])
    pub ready : IsReady source.can_next source.remaining b.reader
    pub later : left_in source.remaining b.reader < left_in source.remaining a.reader
    pub leads : (c : ExpressionPosition)
        → Onward texts.text source.next_gives a.reader b.reader (at (operand (whole c)))
        (at (have o.level part (whole c)))
    -- the turn at the token after it
    pub goes : (c : ExpressionPosition) (t : Token X) → b.reader.ahead ≡ Some t
        → transition (have o.level part (whole c)) (lexeme texts.text t) t.kind ≡ finish c part (ending_of t.kind)

  -- a whole expression was read, or the refusal is the machine's
  abbrev pub ReadsWhole : Parser X I → Parser X I → Result Operand Fault → Type 0
  ReadsWhole a b r = MatchResult r (λ o. GivesWhole a b o)
      (λ e. Blames e (λ o. (c : ExpressionPosition) → Came texts.text source.next_gives a.reader
      (at (operand (whole c))) o))

  -- a whole annotation was read, and its depth noted
  pub record GivesAnn (a b : Parser X I) (n : RustAnn) : Type 0 where
    pub annotation : Ann
    pub keeps : KeepsTree ann_of (λ x. whole_ann x ∷ []) a.deep b.deep n annotation
    pub ready : IsReady source.can_next source.remaining b.reader
    pub later : left_in source.remaining b.reader < left_in source.remaining a.reader
    -- the state after its last token
    pub behind : AnnotationPosition → State
    pub unfinished : (c : AnnotationPosition) → stop_at (behind c) ≡ short
    pub leads : (c : AnnotationPosition)
        → Onward texts.text source.next_gives a.reader b.reader (at (part_due no_anns [] (ann_whole c))) (at (behind c))
    pub goes : (c : AnnotationPosition) (t : Token X) → b.reader.ahead ≡ Some t
        → transition (behind c) (lexeme texts.text t) t.kind ≡ finish_ann c annotation t.kind

  -- a whole annotation was read, or the refusal is the machine's
  abbrev pub ReadsAnn : Parser X I → Parser X I → Result RustAnn Fault → Type 0
  ReadsAnn a b r = MatchResult r (λ n. GivesAnn a b n)
      (λ e. Blames e (λ o. (c : AnnotationPosition)
      → Came texts.text source.next_gives a.reader (at (part_due no_anns [] (ann_whole c))) o))
