-- Results of the functions that read annotations.
use Rattle.std.specs.declared.convert.AsStr.{Ghosts as TextOf}
use Rattle.std.specs.declared.iter.Iterator.{Ghosts as TokensOf}
use Rattle.std.specs.Prelude.{ℕ, ◌≡◌, ◌≤◌, ◌<◌, List, [], ◌∷◌, Result, MatchResult, min}
use Rattle.pc_source.specs.declared.fault.Fault.{Fault}
use Rattle.pc_source.specs.declared.place.Place.{Place}
use Rattle.pc_token.specs.declared.token.Token.{Token}
use Rattle.pc_token.specs.Lexeme.{Lexeme}
use Rattle.pc_tree.specs.declared.tree.Ann.{Ann as RustAnn}
use Rattle.pc_tree.specs.declared.tree.Name.{Name as RustName}
use Rattle.pc_tree.specs.Tree.{Name, name_of, Ann, Anns, no_anns, more_anns, ann_of}
use Rattle.pc_tree.specs.Depth.{depth_of_ann, depth_over_anns, place_of_ann}
use Rattle.pc_grammar.specs.Grammar.{span}
use Rattle.pc_grammar.specs.Machine.{at}
use Rattle.pc_grammar.specs.Machine.States.{AnnStack, ann_inside, State, part_due, part_read, argument_due}
use Rattle.pc_reader.specs.declared.reader.Reader.{Reader}
use Rattle.pc_reader.specs.Internal.Operands.{Starts, Ends}
use Rattle.pc_reader.specs.Reading.{Blames, Came, Onward, IsReady, left_in}
use Rattle.pc_parse.specs.declared.annotation.Annotation.{Annotation}
use Rattle.pc_parse.specs.declared.annotation.Annotations.{Annotations}

-- the value keeps the annotation that these tokens spell; if it is too deep, only its place and that it is too deep
pub record KeepsAnn (o : Annotation) (a : Ann) (ts : List Lexeme) : Type 0 where
  pub starts : Starts ts o.place.start
  pub ends : Ends ts o.place.end
  pub first : o.place.start ≡ (place_of_ann a).start
  pub depth : o.depth ≡ min 65 (depth_of_ann a)
  pub kept : o.depth ≤ 64 → ann_of o.ann ≡ a

-- the trees of a list of annotations
abbrev pub trees_of_anns : List RustAnn → Anns
trees_of_anns [] = no_anns
trees_of_anns (a ∷ rest) = more_anns (ann_of a) (trees_of_anns rest)

-- the list keeps these annotations, unless a node over them would be too deep
pub record KeepsAnns (o : Annotations) (anns : Anns) : Type 0 where
  pub depth : o.depth ≡ min 65 (depth_over_anns anns)
  pub kept : o.depth ≤ 64 → trees_of_anns o.anns.items ≡ anns

-- the value keeps the annotation that any tokens between these bytes spell
abbrev pub MakesAnn : Annotation → (Place → Ann) → ℕ → ℕ → Type 0
MakesAnn o make start end = (ts : List Lexeme) → Starts ts start → Ends ts end → KeepsAnn o (make (span ts)) ts

-- a state after a name and its bracket, given the tokens of the part so far, the parts before and their tokens
abbrev pub Opened : Type 0
Opened = (head : Name) (tokens : List Lexeme) (parts : Anns) (before : List Lexeme) (s : AnnStack) → State

module _ {X I : Type 0} (texts : TextOf X) (source : TokensOf I (Result (Token X) Fault)) where
  -- an annotation was read
  pub record GivesUnion (a b : Reader X I) (o : Annotation) : Type 0 where
    pub tree : Ann
    pub tokens : List Lexeme
    pub keeps : KeepsAnn o tree tokens
    pub ready : IsReady source.can_next source.remaining b
    pub later : left_in source.remaining b < left_in source.remaining a
    pub leads : (s : AnnStack)
        → Onward texts.text source.next_gives a b (at (part_due no_anns [] s)) (at (part_read tree tokens no_anns [] s))

  -- an annotation was read, or the refusal is the machine's
  abbrev pub ReadsUnion : Reader X I → Reader X I → Result Annotation Fault → Type 0
  ReadsUnion a b r = MatchResult r (λ o. GivesUnion a b o)
      (λ e. Blames e (λ x. (s : AnnStack) → Came texts.text source.next_gives a (at (part_due no_anns [] s)) x))

  -- a part was read, after any other parts of its union
  pub record GivesPart (a b : Reader X I) (o : Annotation) : Type 0 where
    pub tree : Ann
    pub tokens : List Lexeme
    pub keeps : KeepsAnn o tree tokens
    pub ready : IsReady source.can_next source.remaining b
    pub later : left_in source.remaining b < left_in source.remaining a
    pub leads : (parts : Anns) (before : List Lexeme) (s : AnnStack)
        → Onward texts.text source.next_gives a b (at (part_due parts before s))
        (at (part_read tree tokens parts before s))

  -- a part was read, or the refusal is the machine's
  abbrev pub ReadsPart : Reader X I → Reader X I → Result Annotation Fault → Type 0
  ReadsPart a b r = MatchResult r (λ o. GivesPart a b o)
      (λ e. Blames e (λ x. (parts : Anns) (before : List Lexeme) (s : AnnStack)
      → Came texts.text source.next_gives a (at (part_due parts before s)) x))

  -- the brackets after a name were read, after these tokens of the part
  pub record AppliesOn (from : Opened) (a b : Reader X I) (o : Annotation) (head : Name)
      (ts : List Lexeme) : Type 0 where
    pub tree : Ann
    pub tokens : List Lexeme
    pub keeps : KeepsAnn o tree tokens
    pub leads : (parts : Anns) (before : List Lexeme) (s : AnnStack)
        → Onward texts.text source.next_gives a b (at (from head ts parts before s))
        (at (part_read tree tokens parts before s))

  -- the brackets after a name were read, whatever the tokens of the part that begin with the name
  pub record GivesApplied (from : Opened) (a b : Reader X I) (head : RustName) (o : Annotation) : Type 0 where
    pub ready : IsReady source.can_next source.remaining b
    pub later : left_in source.remaining b < left_in source.remaining a
    pub applies : (ts : List Lexeme) → Starts ts head.place.start → AppliesOn from a b o (name_of head) ts

  -- the brackets after a name were read, or the refusal is the machine's
  abbrev pub ReadsApplied : Opened → Reader X I → Reader X I → RustName → Result Annotation Fault → Type 0
  ReadsApplied from a b head r = MatchResult r (λ o. GivesApplied from a b head o)
      (λ e. Blames e (λ x. (ts : List Lexeme) → Starts ts head.place.start
      → (parts : Anns) (before : List Lexeme) (s : AnnStack)
      → Came texts.text source.next_gives a (at (from (name_of head) ts parts before s)) x))

  -- parts were read so far, each followed by `|`
  pub record PartsSoFar (a b : Reader X I) (now : Annotations) (start : ℕ) : Type 0 where
    pub first : Ann
    pub rest : Anns
    pub tokens : List Lexeme
    pub keeps : KeepsAnns now (more_anns first rest)
    pub starts : Starts tokens start
    pub leads : (s : AnnStack)
        → Onward texts.text source.next_gives a b (at (part_due no_anns [] s))
        (at (part_due (more_anns first rest) tokens s))

  -- arguments were read so far, each followed by a comma
  pub record ArgumentsSoFar (a b : Reader X I) (now : Annotations) (head : RustName) (ts : List Lexeme) : Type 0 where
    pub arguments : Anns
    pub tokens : List Lexeme
    pub keeps : KeepsAnns now arguments
    pub starts : Starts tokens head.place.start
    pub leads : (parts : Anns) (before : List Lexeme) (s : AnnStack)
        → Onward texts.text source.next_gives a b (at (argument_due (name_of head) ts parts before s))
        (at (part_due no_anns [] (ann_inside (name_of head) arguments tokens parts before s)))
