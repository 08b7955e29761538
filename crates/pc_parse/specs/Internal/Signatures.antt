-- Results of the functions that read parameters and functions.
use Rattle.std.specs.declared.convert.AsStr.{Ghosts as TextOf}
use Rattle.std.specs.declared.iter.Iterator.{Ghosts as TokensOf}
use Rattle.std.specs.Prelude.{◌≡◌, ◌≤◌, ◌<◌, Bool, false, List, [], map, Option, Some, None, Result, MatchResult}
use Rattle.std.specs.Prelude.{Vec, codes}
use Rattle.std.specs.declared.alloc.Global.{Global}
use Rattle.pc_source.specs.declared.fault.Fault.{Fault}
use Rattle.pc_source.specs.declared.place.Place.{Place}
use Rattle.pc_token.specs.declared.token.Token.{Token}
use Rattle.pc_token.specs.declared.token.TokenKind.{TokenKind}
use Rattle.pc_token.specs.declared.token.TokenKind.TheVariants as kind
use Rattle.pc_token.specs.declared.token.Operator.{Operator as Opener}
use Rattle.pc_token.specs.declared.token.Operator.TheVariants as sign
use Rattle.pc_tree.specs.declared.tree.Ann.{Ann as RustAnn}
use Rattle.pc_tree.specs.declared.tree.Param.{Param as RustParam}
use Rattle.pc_tree.specs.declared.tree.FuncDef.{FuncDef as RustFuncDef}
use Rattle.pc_tree.specs.Tree.{Ann, no_anns, Param, FuncDef, option_ann_of, param_of, func_of}
use Rattle.pc_tree.specs.Depth.{optional_anns, wholes_of_params, wholes_of_def}
use Rattle.pc_grammar.specs.Machine.{at}
use Rattle.pc_grammar.specs.Machine.Kinds.{same_kind, a_form}
use Rattle.pc_grammar.specs.Machine.States.{FunctionOwner, DefStart, AnnotationPosition, ann_whole, State, fixed}
use Rattle.pc_grammar.specs.Machine.States.{def_due}
use Rattle.pc_grammar.specs.Machine.States.{self_read, param_due, params_read, part_due, Transition, on}
use Rattle.pc_grammar.specs.Machine.Finishing.{finish_ann, param_end, after_def}
use Rattle.pc_grammar.specs.Machine.Lines.{params_of}
use Rattle.pc_grammar.specs.Fronts.Lines.{is_in_class}
use Rattle.pc_reader.specs.Reading.{Blames, IsAhead, Came, Onward, IsReady, left_in}
use Rattle.pc_reader.specs.Internal.StatesAhead.{StandsBefore, LeadsTo}
use Rattle.pc_parse.specs.declared.parser.Parser.{Parser}
use Rattle.pc_parse.specs.Internal.WholeTrees.{KeepsTree}

-- the turn where an annotation is optional: this sign begins it, any other token does what it does without one
abbrev pub opens_ann : Opener → AnnotationPosition → (TokenKind → Transition) → TokenKind → Transition
opens_ann opener c other k = on (same_kind k (kind.Operator opener)) (part_due no_anns [] (ann_whole c)) (other k)

-- the turn after an optional annotation
abbrev pub or_ann : AnnotationPosition → (TokenKind → Transition) → Option Ann → TokenKind → Transition
or_ann c other None k = other k
or_ann c other (Some a) k = finish_ann c a k

module _ {X I : Type 0} (texts : TextOf X) (source : TokensOf I (Result (Token X) Fault)) where
  -- an optional annotation was read
  pub record GivesOpened (opener : Opener) (a b : Parser X I) (n : Option RustAnn) : Type 0 where
    pub annotation : Option Ann
    pub keeps : KeepsTree option_ann_of optional_anns a.deep b.deep n annotation
    pub ready : IsReady source.can_next source.remaining b.reader
    pub later : left_in source.remaining b.reader ≤ left_in source.remaining a.reader
    pub leads : (st : State) (c : AnnotationPosition) (other : TokenKind → Transition)
        → StandsBefore texts.text a.reader st (opens_ann opener c other)
        → LeadsTo texts.text source.next_gives a.reader b.reader st (or_ann c other annotation)

  -- an optional annotation was read, or the refusal is the machine's
  abbrev pub ReadsOpened : Opener → Parser X I → Parser X I → Result (Option RustAnn) Fault → Type 0
  ReadsOpened opener a b r = MatchResult r (λ n. GivesOpened opener a b n)
      (λ e. Blames e (λ o. (st : State) (c : AnnotationPosition) (other : TokenKind → Transition)
      → StandsBefore texts.text a.reader st (opens_ann opener c other) → Came texts.text source.next_gives a.reader
      (at st) o))

  -- a parameter was read, after others
  pub record GivesParam (a b : Parser X I) (p : RustParam) : Type 0 where
    pub parameter : Param
    pub keeps : KeepsTree param_of (λ q. optional_anns q.annotation) a.deep b.deep p parameter
    pub ready : IsReady source.can_next source.remaining b.reader
    pub later : left_in source.remaining b.reader < left_in source.remaining a.reader
    pub leads : (d : DefStart) (ps : List Param)
        → LeadsTo texts.text source.next_gives a.reader b.reader (param_due d ps) (param_end d ps parameter)

  -- a parameter was read, or the refusal is the machine's where no `)` is ahead
  abbrev pub ReadsParam : Parser X I → Parser X I → Result RustParam Fault → Type 0
  ReadsParam a b r = MatchResult r (λ p. GivesParam a b p)
      (λ e. Blames e (λ o. (d : DefStart) (ps : List Param)
      → IsAhead (kind.Operator sign.RightParenthesis) a.reader.ahead ≡ false
      → Came texts.text source.next_gives a.reader (at (param_due d ps)) o))

  -- parameters and `)` were read, from a state where they are due
  pub record GivesParams (from : DefStart → State) (a b : Parser X I) (v : Vec RustParam Global) : Type 0 where
    pub params : List Param
    pub keeps : KeepsTree (λ w. map param_of w.items) wholes_of_params a.deep b.deep v params
    pub ready : IsReady source.can_next source.remaining b.reader
    pub later : left_in source.remaining b.reader < left_in source.remaining a.reader
    pub leads : (d : DefStart) → Onward texts.text source.next_gives a.reader b.reader (at (from d))
        (at (params_read d params))

  -- parameters and `)` were read, from a state where they are due, or the refusal is the machine's
  abbrev pub ReadsParamsFrom : (DefStart → State) → Parser X I → Parser X I → Result (Vec RustParam Global) Fault
      → Type 0
  ReadsParamsFrom from a b r =
      MatchResult r (λ v. GivesParams from a b v)
      (λ e. Blames e (λ o. (d : DefStart) → Came texts.text source.next_gives a.reader (at (from d)) o))

  -- parameters and `)` were read, after the `(` of a function, or the refusal is the machine's
  abbrev pub ReadsParams : Parser X I → Parser X I → Result (Vec RustParam Global) Fault → Type 0
  ReadsParams a b r = ReadsParamsFrom (λ d. param_due d []) a b r

  -- `self`, parameters and `)` were read, after the `(` of a method, or the refusal is the machine's
  abbrev pub ReadsMethodParams : Parser X I → Parser X I → Result (Vec RustParam Global) Fault → Type 0
  ReadsMethodParams a b r = ReadsParamsFrom (λ d. fixed (a_form (codes "self")) [] (self_read d)) a b r

  -- parameters were read so far, each followed by a comma
  pub record ParamsSoFar (a b : Parser X I) (v : Vec RustParam Global) : Type 0 where
    pub params : List Param
    pub keeps : KeepsTree (λ w. map param_of w.items) wholes_of_params a.deep b.deep v params
    pub leads : (d : DefStart) → Onward texts.text source.next_gives a.reader b.reader (at (param_due d []))
        (at (param_due d params))

  -- the parameters of a function or method were read, with the parentheses around them
  pub record GivesSignature (method : Bool) (a b : Parser X I) (v : Vec RustParam Global) : Type 0 where
    pub params : List Param
    pub keeps : KeepsTree (λ w. map param_of w.items) wholes_of_params a.deep b.deep v params
    pub ready : IsReady source.can_next source.remaining b.reader
    pub later : left_in source.remaining b.reader < left_in source.remaining a.reader
    pub leads : (owner : FunctionOwner) (d : DefStart) → is_in_class owner ≡ method
        → Onward texts.text source.next_gives a.reader b.reader (at (params_of owner d)) (at (params_read d params))

  -- the parameters of a function or method and their parentheses were read, or the refusal is the machine's
  abbrev pub ReadsSignature : Bool → Parser X I → Parser X I → Result (Vec RustParam Global) Fault → Type 0
  ReadsSignature method a b r = MatchResult r (λ v. GivesSignature method a b v)
      (λ e. Blames e (λ o. (owner : FunctionOwner) (d : DefStart) → is_in_class owner ≡ method
      → Came texts.text source.next_gives a.reader (at (params_of owner d)) o))

  -- a function or method was read, from after its `def`
  pub record GivesFunction (method : Bool) (a b : Parser X I) (f : RustFuncDef) : Type 0 where
    pub function : FuncDef
    pub keeps : KeepsTree func_of wholes_of_def a.deep b.deep f function
    pub ready : IsReady source.can_next source.remaining b.reader
    pub later : left_in source.remaining b.reader < left_in source.remaining a.reader
    pub leads : (owner : FunctionOwner) (first : Place) → is_in_class owner ≡ method
        → Onward texts.text source.next_gives a.reader b.reader (at (def_due owner first))
        (at (after_def owner first function))

  -- a function or method was read, from after its `def`, or the refusal is the machine's
  abbrev pub ReadsFunction : Bool → Parser X I → Parser X I → Result RustFuncDef Fault → Type 0
  ReadsFunction method a b r = MatchResult r (λ f. GivesFunction method a b f)
      (λ e. Blames e (λ o. (owner : FunctionOwner) (first : Place) → is_in_class owner ≡ method
      → Came texts.text source.next_gives a.reader (at (def_due owner first)) o))
