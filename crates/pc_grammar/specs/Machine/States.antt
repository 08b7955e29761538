-- States of the machine: the parts read so far, and the open nodes.
use Rattle.std.specs.Prelude.{ℕ, Bool, List, Option}
use Rattle.pc_source.specs.declared.place.Place.{Place}
use Rattle.pc_token.specs.Lexeme.{Lexeme}
use Rattle.pc_tree.specs.Tree.{Name, Expr, Exprs, Entries, Keywords, Ann, Anns, Target, Literal, Stmts, Branches, Param}
use Rattle.pc_tree.specs.Tree.{Member, Item, Module}
use Rattle.pc_grammar.specs.Machine.Kinds.{Fixed, Infix}

-- ---- the module and its items

-- the headers that may still follow
pub data HeaderStage : Type 0 where
  after_future : HeaderStage
  after_dataclasses : HeaderStage
  after_headers : HeaderStage

-- a module, as far as it has been read
pub record Top : Type 0 where
  pub imports_dataclass : Bool
  pub imports_any : Bool
  pub items : List Item

-- a class up to its base
pub record ClassStart : Type 0 where
  pub top : Top
  pub first : Place
  pub decorator : Place
  pub name : Name
  pub base : Option Name

-- the owner of a function: the module, or a class after its other members
pub data FunctionOwner : Type 0 where
  of_module : (top : Top) → FunctionOwner
  of_class : (c : ClassStart) (members : List Member) → FunctionOwner

-- a function up to its name
pub record DefStart : Type 0 where
  pub owner : FunctionOwner
  pub first : Place
  pub name : Name

-- a function up to its suite
pub record DefHead : Type 0 where
  pub start : DefStart
  pub params : List Param
  pub returns : Option Ann

-- ---- suites

-- the part of a statement to which a nested suite belongs
pub data Nest : Type 0 where
  while_body : (condition : Expr) → Nest
  for_body : (target : Name) (iterable : Expr) → Nest
  branch_body : (branches : Branches) (condition : Expr) → Nest
  else_body : (branches : Branches) → Nest

-- the suite that is being read: a function's, or one nested in a statement, with the statements before it in each suite
pub data Block : Type 0 where
  def_body : (head : DefHead) → Block
  nested : (first : Place) (of : Nest) (done : Stmts) (outer : Block) → Block

-- a statement that has begun, and those before it in its suite
pub record Site : Type 0 where
  pub first : Place
  pub done : Stmts
  pub block : Block

-- ---- positions of whole expressions, annotations and literals

-- the part of a statement before an expression
pub data Begun : Type 0 where
  assigned : (target : Target) → Begun
  annotated_value : (n : Name) (annotation : Ann) → Begun
  returned : Begun
  asserted : Begun
  asserted_with : (condition : Expr) → Begun
  looping : Begun
  iterating : (target : Name) → Begun
  branching : (branches : Branches) → Begun

-- the position of a whole expression: first in a line, inside a begun statement, or the value of a constant
pub data ExpressionPosition : Type 0 where
  -- first in a line, of a statement that is not known yet
  in_line : (done : Stmts) (block : Block) → ExpressionPosition
  in_statement : (begun : Begun) (site : Site) → ExpressionPosition
  in_constant : (n : Name) (annotation : Option Ann) (top : Top) → ExpressionPosition

-- the position of a whole annotation: of a constant, a field, a parameter, the return of a function, or a local name
pub data AnnotationPosition : Type 0 where
  of_constant : (n : Name) (top : Top) → AnnotationPosition
  of_field : (c : ClassStart) (members : List Member) (n : Name) → AnnotationPosition
  of_param : (d : DefStart) (params : List Param) (n : Name) → AnnotationPosition
  of_return : (d : DefStart) (params : List Param) → AnnotationPosition
  of_local : (n : Name) (site : Site) → AnnotationPosition

-- the position of a literal: the default of a parameter or a field
pub data LiteralContext : Type 0 where
  default_of_param : (d : DefStart) (params : List Param) (n : Name) (annotation : Option Ann) → LiteralContext
  default_of_field : (c : ClassStart) (members : List Member) (n : Name) (annotation : Ann) → LiteralContext

-- ---- expressions

-- a node with its tokens, including parentheses around it, and whether there are none
pub record Part : Type 0 where
  pub tree : Expr
  pub tokens : List Lexeme
  pub plain : Bool

-- an operator before its only operand: the unary minus, or `not`
pub data Prefix : Type 0 where
  minus : Prefix
  denial : Prefix

-- the purpose of the items in a bracket: a tuple, a list, or a call of this callee
pub data BracketPurpose : Type 0 where
  in_tuple : BracketPurpose
  in_list : BracketPurpose
  in_call : (callee : Expr) → BracketPurpose

-- the open nodes around an operand; each list of tokens begins with its node
pub data Stack : Type 0 where
  -- no open node: the operand is in a whole expression
  whole : (c : ExpressionPosition) → Stack
  -- the right operand of an operator, after its left operand and the operator's tokens
  joining : (operator : Infix) (left : Part) (tokens : List Lexeme) (s : Stack) → Stack
  -- the operand of a sign or of `not`
  applying : (x : Prefix) (tokens : List Lexeme) (s : Stack) → Stack
  -- the first expression in parentheses
  grouping : (tokens : List Lexeme) (s : Stack) → Stack
  -- an item, after others
  listing : (h : BracketPurpose) (xs : Exprs) (tokens : List Lexeme) (s : Stack) → Stack
  -- the key in the brackets of `e[i]`
  indexing : (object : Expr) (tokens : List Lexeme) (s : Stack) → Stack
  -- the value of an argument by name
  naming : (callee : Expr) (xs : Exprs) (ks : Keywords) (n : Name) (tokens : List Lexeme) (s : Stack) → Stack
  -- the key of an entry
  keying : (es : Entries) (tokens : List Lexeme) (s : Stack) → Stack
  -- the value of an entry
  valuing : (es : Entries) (key : Expr) (tokens : List Lexeme) (s : Stack) → Stack

-- ---- annotations

-- the open nodes around an annotation
pub data AnnStack : Type 0 where
  ann_whole : (c : AnnotationPosition) → AnnStack
  -- an argument, after others, in a part of a union, after others
  ann_inside : (head : Name) (done : Anns) (tokens : List Lexeme) (parts : Anns) (before : List Lexeme) (s : AnnStack)
      → AnnStack

-- ---- states

-- a state of the machine: what is due or was just read, with the open nodes
pub data State : Type 0 where
  -- these words are due, and then the next state
  fixed : (w : Fixed) (ws : List Fixed) (next : State) → State
  -- an item of the module, or the last line, is due
  items : (stage : HeaderStage) (top : Top) → State
  -- after `from`
  importing : (stage : HeaderStage) (top : Top) → State
  -- after a name at the start of a line of the module
  item_named : (n : Name) (top : Top) → State
  -- after `@`
  decorator_due : (first : Place) (top : Top) → State
  -- after `class`
  class_due : (first : Place) (decorator : Place) (top : Top) → State
  -- after the name of a class
  class_named : (c : ClassStart) → State
  -- after the `(` of a class
  base_due : (c : ClassStart) → State
  -- a member of a class, or the end of its suite, is due
  members : (c : ClassStart) (done : List Member) → State
  -- after `def`
  def_due : (owner : FunctionOwner) (first : Place) → State
  -- after `self`
  self_read : (d : DefStart) → State
  -- a parameter or `)` is due
  param_due : (d : DefStart) (params : List Param) → State
  -- after the name of a parameter
  param_named : (d : DefStart) (params : List Param) (n : Name) → State
  -- after the parameters
  params_read : (d : DefStart) (params : List Param) → State
  -- a literal is due; after its `-`; after the literal
  literal_due : (c : LiteralContext) → State
  minus_read : (c : LiteralContext) (tokens : List Lexeme) → State
  literal_read : (c : LiteralContext) (l : Literal) → State
  -- a statement, or the end of the suite, is due
  stmts : (done : Stmts) (block : Block) → State
  -- after `return`
  return_due : (site : Site) → State
  -- after `for`
  target_due : (site : Site) → State
  -- after a suite of `if` or `elif`
  after_branch : (branches : Branches) (site : Site) → State
  -- a part of an annotation is due, after the other parts and their tokens
  part_due : (parts : Anns) (before : List Lexeme) (s : AnnStack) → State
  -- after a name as a part
  part_named : (n : Name) (tokens : List Lexeme) (parts : Anns) (before : List Lexeme) (s : AnnStack) → State
  -- after a part and its tokens
  part_read : (a : Ann) (tokens : List Lexeme) (parts : Anns) (before : List Lexeme) (s : AnnStack) → State
  -- after `N[`
  argument_due : (head : Name) (tokens : List Lexeme) (parts : Anns) (before : List Lexeme) (s : AnnStack) → State
  -- after `N[(` and after `N[()`
  empty_opened : (head : Name) (tokens : List Lexeme) (parts : Anns) (before : List Lexeme) (s : AnnStack) → State
  empty_closed : (head : Name) (tokens : List Lexeme) (parts : Anns) (before : List Lexeme) (s : AnnStack) → State
  -- an operand is due
  operand : (s : Stack) → State
  -- after an operand of this level
  have : (level : ℕ) (p : Part) (s : Stack) → State
  -- after `e not`, `e is`, `e is not`
  denied : (p : Part) (tokens : List Lexeme) (s : Stack) → State
  identified : (p : Part) (tokens : List Lexeme) (s : Stack) → State
  unidentified : (p : Part) (tokens : List Lexeme) (s : Stack) → State
  -- after `e.`
  dotted : (p : Part) (tokens : List Lexeme) (s : Stack) → State
  -- after `(`
  group_due : (tokens : List Lexeme) (s : Stack) → State
  -- an item or the closing bracket is due
  item_due : (h : BracketPurpose) (xs : Exprs) (tokens : List Lexeme) (s : Stack) → State
  -- an argument by name or `)` is due, after arguments by name
  keyword_due : (callee : Expr) (xs : Exprs) (ks : Keywords) (tokens : List Lexeme) (s : Stack) → State
  -- after the name of an argument, where only an argument by name may follow
  keyword_named : (callee : Expr) (xs : Exprs) (ks : Keywords) (n : Name) (tokens : List Lexeme) (s : Stack) → State
  -- a key or `}` is due
  key_due : (es : Entries) (tokens : List Lexeme) (s : Stack) → State
  -- after the end of the text
  ended : (m : Module) → State

-- the result of one token: the next state, or stuck
pub data Transition : Type 0 where
  stuck : Transition
  go : (s : State) → Transition

-- a turn to this state if the test holds, otherwise the other turn
abbrev pub on : Bool → State → Transition → Transition
on Bool.true s other = go s
on Bool.false s other = other
