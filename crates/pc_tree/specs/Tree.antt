-- Trees, independent of their layout in memory: modules, statements, expressions and annotations. Language Reference
-- 3.12, 6 "Expressions", 7 "Simple statements", 8 "Compound statements".
use Rattle.std.specs.Prelude.{ℕ, Bool, true, false, List, [], ◌∷◌, map, Option, Some, None, string_bytes}
use Rattle.std.specs.Global.{Box}
use Rattle.pc_source.specs.declared.place.Place.{Place}
use Rattle.pc_tree.specs.declared.tree.BinaryOperator.{BinaryOperator}
use Rattle.pc_tree.specs.declared.tree.ComparisonOperator.{ComparisonOperator}
use Rattle.pc_tree.specs.declared.tree.Name.{Name as RustName}
use Rattle.pc_tree.specs.Text.{text_bytes}
use Rattle.pc_tree.specs.declared.tree.Ann.{Ann as RustAnn, Row_of-Ann, end_of-Ann, more_of-Ann}
use Rattle.pc_tree.specs.declared.tree.Ann.TheVariants as rust_ann
use Rattle.pc_tree.specs.declared.tree.Expr.{Expr as RustExpr, Row_of-Expr, end_of-Expr, more_of-Expr, Row_of-Entry}
use Rattle.pc_tree.specs.declared.tree.Expr.{end_of-Entry, more_of-Entry, Row_of-KeywordArgument}
use Rattle.pc_tree.specs.declared.tree.Expr.{end_of-KeywordArgument, more_of-KeywordArgument}
use Rattle.pc_tree.specs.declared.tree.Expr.TheVariants as rust
use Rattle.pc_tree.specs.declared.tree.Target.{Target as RustTarget}
use Rattle.pc_tree.specs.declared.tree.Target.TheVariants as rust_target
use Rattle.pc_tree.specs.declared.tree.Literal.{Literal as RustLiteral}
use Rattle.pc_tree.specs.declared.tree.LiteralKind.{LiteralKind}
use Rattle.pc_tree.specs.declared.tree.LiteralKind.TheVariants as rust_literal
use Rattle.pc_tree.specs.declared.tree.Param.{Param as RustParam}
use Rattle.pc_tree.specs.declared.tree.FuncDef.{FuncDef as RustFuncDef}
use Rattle.pc_tree.specs.declared.tree.Field.{Field as RustField}
use Rattle.pc_tree.specs.declared.tree.Member.{Member as RustMember}
use Rattle.pc_tree.specs.declared.tree.Member.TheVariants as rust_member
use Rattle.pc_tree.specs.declared.tree.ClassDef.{ClassDef as RustClassDef}
use Rattle.pc_tree.specs.declared.tree.Constant.{Constant as RustConstant}
use Rattle.pc_tree.specs.declared.tree.Item.{Item as RustItem}
use Rattle.pc_tree.specs.declared.tree.ItemKind.{ItemKind}
use Rattle.pc_tree.specs.declared.tree.ItemKind.TheVariants as rust_item
use Rattle.pc_tree.specs.declared.tree.Module.{Module as RustModule}
use Rattle.pc_tree.specs.declared.tree.Stmt.{Stmt as RustStmt}
use Rattle.pc_tree.specs.declared.tree.StmtKind.{StmtKind, Row_of-Stmt, end_of-Stmt, more_of-Stmt, Row_of-Branch}
use Rattle.pc_tree.specs.declared.tree.StmtKind.{end_of-Branch, more_of-Branch}
use Rattle.pc_tree.specs.declared.tree.Branch.{Branch'}
use Rattle.pc_tree.specs.declared.tree.StmtKind.TheVariants as rust_stmt

-- a name at its place, in the normal form by which names are compared
pub record Name : Type 0 where
  pub place : Place
  pub text : List ℕ

-- expressions, and the lists of their parts
mutual
  -- an expression with its place
  pub data Expr : Type 0 where
    name : (n : Name) → Expr
    number : (place : Place) (digits : List ℕ) → Expr
    text : (place : Place) (characters : List ℕ) → Expr
    truth : (place : Place) (value : Bool) → Expr
    nothing : (place : Place) → Expr
    tuple : (place : Place) (items : Exprs) → Expr
    list : (place : Place) (items : Exprs) → Expr
    dict : (place : Place) (entries : Entries) → Expr
    negative : (place : Place) (operand : Expr) → Expr
    negation : (place : Place) (operand : Expr) → Expr
    binary : (place : Place) (operator : BinaryOperator) (left right : Expr) → Expr
    compare : (place : Place) (operator : ComparisonOperator) (left right : Expr) → Expr
    is_none : (place : Place) (operand : Expr) → Expr
    is_not_none : (place : Place) (operand : Expr) → Expr
    conjunction : (place : Place) (left right : Expr) → Expr
    disjunction : (place : Place) (left right : Expr) → Expr
    attribute : (place : Place) (object : Expr) (field : Name) → Expr
    index : (place : Place) (object key : Expr) → Expr
    call : (place : Place) (callee : Expr) (arguments : Exprs) (keywords : Keywords) → Expr

  -- a list of expressions
  pub data Exprs : Type 0 where
    no_exprs : Exprs
    more_exprs : (first : Expr) (rest : Exprs) → Exprs

  -- the keys and values of a dict display
  pub data Entries : Type 0 where
    no_entries : Entries
    more_entries : (key value : Expr) (rest : Entries) → Entries

  -- the arguments of a call that are passed by name
  pub data Keywords : Type 0 where
    no_keywords : Keywords
    more_keywords : (parameter : Name) (value : Expr) (rest : Keywords) → Keywords

-- annotations, and lists of them
mutual
  -- an annotation with its place: a name, `None`, `N[A, ..]`, `N[()]`, or parts with `|` between them
  pub data Ann : Type 0 where
    named : (n : Name) → Ann
    none_type : (place : Place) → Ann
    applied : (place : Place) (head : Name) (arguments : Anns) → Ann
    applied_empty : (place : Place) (head : Name) → Ann
    union : (place : Place) (parts : Anns) → Ann

  -- a list of annotations
  pub data Anns : Type 0 where
    no_anns : Anns
    more_anns : (first : Ann) (rest : Anns) → Anns

-- the target of an assignment: a name, `e.f` or `e[i]`
pub data Target : Type 0 where
  to_name : (n : Name) → Target
  to_attribute : (place : Place) (object : Expr) (field : Name) → Target
  to_index : (place : Place) (object key : Expr) → Target

-- a literal with its place
pub data Literal : Type 0 where
  number_literal : (place : Place) (digits : List ℕ) → Literal
  negative_literal : (place : Place) (digits : List ℕ) → Literal
  text_literal : (place : Place) (characters : List ℕ) → Literal
  truth_literal : (place : Place) (value : Bool) → Literal
  none_literal : (place : Place) → Literal

-- statements, suites and branches
mutual
  -- a statement, with the place of its first token
  pub data Stmt : Type 0 where
    pass : (first : Place) → Stmt
    breaks : (first : Place) → Stmt
    continues : (first : Place) → Stmt
    returns : (first : Place) (value : Option Expr) → Stmt
    asserts : (first : Place) (condition : Expr) (message : Option Expr) → Stmt
    annotated : (first : Place) (target : Name) (annotation : Ann) (value : Option Expr) → Stmt
    assigns : (first : Place) (target : Target) (value : Expr) → Stmt
    evaluates : (first : Place) (value : Expr) → Stmt
    while_loop : (first : Place) (condition : Expr) (body : Stmts) → Stmt
    for_loop : (first : Place) (target : Name) (iterable : Expr) (body : Stmts) → Stmt
    -- `if`, each `elif`, and the suite of `else`, which is empty if there is none
    conditional : (first : Place) (branches : Branches) (otherwise : Stmts) → Stmt

  -- the statements of a suite
  pub data Stmts : Type 0 where
    no_stmts : Stmts
    more_stmts : (first : Stmt) (rest : Stmts) → Stmts

  -- conditions, each with its suite
  pub data Branches : Type 0 where
    no_branches : Branches
    more_branches : (condition : Expr) (body : Stmts) (rest : Branches) → Branches

-- a parameter: its name, its annotation and its default, if it has them
pub record Param : Type 0 where
  pub name : Name
  pub annotation : Option Ann
  pub default : Option Literal

-- a function, or a method without its `self`
pub record FuncDef : Type 0 where
  pub name : Name
  pub params : List Param
  pub returns : Option Ann
  pub body : Stmts

-- a field: its name, its annotation, and its default if it has one
pub record Field : Type 0 where
  pub name : Name
  pub annotation : Ann
  pub default : Option Literal

-- a member of a class: a field or a method
pub data Member : Type 0 where
  field_member : (f : Field) → Member
  method_member : (f : FuncDef) → Member

-- a class: the place of the word `dataclass`, its name, its base if it names one, its members
pub record ClassDef : Type 0 where
  pub decorator : Place
  pub name : Name
  pub base : Option Name
  pub members : List Member

-- a constant: its name, its annotation if it has one, and its value
pub record Constant : Type 0 where
  pub name : Name
  pub annotation : Option Ann
  pub value : Expr

-- an item of the module, with the place of its first token
pub data Item : Type 0 where
  constant_item : (first : Place) (c : Constant) → Item
  class_item : (first : Place) (c : ClassDef) → Item
  def_item : (first : Place) (f : FuncDef) → Item

-- a module: its headers, its items in text order, and the place of `main` in its last line
pub record Module : Type 0 where
  pub imports_dataclass : Bool
  pub imports_any : Bool
  pub items : List Item
  pub main : Place

-- ---- the trees of the program's values

-- the tree of a name
abbrev pub name_of : RustName → Name
name_of n = record { place = n.place; text = text_bytes n.text }

-- the trees of the program's expressions, and of rows of their parts
abbrev mutual
  -- the tree of an expression
  pub expr_of : RustExpr → Expr
  expr_of (rust.Name n) = name (name_of n)
  expr_of (rust.Int p digits) = number p (string_bytes digits)
  expr_of (rust.Str p characters) = text p (string_bytes characters)
  expr_of (rust.True p) = truth p true
  expr_of (rust.False p) = truth p false
  expr_of (rust.NoneValue p) = nothing p
  expr_of (rust.Tuple' p shape items) = tuple p (exprs_of items)
  expr_of (rust.List' p shape items) = list p (exprs_of items)
  expr_of (rust.Dict' p shape entries) = dict p (entries_of entries)
  expr_of (rust.Negative' p q e) = negative p (expr_of e)
  expr_of (rust.Not' p q e) = negation p (expr_of e)
  expr_of (rust.Binary' p operator q l s r) = binary p operator (expr_of l) (expr_of r)
  expr_of (rust.Compare' p operator q l s r) = compare p operator (expr_of l) (expr_of r)
  expr_of (rust.IsNone' p q e) = is_none p (expr_of e)
  expr_of (rust.IsNotNone' p q e) = is_not_none p (expr_of e)
  expr_of (rust.And' p q l s r) = conjunction p (expr_of l) (expr_of r)
  expr_of (rust.Or' p q l s r) = disjunction p (expr_of l) (expr_of r)
  expr_of (rust.Attribute' p q e field) = attribute p (expr_of e) (name_of field)
  expr_of (rust.Index' p q e s i) = index p (expr_of e) (expr_of i)
  expr_of (rust.Call' p q e shape arguments shape' keywords) =
      call p (expr_of e) (exprs_of arguments) (keywords_of keywords)

  -- the trees of a row of expressions
  pub exprs_of : {m : _} → Row_of-Expr m → Exprs
  exprs_of end_of-Expr = no_exprs
  exprs_of (more_of-Expr e rest) = more_exprs (expr_of e) (exprs_of rest)

  -- the trees of a row of keys and values
  pub entries_of : {m : _} → Row_of-Entry m → Entries
  entries_of end_of-Entry = no_entries
  entries_of (more_of-Entry key value rest) = more_entries (expr_of key) (expr_of value) (entries_of rest)

  -- the trees of a row of arguments by name
  pub keywords_of : {m : _} → Row_of-KeywordArgument m → Keywords
  keywords_of end_of-KeywordArgument = no_keywords
  keywords_of (more_of-KeywordArgument parameter value rest) =
      more_keywords (name_of parameter) (expr_of value) (keywords_of rest)

-- the trees of the program's annotations, and of rows of them
abbrev mutual
  -- the tree of an annotation
  pub ann_of : RustAnn → Ann
  ann_of (rust_ann.Name n) = named (name_of n)
  ann_of (rust_ann.NoneValue p) = none_type p
  ann_of (rust_ann.Apply' p head shape arguments) = applied p (name_of head) (anns_of arguments)
  ann_of (rust_ann.ApplyEmpty p head) = applied_empty p (name_of head)
  ann_of (rust_ann.Union' p shape parts) = union p (anns_of parts)

  -- the trees of a row of annotations
  pub anns_of : {m : _} → Row_of-Ann m → Anns
  anns_of end_of-Ann = no_anns
  anns_of (more_of-Ann a rest) = more_anns (ann_of a) (anns_of rest)

-- the tree of a target
abbrev pub target_of : RustTarget → Target
target_of (rust_target.Name n) = to_name (name_of n)
target_of (rust_target.Attribute p e field) = to_attribute p (expr_of e.value) (name_of field)
target_of (rust_target.Index p e i) = to_index p (expr_of e.value) (expr_of i.value)

-- the tree of an expression, if there is one
abbrev pub option_expr_of : Option (Box RustExpr) → Option Expr
option_expr_of None = None
option_expr_of (Some e) = Some (expr_of e.value)

-- the tree of an annotation, if there is one
abbrev pub option_ann_of : Option RustAnn → Option Ann
option_ann_of None = None
option_ann_of (Some a) = Some (ann_of a)

-- the tree of a name, if there is one
abbrev pub option_name_of : Option RustName → Option Name
option_name_of None = None
option_name_of (Some n) = Some (name_of n)

-- the tree of a literal of this kind at this place
abbrev pub literal_of_kind : Place → LiteralKind → Literal
literal_of_kind p (rust_literal.Int digits) = number_literal p (string_bytes digits)
literal_of_kind p (rust_literal.NegativeInt digits) = negative_literal p (string_bytes digits)
literal_of_kind p (rust_literal.Str characters) = text_literal p (string_bytes characters)
literal_of_kind p rust_literal.True = truth_literal p true
literal_of_kind p rust_literal.False = truth_literal p false
literal_of_kind p rust_literal.NoneValue = none_literal p

-- the tree of a literal
abbrev pub literal_of : RustLiteral → Literal
literal_of l = literal_of_kind l.place l.kind

-- the tree of a literal, if there is one
abbrev pub option_literal_of : Option RustLiteral → Option Literal
option_literal_of None = None
option_literal_of (Some l) = Some (literal_of l)

-- the trees of the program's statements, and of rows of statements and branches
abbrev mutual
  -- the tree of a statement of this kind, with the place of its first token
  pub stmt_of_kind : Place → StmtKind → Stmt
  stmt_of_kind p rust_stmt.Pass = pass p
  stmt_of_kind p rust_stmt.Break = breaks p
  stmt_of_kind p rust_stmt.Continue = continues p
  stmt_of_kind p (rust_stmt.Return value) = returns p (option_expr_of value)
  stmt_of_kind p (rust_stmt.Assert condition message) =
      asserts p (expr_of condition.value) (option_expr_of message)
  stmt_of_kind p (rust_stmt.Annotated target annotation value) =
      annotated p (name_of target) (ann_of annotation.value) (option_expr_of value)
  stmt_of_kind p (rust_stmt.Assign target value) = assigns p (target_of target) (expr_of value.value)
  stmt_of_kind p (rust_stmt.Expr value) = evaluates p (expr_of value)
  stmt_of_kind p (rust_stmt.While' condition shape body) = while_loop p (expr_of condition.value) (stmts_of body)
  stmt_of_kind p (rust_stmt.For' target iterable shape body) =
      for_loop p (name_of target) (expr_of iterable.value) (stmts_of body)
  stmt_of_kind p (rust_stmt.If' shape branches shape' otherwise) =
      conditional p (branches_of branches) (stmts_of otherwise)

  -- the trees of a row of statements
  pub stmts_of : {m : _} → Row_of-Stmt m → Stmts
  stmts_of end_of-Stmt = no_stmts
  stmts_of (more_of-Stmt first kind rest) = more_stmts (stmt_of_kind first kind) (stmts_of rest)

  -- the trees of a row of branches
  pub branches_of : {m : _} → Row_of-Branch m → Branches
  branches_of end_of-Branch = no_branches
  branches_of (more_of-Branch (Branch' condition shape body) rest) =
      more_branches (expr_of condition) (stmts_of body) (branches_of rest)

-- the tree of a statement
abbrev pub stmt_of : RustStmt → Stmt
stmt_of s = stmt_of_kind s.first s.kind

-- the trees of a list of statements
abbrev pub stmts_of_list : List RustStmt → Stmts
stmts_of_list [] = no_stmts
stmts_of_list (s ∷ rest) = more_stmts (stmt_of s) (stmts_of_list rest)

-- the tree of a parameter
abbrev pub param_of : RustParam → Param
param_of p = record {
  name = name_of p.name;
  annotation = option_ann_of p.annotation;
  default = option_literal_of p.default;
}

-- the tree of a function
abbrev pub func_of : RustFuncDef → FuncDef
func_of f = record {
  name = name_of f.name;
  params = map param_of f.params.items;
  returns = option_ann_of f.returns;
  body = stmts_of_list f.body.items;
}

-- the tree of a field
abbrev pub field_of : RustField → Field
field_of f = record { name = name_of f.name; annotation = ann_of f.annotation; default = option_literal_of f.default }

-- the tree of a member of a class
abbrev pub member_of : RustMember → Member
member_of (rust_member.Field f) = field_member (field_of f)
member_of (rust_member.Method f) = method_member (func_of f)

-- the tree of a class
abbrev pub class_of : RustClassDef → ClassDef
class_of c = record {
  decorator = c.decorator;
  name = name_of c.name;
  base = option_name_of c.base;
  members = map member_of c.members.items;
}

-- the tree of a constant
abbrev pub constant_of : RustConstant → Constant
constant_of c = record { name = name_of c.name; annotation = option_ann_of c.annotation; value = expr_of c.value }

-- the tree of an item of this kind, with the place of its first token
abbrev pub item_of_kind : Place → ItemKind → Item
item_of_kind p (rust_item.Constant c) = constant_item p (constant_of c)
item_of_kind p (rust_item.Class c) = class_item p (class_of c)
item_of_kind p (rust_item.Def f) = def_item p (func_of f)

-- the tree of an item of the module
abbrev pub item_of : RustItem → Item
item_of i = item_of_kind i.first i.kind

-- the tree of a module
abbrev pub module_of : RustModule → Module
module_of m = record {
  imports_dataclass = m.imports_dataclass;
  imports_any = m.imports_any;
  items = map item_of m.items.items;
  main = m.main;
}
