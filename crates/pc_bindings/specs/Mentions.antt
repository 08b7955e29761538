-- The names that occur in a module, each with its scope, in text order.
-- Language Reference 3.12, 4.2 "Naming and binding".
use Rattle.std.specs.Prelude.{Bool, false, List, [], ◌∷◌, ◌++◌, Option, None, Some, codes, bytes_eq, if◌then◌else◌}
use Rattle.pc_tree.specs.Tree.{Name, Expr, name, number, text, truth, nothing, tuple, list, dict, negative, negation}
use Rattle.pc_tree.specs.Tree.{binary, compare, is_none, is_not_none, conjunction, disjunction, attribute, index, call}
use Rattle.pc_tree.specs.Tree.{Exprs, no_exprs, more_exprs, Entries, no_entries, more_entries, Keywords, no_keywords}
use Rattle.pc_tree.specs.Tree.{more_keywords, Ann, named, none_type, applied, applied_empty, union, Anns, no_anns}
use Rattle.pc_tree.specs.Tree.{more_anns, Target, to_name, to_attribute, to_index, Stmt, pass, breaks, continues}
use Rattle.pc_tree.specs.Tree.{returns, asserts, annotated, assigns, evaluates, while_loop, for_loop, conditional}
use Rattle.pc_tree.specs.Tree.{Stmts, no_stmts, more_stmts, Branches, no_branches, more_branches, Param, FuncDef}
use Rattle.pc_tree.specs.Tree.{Member, field_member, method_member, ClassDef, Item, constant_item, class_item}
use Rattle.pc_tree.specs.Tree.{def_item, Module}

-- the scope that a name occurs in: the module, a function of it, a method of a class, or the members of a class
pub data Scope : Type 0 where
  in_module : Scope
  in_function : (f : FuncDef) → Scope
  in_method : (c : ClassDef) (f : FuncDef) → Scope
  of_class : (c : ClassDef) → Scope

-- a name, with the scope that it occurs in
pub record Mention : Type 0 where
  pub scope : Scope
  pub name : Name

-- a name in this scope, alone
abbrev pub mention_at : Scope → Name → Mention
mention_at scope n = record { scope = scope; name = n }

-- the expression is the name `self`
abbrev pub is_self : Expr → Bool
is_self (name n) = bytes_eq (codes "self") n.text
is_self _ = false

-- the class of a method's `self`, if the expression is that
abbrev pub class_of_self : Scope → Expr → Option ClassDef
class_of_self in_module e = None
class_of_self (in_function f) e = None
class_of_self (in_method c f) e = if is_self e then Some c else None
class_of_self (of_class c) e = None

-- the name of an attribute, if the class of the object is given by the tree
abbrev pub as_member : Option ClassDef → Name → List Mention
as_member None field = []
as_member (Some c) field = mention_at (of_class c) field ∷ []

-- the names in an expression, and those in lists of its parts
abbrev mutual
  -- the names in an expression
  pub in_expr : Scope → Expr → List Mention
  in_expr s (name n) = mention_at s n ∷ []
  in_expr s (number p digits) = []
  in_expr s (text p characters) = []
  in_expr s (truth p value) = []
  in_expr s (nothing p) = []
  in_expr s (tuple p xs) = in_exprs s xs
  in_expr s (list p xs) = in_exprs s xs
  in_expr s (dict p es) = in_entries s es
  in_expr s (negative p e) = in_expr s e
  in_expr s (negation p e) = in_expr s e
  in_expr s (binary p operator l r) = in_expr s l ++ in_expr s r
  in_expr s (compare p operator l r) = in_expr s l ++ in_expr s r
  in_expr s (is_none p e) = in_expr s e
  in_expr s (is_not_none p e) = in_expr s e
  in_expr s (conjunction p l r) = in_expr s l ++ in_expr s r
  in_expr s (disjunction p l r) = in_expr s l ++ in_expr s r
  in_expr s (attribute p e field) = in_expr s e ++ as_member (class_of_self s e) field
  in_expr s (index p e i) = in_expr s e ++ in_expr s i
  in_expr s (call p e xs ks) = in_expr s e ++ (in_exprs s xs ++ in_values s ks)

  -- the names in several expressions
  pub in_exprs : Scope → Exprs → List Mention
  in_exprs s no_exprs = []
  in_exprs s (more_exprs x xs) = in_expr s x ++ in_exprs s xs

  -- the names in the keys and values of a dict display
  pub in_entries : Scope → Entries → List Mention
  in_entries s no_entries = []
  in_entries s (more_entries x y es) = in_expr s x ++ (in_expr s y ++ in_entries s es)

  -- the names in the values of arguments by name
  pub in_values : Scope → Keywords → List Mention
  in_values s no_keywords = []
  in_values s (more_keywords parameter e ks) = in_expr s e ++ in_values s ks

-- the names in an expression that may be missing
abbrev pub in_option : Scope → Option Expr → List Mention
in_option s None = []
in_option s (Some e) = in_expr s e

-- the names in an annotation, whose scope is the module, and those in a list of annotations
abbrev mutual
  -- the names in an annotation
  pub in_ann : Ann → List Mention
  in_ann (named n) = mention_at in_module n ∷ []
  in_ann (none_type p) = []
  in_ann (applied p head arguments) = mention_at in_module head ∷ in_anns arguments
  in_ann (applied_empty p head) = mention_at in_module head ∷ []
  in_ann (union p parts) = in_anns parts

  -- the names in several annotations
  pub in_anns : Anns → List Mention
  in_anns no_anns = []
  in_anns (more_anns a rest) = in_ann a ++ in_anns rest

-- the names in an annotation that may be missing
abbrev pub in_option_ann : Option Ann → List Mention
in_option_ann None = []
in_option_ann (Some a) = in_ann a

-- the names in the target of an assignment
abbrev pub in_target : Scope → Target → List Mention
in_target s (to_name n) = mention_at s n ∷ []
in_target s (to_attribute p e field) = in_expr s e ++ as_member (class_of_self s e) field
in_target s (to_index p e i) = in_expr s e ++ in_expr s i

-- the names in the head of a `for` loop
abbrev pub in_head : Scope → Name → Expr → List Mention
in_head s n iterable = (mention_at s n ∷ []) ++ in_expr s iterable

-- the names in statements, suites and branches
abbrev mutual
  -- the names in a statement
  pub in_stmt : Scope → Stmt → List Mention
  in_stmt s (pass p) = []
  in_stmt s (breaks p) = []
  in_stmt s (continues p) = []
  in_stmt s (returns p value) = in_option s value
  in_stmt s (asserts p condition message) = in_expr s condition ++ in_option s message
  in_stmt s (annotated p n a value) = (mention_at s n ∷ []) ++ (in_ann a ++ in_option s value)
  in_stmt s (assigns p target value) = in_target s target ++ in_expr s value
  in_stmt s (evaluates p value) = in_expr s value
  in_stmt s (while_loop p condition body) = in_expr s condition ++ in_stmts s body
  in_stmt s (for_loop p n iterable body) = in_head s n iterable ++ in_stmts s body
  in_stmt s (conditional p branches otherwise) = in_branches s branches ++ in_stmts s otherwise

  -- the names in the statements of a suite
  pub in_stmts : Scope → Stmts → List Mention
  in_stmts s no_stmts = []
  in_stmts s (more_stmts it rest) = in_stmt s it ++ in_stmts s rest

  -- the names in conditions and their suites
  pub in_branches : Scope → Branches → List Mention
  in_branches s no_branches = []
  in_branches s (more_branches condition body rest) = in_expr s condition ++ (in_stmts s body ++ in_branches s rest)

-- the names of parameters, and those in their annotations
abbrev pub in_params : Scope → List Param → List Mention
in_params s [] = []
in_params s (p ∷ ps) = (mention_at s p.name ∷ []) ++ (in_option_ann p.annotation ++ in_params s ps)

-- the names in a function or method after its own name, in the scope of the function or method
abbrev pub in_def : Scope → FuncDef → List Mention
in_def s f = in_params s f.params ++ (in_option_ann f.returns ++ in_stmts s f.body)

-- the names in a member of a class
abbrev pub in_member : ClassDef → Member → List Mention
in_member c (field_member f) = (mention_at (of_class c) f.name ∷ []) ++ in_ann f.annotation
in_member c (method_member f) = (mention_at (of_class c) f.name ∷ []) ++ in_def (in_method c f) f

-- the names in members of a class
abbrev pub in_members : ClassDef → List Member → List Mention
in_members c [] = []
in_members c (it ∷ rest) = in_member c it ++ in_members c rest

-- the name of a base, if a class has one
abbrev pub in_base : Option Name → List Mention
in_base None = []
in_base (Some n) = mention_at in_module n ∷ []

-- the names in a class after its own name
abbrev pub in_class : ClassDef → List Mention
in_class c = in_base c.base ++ in_members c c.members

-- the names in an item of the module
abbrev pub in_item : Item → List Mention
in_item (constant_item first k) = (mention_at in_module k.name ∷ []) ++ (in_option_ann k.annotation
    ++ in_expr in_module k.value)
in_item (class_item first c) = (mention_at in_module c.name ∷ []) ++ in_class c
in_item (def_item first f) = (mention_at in_module f.name ∷ []) ++ in_def (in_function f) f

-- the names in items
abbrev pub in_items : List Item → List Mention
in_items [] = []
in_items (it ∷ rest) = in_item it ++ in_items rest

-- the names that occur in a module, in text order; the names of arguments by name, and of attributes of anything but
-- `self`, are left out
abbrev pub mentions_in : Module → List Mention
mentions_in m = in_items m.items
