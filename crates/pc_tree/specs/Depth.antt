-- The depth of expressions and annotations. Own rule of the profile: no whole one is deeper than 64.
use Rattle.std.specs.Prelude.{ℕ, ◌+◌, max, nat_lt, List, [], ◌∷◌, ◌++◌, Option, Some, None, if◌then◌else◌}
use Rattle.pc_source.specs.declared.place.Place.{Place}
use Rattle.pc_tree.specs.Tree.{Expr, name, number, text, truth, nothing, tuple, list, dict, negative, negation, binary}
use Rattle.pc_tree.specs.Tree.{compare, is_none, is_not_none, conjunction, disjunction, attribute, index, call, Exprs}
use Rattle.pc_tree.specs.Tree.{no_exprs, more_exprs, Entries, no_entries, more_entries, Keywords, no_keywords}
use Rattle.pc_tree.specs.Tree.{more_keywords, Ann, named, none_type, applied, applied_empty, union, Anns, no_anns}
use Rattle.pc_tree.specs.Tree.{more_anns, Target, to_name, to_attribute, to_index, Stmt, pass, breaks, continues}
use Rattle.pc_tree.specs.Tree.{returns, asserts, annotated, assigns, evaluates, while_loop, for_loop, conditional}
use Rattle.pc_tree.specs.Tree.{Stmts, no_stmts, more_stmts, Branches, no_branches, more_branches, Param, FuncDef}
use Rattle.pc_tree.specs.Tree.{Member, field_member, method_member, Item, constant_item, class_item, def_item, Module}

-- the greatest depth of a whole expression or annotation
abbrev pub depth_limit : ℕ
depth_limit = 64

-- the depth of an expression, and of a node over a list of parts
abbrev mutual
  -- the depth of an expression: 0 for a node without parts, otherwise one more than its deepest part
  pub depth_of : Expr → ℕ
  depth_of (name n) = 0
  depth_of (number p digits) = 0
  depth_of (text p characters) = 0
  depth_of (truth p b) = 0
  depth_of (nothing p) = 0
  depth_of (tuple p xs) = depth_over xs
  depth_of (list p xs) = depth_over xs
  depth_of (dict p es) = depth_over_entries es
  depth_of (negative p e) = depth_of e + 1
  depth_of (negation p e) = depth_of e + 1
  depth_of (binary p o l r) = max (depth_of l) (depth_of r) + 1
  depth_of (compare p o l r) = max (depth_of l) (depth_of r) + 1
  depth_of (is_none p e) = depth_of e + 1
  depth_of (is_not_none p e) = depth_of e + 1
  depth_of (conjunction p l r) = max (depth_of l) (depth_of r) + 1
  depth_of (disjunction p l r) = max (depth_of l) (depth_of r) + 1
  depth_of (attribute p e f) = depth_of e + 1
  depth_of (index p e i) = max (depth_of e) (depth_of i) + 1
  depth_of (call p e xs ks) = max (depth_of e + 1) (max (depth_over xs) (depth_over_keywords ks))

  -- the depth of a node whose parts are these expressions
  pub depth_over : Exprs → ℕ
  depth_over no_exprs = 0
  depth_over (more_exprs x xs) = max (depth_of x + 1) (depth_over xs)

  -- the depth of a node whose parts are these keys and values
  pub depth_over_entries : Entries → ℕ
  depth_over_entries no_entries = 0
  depth_over_entries (more_entries x y es) = max (max (depth_of x) (depth_of y) + 1) (depth_over_entries es)

  -- the depth of a node whose parts are the values of these arguments
  pub depth_over_keywords : Keywords → ℕ
  depth_over_keywords no_keywords = 0
  depth_over_keywords (more_keywords n e ks) = max (depth_of e + 1) (depth_over_keywords ks)

-- the depth of an annotation, and of one over a list of parts
abbrev mutual
  -- the depth of an annotation: 0 for a name, `None` and `N[()]`, otherwise one more than its deepest argument or part
  pub depth_of_ann : Ann → ℕ
  depth_of_ann (named n) = 0
  depth_of_ann (none_type p) = 0
  depth_of_ann (applied p head arguments) = depth_over_anns arguments
  depth_of_ann (applied_empty p head) = 0
  depth_of_ann (union p parts) = depth_over_anns parts

  -- the depth of an annotation with these arguments or parts
  pub depth_over_anns : Anns → ℕ
  depth_over_anns no_anns = 0
  depth_over_anns (more_anns a rest) = max (depth_of_ann a + 1) (depth_over_anns rest)

-- the depth of a target, counted as that of an expression
abbrev pub depth_of_target : Target → ℕ
depth_of_target (to_name n) = 0
depth_of_target (to_attribute p e f) = depth_of e + 1
depth_of_target (to_index p e i) = max (depth_of e) (depth_of i) + 1

-- ---- places of nodes

-- the place of an expression, without the parentheses around it
abbrev pub place_of : Expr → Place
place_of (name n) = n.place
place_of (number p digits) = p
place_of (text p characters) = p
place_of (truth p b) = p
place_of (nothing p) = p
place_of (tuple p xs) = p
place_of (list p xs) = p
place_of (dict p es) = p
place_of (negative p e) = p
place_of (negation p e) = p
place_of (binary p o l r) = p
place_of (compare p o l r) = p
place_of (is_none p e) = p
place_of (is_not_none p e) = p
place_of (conjunction p l r) = p
place_of (disjunction p l r) = p
place_of (attribute p e f) = p
place_of (index p e i) = p
place_of (call p e xs ks) = p

-- the place of an annotation
abbrev pub place_of_ann : Ann → Place
place_of_ann (named n) = n.place
place_of_ann (none_type p) = p
place_of_ann (applied p head arguments) = p
place_of_ann (applied_empty p head) = p
place_of_ann (union p parts) = p

-- the place of a target
abbrev pub place_of_target : Target → Place
place_of_target (to_name n) = n.place
place_of_target (to_attribute p e f) = p
place_of_target (to_index p e i) = p

-- ---- the whole expressions and annotations of a module, in the order of the text

-- a whole expression, target or annotation: the byte where it begins, and its depth
pub record Whole : Type 0 where
  pub start : ℕ
  pub depth : ℕ

-- an expression as a whole one; it begins at its node, inside any parentheses around it
abbrev pub whole_expr : Expr → Whole
whole_expr e = record { start = (place_of e).start; depth = depth_of e }

-- an annotation as a whole one
abbrev pub whole_ann : Ann → Whole
whole_ann a = record { start = (place_of_ann a).start; depth = depth_of_ann a }

-- a target as a whole one
abbrev pub whole_target : Target → Whole
whole_target t = record { start = (place_of_target t).start; depth = depth_of_target t }

-- the whole expression, if there is one
abbrev pub optional_exprs : Option Expr → List Whole
optional_exprs None = []
optional_exprs (Some e) = whole_expr e ∷ []

-- the whole annotation, if there is one
abbrev pub optional_anns : Option Ann → List Whole
optional_anns None = []
optional_anns (Some a) = whole_ann a ∷ []

-- the whole expressions, targets and annotations in statements
abbrev mutual
  -- the whole expressions, targets and annotations of a statement, including those in its suites
  pub wholes_of_stmt : Stmt → List Whole
  wholes_of_stmt (pass p) = []
  wholes_of_stmt (breaks p) = []
  wholes_of_stmt (continues p) = []
  wholes_of_stmt (returns p value) = optional_exprs value
  wholes_of_stmt (asserts p condition message) = whole_expr condition ∷ optional_exprs message
  wholes_of_stmt (annotated p n a value) = whole_ann a ∷ optional_exprs value
  wholes_of_stmt (assigns p target value) = whole_target target ∷ whole_expr value ∷ []
  wholes_of_stmt (evaluates p value) = whole_expr value ∷ []
  wholes_of_stmt (while_loop p condition body) = whole_expr condition ∷ wholes_of_stmts body
  wholes_of_stmt (for_loop p target iterable body) = whole_expr iterable ∷ wholes_of_stmts body
  wholes_of_stmt (conditional p branches otherwise) = wholes_of_branches branches ++ wholes_of_stmts otherwise

  -- the whole expressions, targets and annotations of the statements of a suite
  pub wholes_of_stmts : Stmts → List Whole
  wholes_of_stmts no_stmts = []
  wholes_of_stmts (more_stmts s rest) = wholes_of_stmt s ++ wholes_of_stmts rest

  -- the whole expressions, targets and annotations of conditions and their suites
  pub wholes_of_branches : Branches → List Whole
  wholes_of_branches no_branches = []
  wholes_of_branches (more_branches condition body rest) = (whole_expr condition ∷ wholes_of_stmts body)
      ++ wholes_of_branches rest

-- the whole annotations of parameters; a default is a literal and not counted
abbrev pub wholes_of_params : List Param → List Whole
wholes_of_params [] = []
wholes_of_params (p ∷ ps) = optional_anns p.annotation ++ wholes_of_params ps

-- the whole expressions, targets and annotations of a function: its parameters', its return annotation, its body's
abbrev pub wholes_of_def : FuncDef → List Whole
wholes_of_def f = wholes_of_params f.params ++ (optional_anns f.returns ++ wholes_of_stmts f.body)

-- the whole expressions, targets and annotations of members: the annotations of fields, and all in methods
abbrev pub wholes_of_members : List Member → List Whole
wholes_of_members [] = []
wholes_of_members (field_member f ∷ ms) = whole_ann f.annotation ∷ wholes_of_members ms
wholes_of_members (method_member f ∷ ms) = wholes_of_def f ++ wholes_of_members ms

-- the whole expressions, targets and annotations of an item of the module
abbrev pub wholes_of_item : Item → List Whole
wholes_of_item (constant_item first c) = optional_anns c.annotation ++ (whole_expr c.value ∷ [])
wholes_of_item (class_item first c) = wholes_of_members c.members
wholes_of_item (def_item first f) = wholes_of_def f

-- the whole expressions, targets and annotations of the items of the module, in order
abbrev pub wholes_of_items : List Item → List Whole
wholes_of_items [] = []
wholes_of_items (i ∷ is) = wholes_of_item i ++ wholes_of_items is

-- the byte where the first of these that is too deep begins, if there is one
abbrev pub first_too_deep : List Whole → Option ℕ
first_too_deep [] = None
first_too_deep (w ∷ ws) = if nat_lt depth_limit w.depth then Some w.start else first_too_deep ws

-- the byte where the module's first whole expression, target or annotation that is too deep begins, if there is one
abbrev pub too_deep_at : Module → Option ℕ
too_deep_at m = first_too_deep (wholes_of_items m.items)
