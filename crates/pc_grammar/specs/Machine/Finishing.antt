-- Turns after a whole expression, annotation or suite.
use Rattle.std.specs.Prelude.{Bool, true, false, List, [], ◌∷◌, ◌++◌, Option, Some, None}
use Rattle.pc_source.specs.declared.place.Place.{Place}
use Rattle.pc_token.specs.declared.token.TokenKind.{TokenKind}
use Rattle.pc_token.specs.declared.token.TokenKind.TheVariants as kind
use Rattle.pc_token.specs.declared.token.Operator.TheVariants as sign
use Rattle.pc_tree.specs.Tree.{Name, Expr, name, attribute, index, Exprs, no_exprs, more_exprs, Entries, no_entries}
use Rattle.pc_tree.specs.Tree.{more_entries, Keywords, no_keywords, more_keywords, Ann, Anns, no_anns, more_anns}
use Rattle.pc_tree.specs.Tree.{Target, to_name, to_attribute, to_index, Literal, Stmt, returns, asserts, annotated}
use Rattle.pc_tree.specs.Tree.{assigns, evaluates, while_loop, for_loop, conditional, Stmts, no_stmts, more_stmts}
use Rattle.pc_tree.specs.Tree.{Branches, no_branches, more_branches, Param, FuncDef, Member, field_member}
use Rattle.pc_tree.specs.Tree.{method_member, ClassDef, Item, constant_item, class_item, def_item}
use Rattle.pc_tree.specs.NamesAlone.{name_of_tree}
use Rattle.pc_grammar.specs.Grammar.{first_place}
use Rattle.pc_grammar.specs.Machine.Kinds.{a_kind, same_kind, Ending, a_comma, a_colon, an_equal, a_line_end}
use Rattle.pc_grammar.specs.Machine.States.{after_headers, Top, ClassStart, FunctionOwner, of_module, of_class, DefStart}
use Rattle.pc_grammar.specs.Machine.States.{DefHead}
use Rattle.pc_grammar.specs.Machine.States.{Nest, while_body, for_body, branch_body, else_body, Block, def_body, nested}
use Rattle.pc_grammar.specs.Machine.States.{Site, Begun, assigned, annotated_value, returned, asserted, asserted_with}
use Rattle.pc_grammar.specs.Machine.States.{looping, iterating, branching, ExpressionPosition, in_line, in_statement}
use Rattle.pc_grammar.specs.Machine.States.{in_constant, AnnotationPosition, of_constant, of_field, of_param, of_return}
use Rattle.pc_grammar.specs.Machine.States.{of_local, LiteralContext, default_of_param, default_of_field, Part, whole}
use Rattle.pc_grammar.specs.Machine.States.{ann_whole, State, fixed, items, members, param_due, params_read}
use Rattle.pc_grammar.specs.Machine.States.{literal_due}
use Rattle.pc_grammar.specs.Machine.States.{stmts, after_branch, part_due, operand, Transition, stuck, go, on}

-- ---- lists that grow at their end

-- the expressions with one more at the end
abbrev pub add_expr : Exprs → Expr → Exprs
add_expr no_exprs e = more_exprs e no_exprs
add_expr (more_exprs x xs) e = more_exprs x (add_expr xs e)

-- the entries of a dict with one more at the end
abbrev pub add_entry : Entries → Expr → Expr → Entries
add_entry no_entries k v = more_entries k v no_entries
add_entry (more_entries x y es) k v = more_entries x y (add_entry es k v)

-- the arguments by name with one more at the end
abbrev pub add_keyword : Keywords → Name → Expr → Keywords
add_keyword no_keywords n e = more_keywords n e no_keywords
add_keyword (more_keywords m x ks) n e = more_keywords m x (add_keyword ks n e)

-- the annotations with one more at the end
abbrev pub add_ann : Anns → Ann → Anns
add_ann no_anns a = more_anns a no_anns
add_ann (more_anns x xs) a = more_anns x (add_ann xs a)

-- the statements with one more at the end
abbrev pub add_stmt : Stmts → Stmt → Stmts
add_stmt no_stmts s = more_stmts s no_stmts
add_stmt (more_stmts x xs) s = more_stmts x (add_stmt xs s)

-- the branches with one more at the end: a condition and its suite
abbrev pub add_branch : Branches → Expr → Stmts → Branches
add_branch no_branches c b = more_branches c b no_branches
add_branch (more_branches x y bs) c b = more_branches x y (add_branch bs c b)

-- the module so far with one more item at the end
abbrev pub add_item : Top → Item → Top
add_item top i = record top { items = top.items ++ (i ∷ []) }

-- ---- suites

-- the state after the `:` before the suite of this block
abbrev pub suite_of : Block → State
suite_of b = fixed (a_kind kind.Newline) (a_kind kind.Indent ∷ []) (stmts no_stmts b)

-- the state after this statement
abbrev pub after_stmt : Site → Stmt → State
after_stmt site s = stmts (add_stmt site.done s) site.block

-- the block of a suite nested in this begun statement
abbrev pub nested_in : Site → Nest → Block
nested_in site n = nested site.first n site.done site.block

-- the function with this head and this body
abbrev pub function_of : DefHead → Stmts → FuncDef
function_of h body = record { name = h.start.name; params = h.params; returns = h.returns; body = body }

-- the state after a function, which is one more item of the module or one more member of its class
abbrev pub after_def : FunctionOwner → Place → FuncDef → State
after_def (of_module top) first f = items after_headers (add_item top (def_item first f))
after_def (of_class c ms) first f = members c (ms ++ (method_member f ∷ []))

-- the class with this beginning and these members
abbrev pub class_def_of : ClassStart → List Member → ClassDef
class_def_of c ms = record { decorator = c.decorator; name = c.name; base = c.base; members = ms }

-- the state after a class, which is one more item of the module
abbrev pub after_class : ClassStart → List Member → State
after_class c ms = items after_headers (add_item c.top (class_item c.first (class_def_of c ms)))

-- the state after a nested suite: after a whole statement, or after a branch that others may follow
abbrev pub after_nested : Nest → Stmts → Site → State
after_nested (while_body condition) body site = after_stmt site (while_loop site.first condition body)
after_nested (for_body target iterable) body site = after_stmt site (for_loop site.first target iterable body)
after_nested (branch_body branches condition) body site = after_branch (add_branch branches condition body) site
after_nested (else_body branches) body site = after_stmt site (conditional site.first branches body)

-- the state after the suite of a block
abbrev pub after_suite : Block → Stmts → State
after_suite (def_body h) body = after_def h.start.owner h.start.first (function_of h body)
after_suite (nested first n done outer) body =
    after_nested n body (record { first = first; done = done; block = outer })

-- ---- whole expressions

-- the target that an expression is, if it is a name, `e.f` or `e[i]`
abbrev pub target_of_tree : Expr → Option Target
target_of_tree (name n) = Some (to_name n)
target_of_tree (attribute p e f) = Some (to_attribute p e f)
target_of_tree (index p e i) = Some (to_index p e i)
target_of_tree _ = None

-- the thing, if there are no parentheses around it
abbrev pub if_plain : {X : Type 0} → Bool → Option X → Option X
if_plain true x = x
if_plain false x = None

-- the turn at the `=` of an assignment: its value is due, unless no target is before the `=`
abbrev pub begin_value : Option Target → Site → Transition
begin_value (Some target) site = go (operand (whole (in_statement (assigned target) site)))
begin_value None site = stuck

-- the turn at the `:` after a local name: its annotation is due, unless no name is before the `:`
abbrev pub begin_annotation : Option Name → Site → Transition
begin_annotation (Some n) site = go (part_due no_anns [] (ann_whole (of_local n site)))
begin_annotation None site = stuck

-- the site of a line that begins with this expression
abbrev pub line_site : Stmts → Block → Part → Site
line_site done block p = record { first = first_place p.tokens; done = done; block = block }

-- the turn after the expression that begins a line: the end of the line, the `=` of an assignment, or the `:` of an
-- annotation
abbrev pub finish_line : Part → Site → Ending → Transition
finish_line p site a_line_end = go (after_stmt site (evaluates site.first p.tree))
finish_line p site an_equal = begin_value (if_plain p.plain (target_of_tree p.tree)) site
finish_line p site a_colon = begin_annotation (if_plain p.plain (name_of_tree p.tree)) site
finish_line p site _ = stuck

-- the turn to this state at the end of the line, where nothing else may follow
abbrev pub at_line_end : State → Ending → Transition
at_line_end s a_line_end = go s
at_line_end s _ = stuck

-- the turn to this state at a `:`, where nothing else may follow
abbrev pub at_colon : State → Ending → Transition
at_colon s a_colon = go s
at_colon s _ = stuck

-- the turn after the condition of an `assert`: the end of the line, or the comma before its message
abbrev pub finish_condition : Expr → Site → Ending → Transition
finish_condition e site a_line_end = go (after_stmt site (asserts site.first e None))
finish_condition e site a_comma = go (operand (whole (in_statement (asserted_with e) site)))
finish_condition e site _ = stuck

-- the turn after an expression of a begun statement: the end of the line, the `:` of a suite, or the comma of an
-- `assert`
abbrev pub finish_stmt : Begun → Part → Site → Ending → Transition
finish_stmt (assigned target) p site e = at_line_end (after_stmt site (assigns site.first target p.tree)) e
finish_stmt (annotated_value n a) p site e = at_line_end (after_stmt site (annotated site.first n a (Some p.tree))) e
finish_stmt returned p site e = at_line_end (after_stmt site (returns site.first (Some p.tree))) e
finish_stmt asserted p site e = finish_condition p.tree site e
finish_stmt (asserted_with condition) p site e =
    at_line_end (after_stmt site (asserts site.first condition (Some p.tree))) e
finish_stmt looping p site e = at_colon (suite_of (nested_in site (while_body p.tree))) e
finish_stmt (iterating target) p site e = at_colon (suite_of (nested_in site (for_body target p.tree))) e
finish_stmt (branching branches) p site e = at_colon (suite_of (nested_in site (branch_body branches p.tree))) e

-- the turn after a whole expression
abbrev pub finish : ExpressionPosition → Part → Ending → Transition
finish (in_line done block) p e = finish_line p (line_site done block p) e
finish (in_statement begun site) p e = finish_stmt begun p site e
finish (in_constant n annotation top) p e =
    at_line_end (items after_headers
    (add_item top (constant_item n.place (record { name = n; annotation = annotation; value = p.tree })))) e

-- ---- whole annotations and literals

-- the parameter of this name, with its annotation and its default if it has them
abbrev pub param : Name → Option Ann → Option Literal → Param
param n annotation default = record { name = n; annotation = annotation; default = default }

-- the turn after a parameter
abbrev pub param_end : DefStart → List Param → Param → TokenKind → Transition
param_end d ps p k = on (same_kind k (kind.Operator sign.Comma)) (param_due d (ps ++ (p ∷ [])))
    (on (same_kind k (kind.Operator sign.RightParenthesis)) (params_read d (ps ++ (p ∷ []))) stuck)

-- the turn after the name of a parameter and its annotation, if it has one
abbrev pub param_more : DefStart → List Param → Name → Option Ann → TokenKind → Transition
param_more d ps n annotation k =
    on (same_kind k (kind.Operator sign.Equal)) (literal_due (default_of_param d ps n annotation))
    (param_end d ps (param n annotation None) k)

-- the member that is a field of this name and annotation, with its default if it has one
abbrev pub field : Name → Ann → Option Literal → Member
field n annotation default = field_member (record { name = n; annotation = annotation; default = default })

-- the turn after a whole annotation
abbrev pub finish_ann : AnnotationPosition → Ann → TokenKind → Transition
finish_ann (of_constant n top) a k =
    on (same_kind k (kind.Operator sign.Equal)) (operand (whole (in_constant n (Some a) top))) stuck
finish_ann (of_field c ms n) a k = on (same_kind k (kind.Operator sign.Equal)) (literal_due (default_of_field c ms n a))
    (on (same_kind k kind.Newline) (members c (ms ++ (field n a None ∷ []))) stuck)
finish_ann (of_param d ps n) a k = param_more d ps n (Some a) k
finish_ann (of_return d ps) a k =
    on (same_kind k (kind.Operator sign.Colon))
    (suite_of (def_body (record { start = d; params = ps; returns = Some a }))) stuck
finish_ann (of_local n site) a k =
    on (same_kind k (kind.Operator sign.Equal)) (operand (whole (in_statement (annotated_value n a) site)))
    (on (same_kind k kind.Newline) (after_stmt site (annotated site.first n a None)) stuck)

-- the turn after a literal
abbrev pub finish_literal : LiteralContext → Literal → TokenKind → Transition
finish_literal (default_of_param d ps n annotation) l k = param_end d ps (param n annotation (Some l)) k
finish_literal (default_of_field c ms n a) l k =
    on (same_kind k kind.Newline) (members c (ms ++ (field n a (Some l) ∷ []))) stuck
