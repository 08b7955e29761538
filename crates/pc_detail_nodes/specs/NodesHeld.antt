-- The nodes of a module by their places, as the program holds them. Own rule of the profile.
use Rattle.std.specs.Prelude.{◌≡◌, List, [], ◌∷◌, ◌++◌, map, flat_map, is_some, unwrap_or}
use Rattle.std.specs.Prelude.{false, find, Contains, Option, Some, None, if◌then◌else◌}
use Rattle.std.specs.Option.{option_map}
use Rattle.std.specs.Borrow.{Bor}
use Rattle.std.specs.BTreeMap.{get}
use Rattle.pc_source.specs.declared.place.Place.{Place}
use Rattle.pc_tree.specs.declared.code.Finding.{Finding}
use Rattle.pc_tree.specs.declared.tree.Ann.{Ann as RustAnn}
use Rattle.pc_tree.specs.declared.tree.Expr.{Expr as RustExpr}
use Rattle.pc_tree.specs.declared.tree.Target.{Target as RustTarget}
use Rattle.pc_tree.specs.Suites.{branches_of_stmt, last_suite}
use Rattle.pc_tree.specs.Tree.{Ann, Expr, Stmt, Target, Constant, Module, ann_of, expr_of, target_of}
use Rattle.pc_tree.specs.Tree.{returns, asserts, annotated, assigns, evaluates, while_loop, for_loop}
use Rattle.pc_scope.specs.declared.resolution.Owner.TheVariants as owners
use Rattle.pc_scope.specs.Bindings.{Body}
use Rattle.pc_scope.specs.Expressions.{option_exprs, parts_in, target_exprs}
use Rattle.pc_notes.specs.Notes.{is_same_place}
use Rattle.pc_notes.specs.Texts.{place_cmp}
use Rattle.pc_detail_nodes.specs.declared.nodes.Nodes.{Nodes}
use Rattle.pc_detail_facts.specs.declared.definitions.OwnedExpr.{OwnedExpr as RustOwned}
use Rattle.pc_detail_nodes.specs.ByPlaces.{nodes_at}
use Rattle.pc_detail_rules.specs.Explains.{is_callee_at}
use Rattle.pc_detail_facts.specs.Held.{body_of, owned_of}
use Rattle.pc_detail_rules.specs.Nodes.{OwnedExpr, anns_at, body_named_at, exprs_at, exprs_of_body, owned, stmts_in_branches}
use Rattle.pc_detail_rules.specs.Nodes.{stmts_in_suite, targets_at}

-- ---- borrowed nodes

-- the tree of a borrowed expression
abbrev pub expr_lent : Bor RustExpr → Expr
expr_lent e = expr_of e.now

-- the tree of a borrowed target
abbrev pub target_lent : Bor RustTarget → Target
target_lent t = target_of t.now

-- the tree of a borrowed annotation
abbrev pub ann_lent : Bor RustAnn → Ann
ann_lent a = ann_of a.now

-- ---- parts

-- the expressions of a list after its first
abbrev pub after_first : List Expr → List Expr
after_first [] = []
after_first (e ∷ es) = es

-- the parts of an expression, and theirs
abbrev pub parts_inside : Expr → List Expr
parts_inside e = after_first (parts_in false e)

-- the expressions of a statement outside its suites and the conditions of its branches
abbrev pub own_exprs : Stmt → List Expr
own_exprs (returns p value) = option_exprs value
own_exprs (asserts p condition message) = condition ∷ option_exprs message
own_exprs (annotated p n annotation value) = option_exprs value
own_exprs (assigns p target value) = value ∷ target_exprs target
own_exprs (evaluates p value) = value ∷ []
own_exprs (while_loop p condition body) = condition ∷ []
own_exprs (for_loop p n iterable body) = iterable ∷ []
own_exprs s = []

-- the statements in the suites of a statement
abbrev pub stmts_below : Stmt → List Stmt
stmts_below s = stmts_in_branches (branches_of_stmt s) ++ stmts_in_suite (last_suite s)

-- the expressions of constants and bodies with their parts, each with its owner
abbrev pub exprs_of_all : List Constant → List Body → List OwnedExpr
exprs_of_all constants bodies = map (owned owners.Module) (flat_map (λ c. parts_in false c.value) constants)
    ++ flat_map exprs_of_body bodies

-- the statements of bodies
abbrev pub stmts_of_all : List Body → List Stmt
stmts_of_all bodies = flat_map (λ b. stmts_in_suite b.function.body) bodies

-- ---- by place

-- a function or method whose name is at a place
abbrev pub body_at : Place → Body → Option Body
body_at p b = if is_same_place p b.function.name.place then Some b else None

-- the first of some functions and methods whose name is at a place
abbrev pub body_among : Place → List Body → Option Body
body_among p bs = find (λ b. is_same_place p b.function.name.place) bs

-- the expressions that are held of a place
abbrev pub exprs_held : Nodes → Place → List RustOwned
exprs_held n p = unwrap_or (nodes_at n.exprs p) []

-- the targets that are held of a place
abbrev pub targets_held : Nodes → Place → List (Bor RustTarget)
targets_held n p = unwrap_or (nodes_at n.targets p) []

-- the annotations that are held of a place
abbrev pub anns_held : Nodes → Place → List (Bor RustAnn)
anns_held n p = unwrap_or (nodes_at n.anns p) []

-- the nodes at the places of findings are those of a module
pub record HoldsNodes (m : Module) (findings : List Finding) (n : Nodes) : Type 0 where
  pub exprs : (f : Finding) → Contains findings f → map owned_of (exprs_held n f.place) ≡ exprs_at m f.place
  pub targets : (f : Finding) → Contains findings f → map target_lent (targets_held n f.place) ≡ targets_at m f.place
  pub anns : (f : Finding) → Contains findings f → map ann_lent (anns_held n f.place) ≡ anns_at m f.place
  pub callees : (p : Place) → is_some (get place_cmp n.callees p) ≡ is_callee_at m p
  pub functions : (p : Place) → option_map body_of (get place_cmp n.functions p) ≡ body_named_at m p
