-- The nodes of a module at a place: expressions, targets, statements, annotations, functions. Own rule of the profile.
use Rattle.std.specs.Prelude.{ℕ, List, [], ◌∷◌, ◌++◌, map, flat_map, filter, find, false, Option, Some, None}
use Rattle.std.specs.Prelude.{option_to_list}
use Rattle.pc_source.specs.declared.place.Place.{Place}
use Rattle.pc_tree.specs.Tree.{Expr, Ann, Anns, named, none_type, applied, applied_empty, union, no_anns, more_anns}
use Rattle.pc_tree.specs.Tree.{Target, Stmt, Stmts, Branches, annotated}
use Rattle.pc_tree.specs.Tree.{assigns, while_loop, for_loop, conditional, no_stmts, more_stmts}
use Rattle.pc_tree.specs.Tree.{no_branches, more_branches, FuncDef, Member, field_member, method_member, Item}
use Rattle.pc_tree.specs.Tree.{constant_item, class_item, def_item, Module}
use Rattle.pc_tree.specs.Depth.{place_of, place_of_ann, place_of_target}
use Rattle.pc_scope.specs.declared.resolution.Owner.{Owner}
use Rattle.pc_scope.specs.declared.resolution.Owner.TheVariants as owners
use Rattle.pc_scope.specs.Bindings.{constants_in, Body, bodies}
use Rattle.pc_scope.specs.Expressions.{parts_in, exprs_in_all}
use Rattle.pc_annotations.specs.Text.{class_text}
use Rattle.pc_notes.specs.Notes.{is_same_place}
use Rattle.pc_detail_texts.specs.Details.{FunctionName}

-- ---- expressions

-- an expression, with the function or method that contains it
pub record OwnedExpr : Type 0 where
  pub owner : Owner
  pub expr : Expr

-- an expression with its owner
abbrev pub owned : Owner → Expr → OwnedExpr
owned owner e = record { owner = owner; expr = e }

-- the expressions of the body of a function, with their parts
abbrev pub exprs_of_body : Body → List OwnedExpr
exprs_of_body b = map (owned b.owner) (flat_map (parts_in false) (exprs_in_all false b.function.body))

-- the expressions of a module with their parts: those of initializers, and then those of bodies
abbrev pub exprs_of_module : Module → List OwnedExpr
exprs_of_module m =
    map (owned owners.Module) (flat_map (λ c. parts_in false c.value) (constants_in m.items))
    ++ flat_map exprs_of_body (bodies m)

-- the expressions at a place
abbrev pub exprs_at : Module → Place → List OwnedExpr
exprs_at m p = filter (λ (o : OwnedExpr). is_same_place p (place_of o.expr)) (exprs_of_module m)

-- ---- statements

-- the statements of a suite, each before those in its own suites
abbrev mutual
  -- a statement, and the statements in its suites
  pub stmts_in : Stmt → List Stmt
  stmts_in (while_loop p c b) = while_loop p c b ∷ stmts_in_suite b
  stmts_in (for_loop p n e b) = for_loop p n e b ∷ stmts_in_suite b
  stmts_in (conditional p bs o) = conditional p bs o ∷ (stmts_in_branches bs ++ stmts_in_suite o)
  stmts_in s = s ∷ []

  -- the statements of a suite, and those in their suites
  pub stmts_in_suite : Stmts → List Stmt
  stmts_in_suite no_stmts = []
  stmts_in_suite (more_stmts s rest) = stmts_in s ++ stmts_in_suite rest

  -- the statements in the suites of branches
  pub stmts_in_branches : Branches → List Stmt
  stmts_in_branches no_branches = []
  stmts_in_branches (more_branches c b rest) = stmts_in_suite b ++ stmts_in_branches rest

-- the target of a statement, if it assigns
abbrev pub targets_of : Stmt → List Target
targets_of (assigns p t e) = t ∷ []
targets_of s = []

-- the targets of a module
abbrev pub targets_in : Module → List Target
targets_in m = flat_map targets_of (flat_map (λ b. stmts_in_suite b.function.body) (bodies m))

-- the targets at a place
abbrev pub targets_at : Module → Place → List Target
targets_at m p = filter (λ t. is_same_place p (place_of_target t)) (targets_in m)

-- ---- functions

-- the name of a function of this owner as it is shown; that of a method with its class
abbrev pub name_with : Module → Owner → List ℕ → FunctionName
name_with m (owners.Method c i) name = record { class = Some (class_text m c); name = name }
name_with m owner name = record { class = None; name = name }

-- the name of a function or method as it is shown
abbrev pub function_name : Module → Body → FunctionName
function_name m b = name_with m b.owner b.function.name.text

-- the first function or method whose name is at a place
abbrev pub body_named_at : Module → Place → Option Body
body_named_at m p = find (λ b. is_same_place p b.function.name.place) (bodies m)

-- ---- annotations

-- the annotation, and those in it
abbrev mutual
  -- an annotation, and its parts
  pub anns_in : Ann → List Ann
  anns_in (named n) = named n ∷ []
  anns_in (none_type p) = none_type p ∷ []
  anns_in (applied p head arguments) = applied p head arguments ∷ anns_in_all arguments
  anns_in (applied_empty p head) = applied_empty p head ∷ []
  anns_in (union p parts) = union p parts ∷ anns_in_all parts

  -- the annotations of a list, and their parts
  pub anns_in_all : Anns → List Ann
  anns_in_all no_anns = []
  anns_in_all (more_anns a rest) = anns_in a ++ anns_in_all rest

-- the annotation of a statement, if it has one
abbrev pub ann_of_stmt : Stmt → List Ann
ann_of_stmt (annotated p n a e) = a ∷ []
ann_of_stmt s = []

-- the annotations of a function: of its parameters, of its return, and in its body
abbrev pub anns_of_function : FuncDef → List Ann
anns_of_function f = flat_map (λ p. option_to_list p.annotation) f.params
    ++ (option_to_list f.returns ++ flat_map ann_of_stmt (stmts_in_suite f.body))

-- the annotations of a member of a class
abbrev pub anns_of_member : Member → List Ann
anns_of_member (field_member d) = d.annotation ∷ []
anns_of_member (method_member f) = anns_of_function f

-- the annotations of an item of a module
abbrev pub anns_of_item : Item → List Ann
anns_of_item (constant_item p c) = option_to_list c.annotation
anns_of_item (class_item p c) = flat_map anns_of_member c.members
anns_of_item (def_item p f) = anns_of_function f

-- the annotations at a place, whole or parts of others
abbrev pub anns_at : Module → Place → List Ann
anns_at m p = filter (λ a. is_same_place p (place_of_ann a)) (flat_map anns_in (flat_map anns_of_item m.items))
