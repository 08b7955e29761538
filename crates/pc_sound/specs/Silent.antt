-- Silent findings: those whose place a run need not evaluate before the error does harm. Own rule of the profile.
use Rattle.std.specs.Prelude.{◌≡◌, ℕ, List, [], ◌∷◌, ◌++◌, false, Option, Some, None, Contains, All, IsTrue, length}
use Rattle.std.specs.Prelude.{take, slice_get}
use Rattle.pc_source.specs.declared.place.Place.{Place}
use Rattle.pc_tree.specs.declared.code.Code.{Code}
use Rattle.pc_tree.specs.declared.code.Code.TheVariants.{E01, E02, E03, E05, E06, E07, E08, E11, E12, E21, E25, E28}
use Rattle.pc_tree.specs.declared.code.Code.TheVariants.{E29, E31}
use Rattle.pc_tree.specs.declared.code.Finding.{Finding}
use Rattle.pc_tree.specs.Code.{finding}
use Rattle.pc_tree.specs.Stopping.{of_defs}
use Rattle.pc_tree.specs.Tree.{Name, Expr, name, call, no_exprs, more_exprs, no_keywords, Literal, Param, Constant}
use Rattle.pc_tree.specs.Tree.{FuncDef, Member, field_member, method_member, ClassDef, Item}
use Rattle.pc_tree.specs.Tree.{constant_item, class_item, def_item, Stmt, returns, while_loop, for_loop, conditional}
use Rattle.pc_tree.specs.Tree.{Stmts, no_stmts, more_stmts, Branches, no_branches, more_branches, Module}
use Rattle.pc_scope.specs.Bindings.{constants_in, classes_in, functions_in, methods_in}
use Rattle.pc_scope.specs.Expressions.{parts_in, is_instance_test}
use Rattle.pc_class.specs.Facts.{method_made}
use Rattle.pc_class.specs.Findings.{ClassNumbered, base_class}
use Rattle.pc_class.specs.Overrides.{has_shape_of, overridden}
use Rattle.pc_rules.specs.Signatures.{literal_place}
use Rattle.pc_module_rules.specs.Modules.{IsFinding}

-- a code that is silent wherever it is found
abbrev pub IsSilentCode : Code → Type 0
IsSilentCode E01 = Unit {0}
IsSilentCode E05 = Unit {0}
IsSilentCode E06 = Unit {0}
IsSilentCode E07 = Unit {0}
IsSilentCode E08 = Unit {0}
IsSilentCode E25 = Unit {0}
IsSilentCode E28 = Unit {0}
IsSilentCode E29 = Unit {0}
IsSilentCode E31 = Unit {0}
IsSilentCode _ = ⊥

-- E11 of a method whose parameters differ in shape from those of a method that it overrides: in their number, their
-- names or their defaults
pub record HasOtherShape (m : Module) (f : Finding) : Type 0 where
  pub c : ℕ
  pub class : ClassDef
  pub numbered : ClassNumbered m c class
  pub at : ℕ
  pub method : FuncDef
  pub here : slice_get class.members at ≡ Some (method_member method)
  pub other : ¬ (All (λ old. IsTrue (has_shape_of old.parameters (method_made m c
      (length (methods_in (take at class.members))) method).parameters)) (overridden (base_class m c class).methods
      method.name.text))
  pub is : f ≡ finding method.name.place E11

-- the places of each `return` without a value
abbrev mutual
  -- such a `return` in a statement: itself, or in its suites
  pub bare_returns_in_stmt : Stmt → List Place
  bare_returns_in_stmt (returns p None) = p ∷ []
  bare_returns_in_stmt (while_loop p condition body) = bare_returns_in body
  bare_returns_in_stmt (for_loop p target iterable body) = bare_returns_in body
  bare_returns_in_stmt (conditional p branches otherwise) = bare_returns_in_branches branches
      ++ bare_returns_in otherwise
  bare_returns_in_stmt _ = []

  -- each such `return` in the statements of a suite
  pub bare_returns_in : Stmts → List Place
  bare_returns_in no_stmts = []
  bare_returns_in (more_stmts s rest) = bare_returns_in_stmt s ++ bare_returns_in rest

  -- each such `return` in the suites after `if` and `elif`
  pub bare_returns_in_branches : Branches → List Place
  bare_returns_in_branches no_branches = []
  bare_returns_in_branches (more_branches condition body rest) = bare_returns_in body ++ bare_returns_in_branches rest

-- each such `return` in the body of a function
abbrev pub bare_returns_in_def : FuncDef → List Place
bare_returns_in_def f = bare_returns_in f.body

-- the place of a default, if there is one
abbrev pub default_place : Option Literal → List Place
default_place None = []
default_place (Some l) = literal_place l ∷ []

-- the places of the defaults of parameters
abbrev pub param_defaults : List Param → List Place
param_defaults [] = []
param_defaults (p ∷ ps) = default_place p.default ++ param_defaults ps

-- the places of the defaults of a function's parameters
abbrev pub param_defaults_in : FuncDef → List Place
param_defaults_in f = param_defaults f.params

-- the places of the defaults of the fields among members
abbrev pub field_defaults : List Member → List Place
field_defaults [] = []
field_defaults (field_member f ∷ ms) = default_place f.default ++ field_defaults ms
field_defaults (method_member f ∷ ms) = field_defaults ms

-- the places of the defaults of the fields of each class
abbrev pub field_defaults_in : List Item → List Place
field_defaults_in [] = []
field_defaults_in (constant_item first c ∷ is) = field_defaults_in is
field_defaults_in (class_item first c ∷ is) = field_defaults c.members ++ field_defaults_in is
field_defaults_in (def_item first f ∷ is) = field_defaults_in is

-- the places of the defaults of the parameters and fields of a module
abbrev pub default_places : Module → List Place
default_places m = of_defs param_defaults_in param_defaults_in m.items ++ field_defaults_in m.items

-- E03 of a name that an `isinstance` in an initializer tests for
pub record IsTestedEarly (m : Module) (f : Finding) : Type 0 where
  pub constant : Constant
  pub of : Contains (constants_in m.items) constant
  pub place : Place
  pub callee : Expr
  pub first : Expr
  pub n : Name
  pub among : Contains (parts_in false constant.value)
      (call place callee (more_exprs first (more_exprs (name n) no_exprs)) no_keywords)
  pub test : IsTrue (is_instance_test callee (more_exprs first (more_exprs (name n) no_exprs)) no_keywords)
  pub is : f ≡ finding n.place E03

-- a finding whose place a run need not evaluate before the error does harm: one of these codes; E02 of a decorator; E03
-- of a name that is tested for; E11 of an override of another shape; E21 of a function that is no method; E12 of a
-- `return` without a value, or of a default
pub data IsSilent (m : Module) (f : Finding) : Type 0 where
  by_code : IsSilentCode f.code → IsSilent m f
  decorator : (c : ClassDef) → Contains (classes_in m.items) c → f ≡ finding c.decorator E02 → IsSilent m f
  tested : IsTestedEarly m f → IsSilent m f
  shape : HasOtherShape m f → IsSilent m f
  unreturned : (i : ℕ) (d : FuncDef) → slice_get (functions_in m.items) i ≡ Some d → f ≡ finding d.name.place E21
      → IsSilent m f
  bare : f.code ≡ E12 → Contains (of_defs bare_returns_in_def bare_returns_in_def m.items) f.place → IsSilent m f
  default : f.code ≡ E12 → Contains (default_places m) f.place → IsSilent m f

-- the module has no silent finding
abbrev pub HasNoSilentError : Module → Type 0
HasNoSilentError m = (f : Finding) → IsFinding m f → ¬ (IsSilent m f)
