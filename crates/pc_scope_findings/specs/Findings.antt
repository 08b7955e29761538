-- The findings about names and the places of statements: E01, E02, E03, E05, E28, E29, E30, E31.
-- Language Reference 3.12, 4.2 "Naming and binding"; each code is an own rule of the profile.
use Rattle.std.specs.Prelude.{◌≡◌, ◌⊎◌, ◌≤◌, ℕ, length, take, true, false, Some, Contains, slice_get, filter_map}
use Rattle.pc_source.specs.declared.place.Place.{Place}
use Rattle.pc_tree.specs.declared.code.Code.{Code}
use Rattle.pc_tree.specs.declared.code.Code.TheVariants.{E01, E02, E03, E05, E28, E29, E30, E31}
use Rattle.pc_tree.specs.declared.code.Finding.{Finding}
use Rattle.pc_tree.specs.Code.{finding}
use Rattle.pc_tree.specs.Stopping.{IsStopping}
use Rattle.pc_tree.specs.Tree.{Name, Expr, ClassDef, Constant, constant_item, Module}
use Rattle.pc_tree.specs.NamesAlone.{name_of_tree}
use Rattle.pc_scope.specs.declared.resolution.Owner.{Owner}
use Rattle.pc_scope.specs.declared.resolution.Owner.TheVariants as owners
use Rattle.pc_scope.specs.declared.resolution.NameMeaning.{NameMeaning}
use Rattle.pc_scope.specs.declared.resolution.NameMeaning.TheVariants as meaning
use Rattle.pc_scope.specs.Bindings.{constants_in, classes_in, Body, bodies}
use Rattle.pc_scope.specs.Resolution.{resolve, resolve_in_module}
use Rattle.pc_scope.specs.Expressions.{parts_in, other_callee, exprs_in_all}
use Rattle.pc_scope_findings.specs.Unreached.{unreached_places}

-- E01, E05, E28, E29, E31: the codes that stop a run and do not concern classes
abbrev pub IsScopeCode : Code → Type 0
IsScopeCode E01 = Unit {0}
IsScopeCode E05 = Unit {0}
IsScopeCode E28 = Unit {0}
IsScopeCode E29 = Unit {0}
IsScopeCode E31 = Unit {0}
IsScopeCode _ = ⊥

-- a name in an expression, apart from the second argument of an `isinstance` test, means nothing to its owner
pub record IsUnknownIn (m : Module) (owner : Owner) (e : Expr) (f : Finding) : Type 0 where
  pub n : Name
  pub named : Contains (filter_map name_of_tree (parts_in true e)) n
  pub unknown : resolve m owner n.text ≡ meaning.None
  pub is : f ≡ finding n.place E02

-- E02: a name in an expression means nothing, or the header does not import the decorator `dataclass`
pub data IsUnknown (m : Module) (f : Finding) : Type 0 where
  in_constant : (c : Constant) → Contains (constants_in m.items) c → IsUnknownIn m owners.Module c.value f
      → IsUnknown m f
  in_body : (b : Body) (e : Expr) → Contains (bodies m) b → Contains (exprs_in_all true b.function.body) e
      → IsUnknownIn m b.owner e f → IsUnknown m f
  decorator : (c : ClassDef) → m.imports_dataclass ≡ false → Contains (classes_in m.items) c
      → f ≡ finding c.decorator E02 → IsUnknown m f

-- an initializer after this many constants and classes may not use a function, a later constant or class, or its own
-- constant
abbrev pub IsEarlyMeaning : (constants classes : ℕ) → NameMeaning → Type 0
IsEarlyMeaning k c (meaning.Func i) = Unit {0}
IsEarlyMeaning k c (meaning.Const i) = k ≤ i
IsEarlyMeaning k c (meaning.Class i) = c ≤ i
IsEarlyMeaning k c _ = ⊥

-- an initializer uses a name that it may not use after this many constants and classes
pub record IsEarlyName (m : Module) (constants classes : ℕ) (e : Expr) (f : Finding) : Type 0 where
  pub n : Name
  pub named : Contains (filter_map name_of_tree (parts_in false e)) n
  pub early : IsEarlyMeaning constants classes (resolve_in_module m n.text)
  pub is : f ≡ finding n.place E03

-- a callee in an initializer is not a name
pub record IsEarlyCallee (e : Expr) (f : Finding) : Type 0 where
  pub place : Place
  pub callee : Contains (filter_map other_callee (parts_in false e)) place
  pub is : f ≡ finding place E03

-- E03: an initializer uses a name that it may not use, or calls an expression that is not a name
pub record IsEarly (m : Module) (f : Finding) : Type 0 where
  pub at : ℕ
  pub first : Place
  pub constant : Constant
  pub item : slice_get m.items at ≡ Some (constant_item first constant)
  pub found : IsEarlyName m (length (constants_in (take at m.items)))
      (length (classes_in (take at m.items))) constant.value f ⊎ IsEarlyCallee constant.value f

-- E30: a statement that is the first of its suite after one that cannot complete
pub record IsUnreachable (m : Module) (f : Finding) : Type 0 where
  pub body : Body
  pub of : Contains (bodies m) body
  pub place : Place
  pub first : Contains (unreached_places body.function.body) place
  pub is : f ≡ finding place E30

-- the findings about names and the places of statements
pub data ScopeFinds (m : Module) (f : Finding) : Type 0 where
  stopping : IsScopeCode f.code → IsStopping m f.place f.code → ScopeFinds m f
  unknown : IsUnknown m f → ScopeFinds m f
  early : IsEarly m f → ScopeFinds m f
  unreachable : IsUnreachable m f → ScopeFinds m f
