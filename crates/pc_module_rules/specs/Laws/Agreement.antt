-- The law that labels have the codes of scope analysis, E02 and E03, exactly where it finds them. Own rule of the
-- profile.
use Rattle.std.specs.Prelude.{◌≡◌, ℕ, take, length, true, Some, Contains, slice_get, filter_map}
use Rattle.pc_source.specs.declared.place.Place.{Place}
use Rattle.pc_tree.specs.declared.code.Code.TheVariants.{E03}
use Rattle.pc_tree.specs.declared.code.Finding.{Finding}
use Rattle.pc_tree.specs.Code.{finding}
use Rattle.pc_tree.specs.NamesAlone.{name_of_tree}
use Rattle.pc_tree.specs.Tree.{Name, Expr, Constant, constant_item, Module}
use Rattle.pc_scope.specs.declared.resolution.Owner.TheVariants as owners
use Rattle.pc_scope.specs.Bindings.{constants_in, classes_in, Body, bodies}
use Rattle.pc_scope.specs.Resolution.{resolve_in_module}
use Rattle.pc_scope.specs.Expressions.{parts_in, other_callee, exprs_in_all}
use Rattle.pc_scope_findings.specs.Findings.{IsUnknownIn, IsEarlyMeaning, ScopeFinds}
use Rattle.pc_rules.specs.Labels.{is_of_scopes}
use Rattle.pc_module_rules.specs.Modules.{Labelling, LabelsSay}

-- a labelling has E02 and E03 exactly where scope analysis finds them; in the second argument of an instance test it
-- has neither
pub record AgreesWithScopes (m : Module) (labels : Labelling m) : Type 0 where
  -- each E02 and E03 under the labelling is a finding of scope analysis
  pub found : (f : Finding) → is_of_scopes f.code ≡ true → LabelsSay m labels f → ScopeFinds m f
  -- a name that means nothing is E02, in an initializer and in a body
  pub unknown_in_constant : (c : Constant) → Contains (constants_in m.items) c → (f : Finding)
      → IsUnknownIn m owners.Module c.value f → LabelsSay m labels f
  pub unknown_in_body : (b : Body) → Contains (bodies m) b → (e : Expr) → Contains (exprs_in_all true b.function.body) e
      → (f : Finding) → IsUnknownIn m b.owner e f → LabelsSay m labels f
  -- a name that an initializer may not name yet is E03, and so is a callee in it that is not a name
  pub early_name : (at : ℕ) (first : Place) (c : Constant) → slice_get m.items at ≡ Some (constant_item first c)
      → (n : Name) → Contains (filter_map name_of_tree (parts_in true c.value)) n
      → IsEarlyMeaning (length (constants_in (take at m.items))) (length (classes_in (take at m.items)))
      (resolve_in_module m n.text) → LabelsSay m labels (finding n.place E03)
  pub early_callee : (at : ℕ) (first : Place) (c : Constant) → slice_get m.items at ≡ Some (constant_item first c)
      → (callee : Place) → Contains (filter_map other_callee (parts_in true c.value)) callee
      → LabelsSay m labels (finding callee E03)
