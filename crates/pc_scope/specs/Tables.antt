-- The name tables of a module, and the meaning of a name by them.
use Rattle.std.specs.Prelude.{ℕ, Bool, List, [], ◌++◌, map, Option, Some, None, true, false, slice_get, ◌≡◌}
use Rattle.pc_tree.specs.Tree.{FuncDef, ClassDef, Module}
use Rattle.pc_tree.specs.Stopping.{bound_by, self_before}
use Rattle.pc_scope.specs.declared.resolution.NameMeaning.{NameMeaning}
use Rattle.pc_scope.specs.Bindings.{texts, param_names, methods_in, functions_in, classes_in}
use Rattle.pc_scope.specs.declared.resolution.Owner.{Owner}
use Rattle.pc_scope.specs.declared.resolution.Owner.TheVariants as owners
use Rattle.pc_scope.specs.declared.resolution.NameMeaning.TheVariants as meaning
use Rattle.pc_scope.specs.Reserved.{builtin_of, beside}
use Rattle.pc_scope.specs.Resolution.{first_of_each, index_of, bound_first, or_meaning, local_meaning, builtin_meaning}

-- the locals of a function or method, from its parameters and its body
abbrev pub locals_by : (is_method : Bool) → FuncDef → List (List ℕ)
locals_by is_method f = first_of_each []
    (self_before is_method ++ (texts (param_names f.params) ++ texts (bound_by f.body)))

-- the locals of the methods of a class
abbrev pub methods_locals : ClassDef → List (List (List ℕ))
methods_locals c = map (locals_by true) (methods_in c.members)

-- the name tables of a module: its first bindings, and the locals of each function and of each method
pub record Tables : Type 0 where
  pub globals : List (List ℕ × NameMeaning)
  pub functions : List (List (List ℕ))
  pub methods : List (List (List (List ℕ)))

-- the locals that a lookup found, none if it found nothing
abbrev pub locals_at : Option (List (List ℕ)) → List (List ℕ)
locals_at None = []
locals_at (Some names) = names

-- the locals of the method with this number in a class
abbrev pub method_locals : Option (List (List (List ℕ))) → ℕ → List (List ℕ)
method_locals None i = []
method_locals (Some methods) i = locals_at (slice_get methods i)

-- the locals that tables have for an owner
abbrev pub locals_for : Tables → Owner → List (List ℕ)
locals_for t owners.Module = []
locals_for t (owners.Func i) = locals_at (slice_get t.functions i)
locals_for t (owners.Method c i) = method_locals (slice_get t.methods c) i

-- the meaning of a name by tables: a local, a built-in, the first binding of the module, or nothing
abbrev pub meaning_by_tables : Tables → Owner → List ℕ → NameMeaning
meaning_by_tables t owner text =
    or_meaning (local_meaning (index_of text (locals_for t owner)))
    (or_meaning (builtin_meaning (builtin_of text)) (or_meaning (beside t.globals text) meaning.None))

-- the tables are those of the module
pub record AreTables (m : Module) (t : Tables) : Type 0 where
  pub globals : (text : List ℕ) → beside t.globals text ≡ bound_first 0 0 0 m.items text
  pub functions : t.functions ≡ map (locals_by false) (functions_in m.items)
  pub methods : t.methods ≡ map methods_locals (classes_in m.items)
