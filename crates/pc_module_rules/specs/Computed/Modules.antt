-- The notes of a module under its labels, computed by recursion on the tree: first those of its signatures and
-- constants, then, function by function in text order, those of the walk over each body. Computed twin of the findings
-- under the labels of a module. Own rule of the profile.
use Rattle.std.specs.Prelude.{ℕ, suc, List, [], ◌∷◌, ◌++◌, Bool as Test, false}
use Rattle.pc_tree.specs.Tree.{Member, field_member, method_member, Item, constant_item, class_item, def_item, Module}
use Rattle.pc_scope.specs.declared.resolution.Owner.TheVariants as owners
use Rattle.pc_types.specs.Tree.{Tree}
use Rattle.pc_notes.specs.Notes.{Note}
use Rattle.pc_rules.specs.Computed.Signatures.{constants_of, signatures_find}
use Rattle.pc_module_rules.specs.Computed.Statements.{function_finds}

module _ (keeps : Test) (m : Module) (constants : List Tree) where
  -- notes, followed by those of the bodies of methods among members of the class of this number, after this number of
  -- methods
  abbrev pub methods_find : (class number : ℕ) → List Member → List Note → List Note
  methods_find class number [] found = found
  methods_find class number (field_member d ∷ rest) found = methods_find class number rest found
  methods_find class number (method_member d ∷ rest) found =
      methods_find class (suc number) rest (function_finds keeps m constants (owners.Method class number) d found)

  -- notes, followed by those of the bodies of the functions and methods of items, after these numbers of classes and
  -- functions
  abbrev pub bodies_find : (classes functions : ℕ) → List Item → List Note → List Note
  bodies_find classes functions [] found = found
  bodies_find classes functions (constant_item p c ∷ rest) found = bodies_find classes functions rest found
  bodies_find classes functions (class_item p c ∷ rest) found =
      bodies_find (suc classes) functions rest (methods_find classes 0 c.members found)
  bodies_find classes functions (def_item p f ∷ rest) found =
      bodies_find classes (suc functions) rest (function_finds keeps m constants (owners.Func functions) f found)

-- notes, followed by those of a module, with the types of labels if they are kept: of its signatures and constants, and
-- in its bodies
unfoldable pub module_notes : (keeps : Test) → Module → List Note → List Note
module_notes keeps m found = bodies_find keeps m (constants_of m) 0 0 m.items (found ++ signatures_find m keeps)

-- notes, followed by those of a module without types
abbrev pub module_finds : Module → List Note → List Note
module_finds m found = module_notes false m found
