-- The notes of a module are right, if those before them are.
use Rattle.std.proofs.Common.{ℕ, suc, List, [], ◌∷◌, ◌++◌, false}
use Rattle.pc_tree.specs.Tree.{Member, field_member, method_member, Item, constant_item, class_item, def_item, Module}
use Rattle.pc_scope.specs.declared.resolution.Owner.TheVariants as owners
use Rattle.pc_types.specs.Tree.{Tree}
use Rattle.pc_class.specs.Bases.{bases_of}
use Rattle.pc_flow.specs.WellFormed.{AreWellFormed}
use Rattle.pc_notes.specs.Notes.{Note}
use Rattle.pc_rules.specs.Computed.Signatures.{constants_of, signatures_find}
use Rattle.pc_module_rules.proofs.RightNotes.{AreRight, right_append}
use Rattle.pc_module_rules.proofs.RightSignatures.{constants_formed, right_signatures}
use Rattle.pc_module_rules.specs.Computed.Statements.{function_finds}
use Rattle.pc_module_rules.specs.Computed.Modules.{methods_find, bodies_find, module_notes, module_finds}
use Rattle.pc_module_rules.proofs.RightWalks.{right_function}

module _ (m : Module) (constants : List Tree) (kc : AreWellFormed (bases_of m) constants) where
  -- the notes are right
  abbrev Right : List Note → Type 0
  Right notes = AreRight (bases_of m) notes

  right_methods : (class number : ℕ) (ms : List Member) (found : List Note) → Right found
      → Right (methods_find false m constants class number ms found)
  right_methods class number [] found h = h
  right_methods class number (field_member d ∷ rest) found h = right_methods class number rest found h
  right_methods class number (method_member d ∷ rest) found h = right_methods class (suc number) rest
      (function_finds false m constants (owners.Method class number) d found)
      (right_function m constants kc (owners.Method class number) d found h)

  right_bodies : (classes functions : ℕ) (items : List Item) (found : List Note) → Right found
      → Right (bodies_find false m constants classes functions items found)
  right_bodies classes functions [] found h = h
  right_bodies classes functions (constant_item p c ∷ rest) found h = right_bodies classes functions rest found h
  right_bodies classes functions (class_item p c ∷ rest) found h = right_bodies (suc classes) functions rest
      (methods_find false m constants classes 0 c.members found) (right_methods classes 0 c.members found h)
  right_bodies classes functions (def_item p f ∷ rest) found h = right_bodies classes (suc functions) rest
      (function_finds false m constants (owners.Func functions) f found)
      (right_function m constants kc (owners.Func functions) f found h)

pub right_module : (m : Module) (found : List Note) → AreRight (bases_of m) found
    → AreRight (bases_of m) (module_finds m found)
unfolding module_notes
right_module m found h = right_bodies m (constants_of m) (constants_formed m) 0 0 m.items
    (found ++ signatures_find m false)
    (right_append (bases_of m) found (signatures_find m false) h (right_signatures m))
