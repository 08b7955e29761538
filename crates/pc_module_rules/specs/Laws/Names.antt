-- The law on the bound names of a module: if types are kept, a walk over it notes exactly the constants and the locals
-- that are bound under its lawful labelling, with their types, in the same order. Own rule of the profile.
use Rattle.std.specs.Prelude.{◌≡◌, [], List, ◌++◌, map, Option, true}
use Rattle.pc_source.specs.declared.place.Place.{Place}
use Rattle.pc_tree.specs.Tree.{Module}
use Rattle.pc_types.specs.Tree.{Tree}
use Rattle.pc_notes.specs.Notes.{names_of_notes}
use Rattle.pc_module_rules.specs.Modules.{Labelling, IsLawful}
use Rattle.pc_module_rules.specs.Computed.Modules.{module_notes}
use Rattle.pc_module_rules.specs.NamesOfStatements.{NameAt}
use Rattle.pc_module_rules.specs.NamesOfModules.{names_of_constants, names_in_bodies}

-- a bound name as a note has it: its place, its declared type, and its current type after the binding
abbrev pub as_noted : NameAt → Place × Tree × Option Tree
as_noted n = (n.place, n.declared, n.current)

-- the names whose types come from labels: constants, and the locals of bodies
abbrev pub names_by_labels : (m : Module) → Labelling m → List NameAt
names_by_labels m labels = names_of_constants m m.items labels ++ names_in_bodies m 0 0 m.items labels

-- the law that the names noted by a walk over a module, if types are kept, are those bound under its lawful labelling,
-- in this order
abbrev pub NamesAreNoted : Type 0
NamesAreNoted = (m : Module) (labels : Labelling m) → IsLawful m labels
    → names_of_notes (module_notes true m []) ≡ map as_noted (names_by_labels m labels)
