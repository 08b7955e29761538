-- The laws on the types of a module: if types are kept, a walk over it shows exactly those under its lawful labelling,
-- in the same order; and it notes the first type at each place, those of callees included. Own rule of the profile.
use Rattle.std.specs.Prelude.{◌≡◌, [], map, true}
use Rattle.pc_source.specs.declared.place.Place.{Place}
use Rattle.pc_tree.specs.Tree.{Module}
use Rattle.pc_notes.specs.Notes.{types_of, type_noted}
use Rattle.pc_module_rules.specs.FirstAt.{first_type_at}
use Rattle.pc_module_rules.specs.Modules.{Labelling, IsLawful}
use Rattle.pc_module_rules.specs.Computed.Modules.{module_notes}
use Rattle.pc_module_rules.specs.TypesOfModules.{labelled_types, types_under, as_pair}

-- the law that the types noted by a walk over a module, if types are kept, are those under its lawful labelling, in
-- this order
abbrev pub TypesAreNoted : Type 0
TypesAreNoted = (m : Module) (labels : Labelling m) → IsLawful m labels
    → types_of (module_notes true m []) ≡ map as_pair (types_under m labels)

-- the law that the first type noted at a place by such a walk, shown or not, is the first there of all types under the
-- lawful labelling
abbrev pub FirstTypesAreNoted : Type 0
FirstTypesAreNoted = (m : Module) (labels : Labelling m) → IsLawful m labels → (p : Place)
    → type_noted p (module_notes true m []) ≡ first_type_at p (labelled_types true m labels)
