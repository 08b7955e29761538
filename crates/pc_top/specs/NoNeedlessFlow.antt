-- Each dynamic flow of a module is needed: it is assignable, not static, and some value can show that it is not static.
-- Own rule of the profile.
use Rattle.std.specs.Prelude.{ℕ, List}
use Rattle.pc_source.specs.declared.place.Place.{Place}
use Rattle.pc_tree.specs.Tree.{Module}
use Rattle.pc_types.specs.Tree.{Tree}
use Rattle.pc_annotations.specs.Bases.{bases_of}
use Rattle.pc_types.specs.Below.{Static}
use Rattle.pc_types.specs.Assignable.{Assignable}
use Rattle.pc_class.specs.Facts.{classes_of}
use Rattle.pc_module_rules.specs.FlowsOfModules.{FlowsDynamically}
use Rattle.pc_sound.specs.Needed.{HasNoNever, IsNeededWithin}
use Rattle.pc_front.specs.Bytes.{IsModuleOf}

-- The first type is assignable to the second and not static to it; and if the first contains no Never, some well-typed
-- heap with instances of the module's classes only has a value of the first that is not of the second.
pub record IsNeededFlow (m : Module) (s t : Tree) : Type 0 where
  pub assignable : Assignable (bases_of m) s t
  pub not_static : ¬ (Static (bases_of m) s t)
  pub needed : HasNoNever s → IsNeededWithin (bases_of m) (classes_of m) s t

-- if a type flows dynamically into another in a module that bytes spell, under its lawful labelling, the flow is needed
abbrev pub NoNeedlessFlow : Type 0
NoNeedlessFlow = (bytes : List ℕ) (m : Module) → IsModuleOf bytes m → (p : Place) (s t : Tree)
    → FlowsDynamically m p s t → IsNeededFlow m s t
