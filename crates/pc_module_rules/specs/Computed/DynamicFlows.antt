-- The flow with a code at a place of a module.
-- Own rule of the profile.
use Rattle.std.specs.Prelude.{[], Option}
use Rattle.pc_source.specs.declared.place.Place.{Place}
use Rattle.pc_tree.specs.declared.code.Code.{Code}
use Rattle.pc_tree.specs.declared.code.Code.TheVariants.{A1}
use Rattle.pc_tree.specs.Tree.{Module}
use Rattle.pc_types.specs.Tree.{Tree}
use Rattle.pc_notes.specs.Notes.{flow_noted}
use Rattle.pc_module_rules.specs.Computed.Modules.{module_finds}

-- the type that flows at a place with this code and the type that it flows into; if several flow there, those of the
-- first in the order of the walk over the module; none if no flow there has the code
abbrev pub computed_flow : Code → Module → Place → Option (Tree × Tree)
computed_flow c m p = flow_noted c p (module_finds m [])

-- the type that flows dynamically at a place and the type that it flows into
abbrev pub dynamic_flow : Module → Place → Option (Tree × Tree)
dynamic_flow m p = computed_flow A1 m p
