-- Definitions for the examples: the findings of a module, listed one by one.
-- Own rule of the profile.
use Rattle.std.specs.Prelude.{◌↔◌, ◌+◌, ℕ, List, length, Contains}
use Rattle.pc_source.specs.declared.place.Place.{Place}
use Rattle.pc_tree.specs.declared.code.Finding.{Finding}
use Rattle.pc_tree.specs.Tree.{Name, Module}
use Rattle.pc_module_rules.specs.Modules.{IsFinding}

-- the findings of a module are exactly these
abbrev pub FindsJust : Module → List Finding → Type 0
FindsJust m fs = (f : Finding) → IsFinding m f ↔ Contains fs f

-- the place from one byte to another
abbrev pub at : ℕ → ℕ → Place
at start end = record { start = start; end = end }

-- a name that starts at a byte and is as long as its text
abbrev pub word : ℕ → List ℕ → Name
word start text = record { place = at start (start + length text); text = text }
