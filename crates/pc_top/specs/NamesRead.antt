-- The names that are read from annotations, and the names that are noted, in terms of the definitions.
-- Own rule of the profile.
use Rattle.std.specs.Prelude.{◌≡◌, Option, None}
use Rattle.pc_tree.specs.Tree.{Name, Module}
use Rattle.pc_source.specs.declared.place.Place.{Place}
use Rattle.pc_types.specs.Tree.{Tree}
use Rattle.pc_annotations.specs.Named.{named_module}
use Rattle.pc_annotations.specs.ModuleOutlines.{module_in, IsModuleOutline}
use Rattle.pc_module_rules.specs.NamesOfStatements.{NameAt}
use Rattle.pc_report.specs.TypeListing.{TypeFact}
use Rattle.pc_top.specs.declared.names.NameReading.{NameReading}
use Rattle.pc_top.specs.TypesOfBytes.{name_fact}

-- the outline by which annotations are read, and the names of classes, are of the same module
pub record IsNameReading (r : NameReading) : Type 0 where
  pub outline : IsModuleOutline r.outline.now
  pub names : named_module r.names.now ≡ module_in r.outline.now

-- the module whose names are read
abbrev pub module_read : NameReading → Module
module_read r = module_in r.outline.now

-- a name with a declared type alone
abbrev pub declared_name : Name → Tree → NameAt
declared_name n t = record { place = n.place; declared = t; current = None }

-- a noted name, as it is bound
abbrev pub name_noted : Place × Tree × Option Tree → NameAt
name_noted n = record { place = n.0; declared = n.1; current = n.2 }

-- the fact of a noted name
abbrev pub noted_fact : Module → Place × Tree × Option Tree → TypeFact
noted_fact m n = name_fact m (name_noted n)
