-- The facts of the texts of noted types, and of the texts of the types of noted names. Own rule of the profile.
use Rattle.std.specs.Prelude.{ℕ, List, Option, None}
use Rattle.pc_source.specs.declared.place.Place.{Place}
use Rattle.pc_report.specs.declared.listing.TypeKind.TheVariants.{Expression, Name}
use Rattle.pc_report.specs.TypeListing.{TypeFact}
use Rattle.pc_top.specs.TypesOfBytes.{other_text}

-- the fact of an expression at a place, with the text of its type
abbrev pub type_text_fact : Place × List ℕ → TypeFact
type_text_fact t = record { place = t.0; kind = Expression; type = t.1; current = None }

-- the fact of a name at a place, with the texts of its declared and of its current type
abbrev pub name_texts_fact : Place × List ℕ × Option (List ℕ) → TypeFact
name_texts_fact n = record { place = n.0; kind = Name; type = n.1; current = other_text n.1 n.2 }
