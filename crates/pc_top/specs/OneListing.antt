-- Bytes have one listing of types. Own rule of the profile.
use Rattle.std.specs.Prelude.{◌≡◌, ℕ, List, map}
use Rattle.pc_report.specs.declared.listing.TypeRow.{TypeRow}
use Rattle.pc_report.specs.TypeListing.{content_of}
use Rattle.pc_report.specs.TypeTexts.{types_text, types_json}
use Rattle.pc_top.specs.TypesOfBytes.{ListsTypesOf}

-- two listings of the types of the same bytes have the same content, row by row
abbrev pub OneListing : Type 0
OneListing = (bytes : List ℕ) (rows others : List TypeRow) → ListsTypesOf bytes rows → ListsTypesOf bytes others
    → map content_of rows ≡ map content_of others

-- two listings of the types of the same bytes have the same text and the same JSON
abbrev pub OneListingText : Type 0
OneListingText = (bytes : List ℕ) (rows others : List TypeRow) → ListsTypesOf bytes rows → ListsTypesOf bytes others
    → (types_text rows ≡ types_text others) × (types_json rows ≡ types_json others)
