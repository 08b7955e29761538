-- The guarantees of a listing of types about the bytes: it has exactly the types under the one lawful labelling of the
-- module that they spell. Own rule of the profile.
use Rattle.std.specs.Prelude.{◌≡◌, ℕ, List, ◌++◌, map, Contains, Option, Some, None, Bool, true, false, option_map}
use Rattle.std.specs.Prelude.{bytes_eq, if◌then◌else◌}
use Rattle.pc_source.specs.declared.counted.Counted.{Counted}
use Rattle.pc_source.specs.declared.place.Place.{Place}
use Rattle.pc_source.specs.Taken.{TakesAll, TakesBeginning}
use Rattle.pc_tree.specs.Tree.{Module}
use Rattle.pc_types.specs.Tree.{Tree}
use Rattle.pc_annotations.specs.Text.{type_text}
use Rattle.pc_module_rules.specs.Modules.{Labelling, IsLawful, HasLabelling}
use Rattle.pc_module_rules.specs.TypesOfModules.{types_under, as_pair}
use Rattle.pc_module_rules.specs.NamesOfStatements.{NameAt}
use Rattle.pc_module_rules.specs.NamesOfModules.{names_under}
use Rattle.pc_front.specs.Bytes.{IsModuleOf}
use Rattle.pc_report.specs.declared.listing.TypeKind.TheVariants.{Expression, Name}
use Rattle.pc_report.specs.declared.listing.TypeRow.{TypeRow}
use Rattle.pc_report.specs.declared.report.Row.{Row}
use Rattle.pc_report.specs.Report.{errors_of, dynamic_count}
use Rattle.pc_report.specs.TypeListing.{TypeFact, ListsTypes, IsSmallestAt, content_of}
use Rattle.pc_report.specs.TypeTexts.{types_text, types_json}
use Rattle.pc_top.specs.Headline.{Headline}
use Rattle.pc_top.specs.Streaming.{AreBytesOf}

-- the fact of the type of an expression at a place
abbrev pub expression_fact : Module → Place × Tree → TypeFact
expression_fact m t = record { place = t.0; kind = Expression; type = type_text m t.1; current = None }

-- a current type, if its text is another than that of the declared type
abbrev pub other_text : (declared : List ℕ) → Option (List ℕ) → Option (List ℕ)
other_text declared None = None
other_text declared (Some t) = if bytes_eq t declared then None else Some t

-- the fact of a bound name: its declared type, and its current type after the binding, if that is another
abbrev pub name_fact : Module → NameAt → TypeFact
name_fact m n = record {
  place = n.place;
  kind = Name;
  type = type_text m n.declared;
  current = other_text (type_text m n.declared) (option_map (type_text m) n.current);
}

-- the facts of a module under a labelling: the type of each labelled expression, and the types of each bound name
abbrev pub facts_under : (m : Module) → Labelling m → List TypeFact
facts_under m labels = map (expression_fact m) (map as_pair (types_under m labels))
    ++ map (name_fact m) (names_under m labels)

-- a fact of the types of a module: one under every lawful labelling of it, of which there is exactly one
abbrev pub IsTypeFact : Module → TypeFact → Type 0
IsTypeFact m f = (labels : Labelling m) → IsLawful m labels → Contains (facts_under m labels) f

-- The guarantees of a listing of types. The bytes spell exactly one module, and the facts of the rows are exactly those
-- under its lawful labelling.
pub record ListsTypesOf (bytes : List ℕ) (rows : List TypeRow) : Type 0 where
  pub whole : Module
  pub spelled : IsModuleOf bytes whole
  pub only : (other : Module) → IsModuleOf bytes other → other ≡ whole
  -- the module has a labelling, so the types are those under one; the law `one_labelling` says that there is no other
  pub labelled : HasLabelling whole
  pub listed : ListsTypes bytes (IsTypeFact whole) rows

-- the row found for a byte has the content of the smallest one around it in a listing of the types of the bytes
pub record IsTypeAt (bytes : List ℕ) (byte : ℕ) (found : Option TypeRow) : Type 0 where
  pub rows : List TypeRow
  pub lists : ListsTypesOf bytes rows
  pub smallest : Option TypeRow
  pub is_smallest : IsSmallestAt byte rows smallest
  pub content : option_map content_of found ≡ option_map content_of smallest

-- a listing of types, as text or as JSON
abbrev pub listing_bytes : (json : Bool) → List TypeRow → List ℕ
listing_bytes false rows = types_text rows
listing_bytes true rows = types_json rows

module _ {W : Type 0} (contents : W → Option (List ℕ)) where
  -- the listing of types of the reader's bytes is written whole, and these are the numbers of errors and of dynamic
  -- places of their report
  pub record IsListed (told : Option (List ℕ)) (json : Bool) (old new : Counted W) (errors dynamic : ℕ) : Type 0 where
    pub bytes : List ℕ
    pub given : AreBytesOf told bytes
    pub rows : List Row
    pub headline : Headline bytes rows
    pub errors_are : errors ≡ errors_of rows
    pub dynamic_are : dynamic ≡ dynamic_count rows
    pub types : List TypeRow
    pub lists : ListsTypesOf bytes types
    pub written : TakesAll contents (listing_bytes json types) old new

  -- a beginning of the listing of types of the reader's bytes is written, and then the writer failed
  pub record IsListingBegun (told : Option (List ℕ)) (json : Bool) (old new : Counted W) : Type 0 where
    pub bytes : List ℕ
    pub given : AreBytesOf told bytes
    pub types : List TypeRow
    pub lists : ListsTypesOf bytes types
    pub written : TakesBeginning contents (listing_bytes json types) old new
