-- Where the names at a position of a text are bound. Language Server Protocol 3.17, "Goto Definition Request"; own rule
-- of the server.
use Rattle.std.specs.Prelude.{◌≡◌, ◌⊎◌, ℕ, Bool, true, false, List, [], ◌∷◌, ◌++◌, Option, None, Some}
use Rattle.std.specs.Prelude.{if◌then◌else◌}
use Rattle.serde_json.specs.Data.{Data}
use Rattle.pc_tree.specs.Tree.{Name, Module}
use Rattle.pc_front.specs.Bytes.{IsModuleOf}
use Rattle.pc_bindings.specs.Mentions.{Mention, mentions_in}
use Rattle.pc_bindings.specs.Bindings.{binding_of}
use Rattle.pc_position.specs.declared.positions.Encoding.{Encoding}
use Rattle.pc_position.specs.declared.positions.Position.{Position}
use Rattle.pc_documents.specs.Diagnostics.{location_of, position_at, range_data}
use Rattle.pc_documents.specs.Symbols.{AreOfRefusal}
use Rattle.pc_documents.specs.Within.{is_within}

-- the location of a name in the document with this address
abbrev pub location_data : Encoding → List ℕ → List ℕ → Name → Data
location_data encoding text uri n = location_of uri (range_data encoding text n.place.start n.place.end)

-- the location of a name, if there is one
abbrev pub located : Encoding → List ℕ → List ℕ → Option Name → List Data
located encoding text uri None = []
located encoding text uri (Some n) = location_data encoding text uri n ∷ []

-- the place of the name covers the position
abbrev pub is_at : Encoding → List ℕ → Position → Mention → Bool
is_at encoding text position it = is_within (position_at encoding text it.name.place.start) position
    (position_at encoding text it.name.place.end)

-- where those of these names that are at the position are bound
abbrev pub definitions_among : Encoding → List ℕ → List ℕ → Position → Module → List Mention → List Data
definitions_among encoding text uri position tree [] = []
definitions_among encoding text uri position tree (it ∷ rest) =
    (if is_at encoding text position it then located encoding text uri (binding_of tree it) else [])
    ++ definitions_among encoding text uri position tree rest

-- where the names of a module at the position are bound
abbrev pub definitions_in : Encoding → List ℕ → List ℕ → Position → Module → List Data
definitions_in encoding text uri position tree = definitions_among encoding text uri position tree (mentions_in tree)

-- where the names at the position of a text that spells this module are bound
pub record AreDefinitionsOfModule (encoding : Encoding) (text uri : List ℕ) (position : Position)
    (definitions : List Data) : Type 0 where
  pub tree : Module
  pub spelled : IsModuleOf text tree
  pub are : definitions ≡ definitions_in encoding text uri position tree

-- where the names at the position of a text are bound; nowhere if it is refused or not known
abbrev pub AreDefinitions : Encoding → Option (List ℕ) → List ℕ → Position → List Data → Type 0
AreDefinitions encoding None uri position definitions = definitions ≡ []
AreDefinitions encoding (Some text) uri position definitions =
    AreDefinitionsOfModule encoding text uri position definitions
    ⊎ AreOfRefusal text definitions

-- where the names at the position of a document are bound; nowhere if it is not Python
abbrev pub AreDefinitionsAs : Encoding → Bool → Option (List ℕ) → List ℕ → Position → List Data → Type 0
AreDefinitionsAs encoding false text uri position definitions = definitions ≡ []
AreDefinitionsAs encoding true text uri position definitions = AreDefinitions encoding text uri position definitions
