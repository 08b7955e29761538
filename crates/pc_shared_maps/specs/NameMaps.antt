-- Maps from names to numbers: the value of a map at a name.
-- Own rule of the profile.
use Rattle.std.specs.Prelude.{◌≡◌, ◌<◌, ◌≤◌, ℕ, List, [], ◌∷◌, ◌++◌, length, if◌then◌else◌, Option, Some, None}
use Rattle.pc_scope.specs.Resolution.{index_of, is_one_of}
use Rattle.pc_shared_maps.specs.declared.shared.MapNode.{MapNode}
use Rattle.pc_shared_maps.specs.SharedMaps.{held_at, HasBelow}

-- the numbered names, and the nodes of the maps
pub record NameMaps : Type 0 where
  pub texts : List (List ℕ)
  pub nodes : List MapNode

-- there is a map with this number
abbrev pub IsMap : NameMaps → ℕ → Type 0
IsMap d map = map < length d.nodes

-- the value of a map at the number of a name, if the name has a number
abbrev pub number_at : List MapNode → ℕ → Option ℕ → Option ℕ
number_at nodes map None = None
number_at nodes map (Some k) = held_at nodes map k

-- the value of a map at a name
unfoldable pub named_at : NameMaps → ℕ → List ℕ → Option ℕ
named_at d map name = number_at d.nodes map (index_of name d.texts)

-- the names with one more, unless it is among them already
abbrev pub with_text : List (List ℕ) → List ℕ → List (List ℕ)
with_text texts name = if is_one_of name texts then texts else texts ++ name ∷ []

-- the maps have values at numbers of names only
abbrev pub IsNumbered : NameMaps → Type 0
IsNumbered d = HasBelow (length d.texts) d.nodes

-- each map is kept
pub record KeepsNamed (old new : NameMaps) : Type 0 where
  pub more : length old.nodes ≤ length new.nodes
  pub same : (map : ℕ) (name : List ℕ) → map < length old.nodes → named_at new map name ≡ named_at old map name
