-- Lists of named items, some of which are needed; the lists share their common parts.
-- Own rule of the profile.
use Rattle.std.specs.Prelude.{◌≡◌, ◌<◌, ◌≤◌, ℕ, List, length, Option, Some, None, slice_get}
use Rattle.pc_scope.specs.Resolution.{index_of}
use Rattle.pc_shared_maps.specs.declared.lists.ListPlace.{ListPlace}
use Rattle.pc_shared_maps.specs.declared.lists.SharedList.{SharedList}
use Rattle.pc_shared_maps.specs.declared.lists.SharedLists.{SharedLists}
use Rattle.pc_shared_maps.specs.NameMaps.{IsMap, named_at}
use Rattle.pc_shared_maps.specs.SharedMaps.{held_at}

-- the item at a number, if there is a number
abbrev pub at_number : {X : Type 0} → List X → Option ℕ → Option X
at_number xs None = None
at_number xs (Some i) = slice_get xs i

-- the number, if there is one, is an index of the list
abbrev pub IsNumberIn : {X : Type 0} → List X → Option ℕ → Type 0
IsNumberIn xs None = Unit {0}
IsNumberIn xs (Some i) = i < length xs

-- the empty list
abbrev pub empty_list : SharedList
empty_list = record { count = 0; needed = 0; names = 0; list_places = 0 }

-- the first place of a name in a list
abbrev pub place_at : SharedLists → SharedList → List ℕ → Option ℕ
place_at s l name = named_at s.named l.names name

-- the list place at a place of a list
abbrev pub list_place_at : SharedLists → SharedList → ℕ → Option ListPlace
list_place_at s l place = at_number s.list_places.items (held_at s.placed l.list_places place)

-- the end of the needed items before a list place, or in the whole list if there is no list place
abbrev pub needed_or : ℕ → Option ListPlace → ℕ
needed_or n None = n
needed_or n (Some list_place) = list_place.needed

-- the end of the needed items before a place of a list
abbrev pub needed_at : SharedLists → SharedList → ℕ → ℕ
needed_at s l place = needed_or l.needed (list_place_at s l place)

-- the maps of a list exist, and there are list places for all its places
pub record HasRoom (s : SharedLists) (l : SharedList) : Type 0 where
  pub named : IsMap s.named l.names
  pub placed : l.list_places < length s.placed
  pub has_places : l.count ≤ length s.list_places.items
  pub numbered : (place : ℕ) → IsNumberIn s.list_places.items (held_at s.placed l.list_places place)

-- a list has exactly these names, each at its first place
abbrev pub AreNamed : SharedLists → SharedList → List (List ℕ) → Type 0
AreNamed s l names = (word : List ℕ) → place_at s l word ≡ index_of word names

-- each list is kept
pub record KeepsLists (old new : SharedLists) : Type 0 where
  pub room : (l : SharedList) → HasRoom old l → HasRoom new l
  pub names : (l : SharedList) (word : List ℕ) → HasRoom old l → place_at new l word ≡ place_at old l word
  pub list_places : (l : SharedList) (place : ℕ) → HasRoom old l → list_place_at new l place ≡ list_place_at old l place
