-- The fields of each class as parameters of a call of it, in lists that share their common parts.
-- Own rule of the profile.
use Rattle.std.specs.Prelude.{◌≡◌, ◌<◌, ◌≤◌, ℕ, List, length, Option, Some, None, slice_get, slice_index_or}
use Rattle.pc_shared_maps.specs.declared.lists.ListPlace.{ListPlace}
use Rattle.pc_shared_maps.specs.declared.lists.SharedList.{SharedList}
use Rattle.pc_shared_maps.specs.declared.lists.SharedLists.{SharedLists}
use Rattle.pc_shared_maps.specs.SharedLists.{empty_list, list_place_at, HasRoom, AreNamed}
use Rattle.pc_class.specs.declared.table.Parameter.{Parameter as RustParameter}
use Rattle.pc_class.specs.declared.field_lists.ClassLists.{ClassLists}
use Rattle.pc_class.specs.Listed.{names_listed, needed_in}
use Rattle.pc_class.specs.Tables.{ClassEntry, inherited_entry}

-- the list of a class, or the empty list if there is none
abbrev pub list_at : List SharedList → Option ℕ → SharedList
list_at classes None = empty_list
list_at classes (Some c) = slice_index_or classes c empty_list

-- the list of the class with this number
abbrev pub list_in : ClassLists → ℕ → SharedList
list_in s class = list_at s.classes.items (Some class)

-- the fields of a class of a table, with those of its ancestors first
abbrev pub fields_in : {Ty : Type 0} → List (ClassEntry Ty) → ℕ → List (RustParameter Ty)
fields_in es class = (inherited_entry es (Some class)).fields

module _ {Ty : Type 0} (fields : List (RustParameter Ty)) where
  -- a list place is that of a place of these fields
  pub record IsListPlace (these : List (RustParameter Ty)) (place : ℕ) (list_place : ListPlace) : Type 0 where
    pub within : place < length these
    pub field : slice_get fields list_place.number ≡ slice_get these place
    pub needed : list_place.needed ≡ needed_in these place

  -- a list place, if there is one, is that of a place of these fields; else the place is past their end
  abbrev pub IsListPlaceIfAny : List (RustParameter Ty) → ℕ → Option ListPlace → Type 0
  IsListPlaceIfAny these place None = length these ≤ place
  IsListPlaceIfAny these place (Some list_place) = IsListPlace these place list_place

  -- a shared list is the list of these fields
  pub record IsListOf (s : SharedLists) (these : List (RustParameter Ty)) (l : SharedList) : Type 0 where
    pub room : HasRoom s l
    pub count : l.count ≡ length these
    pub needed : l.needed ≡ needed_in these (length these)
    pub names : AreNamed s l (names_listed these)
    pub list_places : (place : ℕ) → IsListPlaceIfAny these place (list_place_at s l place)

  -- there is a list for each class, and one for no class
  abbrev pub AreClassLists : ClassLists → List (ClassEntry Ty) → Type 0
  AreClassLists s es = (class : Option ℕ) → IsListOf s.lists (inherited_entry es class).fields
      (list_at s.classes.items class)
