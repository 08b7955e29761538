-- The state of the walk over classes: a table for each name that earlier items bind.
-- Own device; which members clash: own rule of the profile (the codes that stop a run).
use Rattle.std.specs.Prelude.{◌≡◌, ℕ, Bool, true, false, List, [], ◌∷◌, map, if◌then◌else◌, Option, Some, None, is_some}
use Rattle.std.specs.Prelude.{unwrap_or}
use Rattle.std.specs.Borrow.{Bor}
use Rattle.indexmap.specs.IndexMap.{IndexMap}
use Rattle.pc_tree.specs.Tree.{Member, Item}
use Rattle.pc_tree.specs.Stopping.{HeldMember, held_by, is_among, name_of_item, members_of}
use Rattle.pc_tree.specs.Names.{at_text}
use Rattle.pc_stopping.specs.declared.holdings.Holding.{Holding}
use Rattle.pc_stopping.specs.declared.holdings.Holding.TheVariants.{Nothing, Method, Field}
use Rattle.pc_stopping.specs.declared.holdings.Holdings.{Holdings}
use Rattle.pc_stopping.specs.Holdings.{HasIn}

-- a member clashes with the holding of its name
abbrev pub clashes_with : Holding → (is_field : Bool) → Bool
clashes_with Nothing field = false
clashes_with Method field = field
clashes_with Field field = true

-- the member as its class has it, or no member if the test holds
abbrev pub held_unless : Bool → Member → List HeldMember
held_unless unless m = if unless then [] else held_by m ∷ []

-- the table of a base, the empty one if there is none
abbrev pub base_at : {S : Type 0} → IndexMap (Bor (List ℕ)) ℕ S → Option (List ℕ) → ℕ
base_at bound None = 0
base_at bound (Some n) = unwrap_or (at_text bound n) 0

-- the names that items bind
abbrev pub names_of_items : List Item → List (List ℕ)
names_of_items before = map (λ i. (name_of_item i).text) before

-- each name that an earlier item binds has the table of the class of that name; any other name has the empty table
pub record HoldsTables {S : Type 0} (h : Holdings) (bound : IndexMap (Bor (List ℕ)) ℕ S) (before : List Item) : Type 0 where
  pub empty : HasIn h 0 []
  pub named : (n : List ℕ) → is_some (at_text bound n) ≡ is_among (names_of_items before) n
  pub tables : (n : List ℕ) → HasIn h (base_at bound (Some n)) (members_of before (Some n))

-- the table of an item's name, if no earlier item binds it
abbrev pub IsTableOf : Holdings → List Item → Item → ℕ → Type 0
IsTableOf h before item table = is_among (names_of_items before) (name_of_item item).text ≡ false
    → HasIn h table (members_of (item ∷ before) (Some (name_of_item item).text))
