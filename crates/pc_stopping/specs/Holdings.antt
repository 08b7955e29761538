-- The tables of the members that classes have by name.
-- Own device; which members a class has: own rule of the profile (the codes that stop a run).
use Rattle.std.specs.Prelude.{◌≡◌, ◌<◌, ◌≤◌, ℕ, zero, suc, Bool, true, false, List, length, map, Option, Some, None}
use Rattle.std.specs.Prelude.{slice_get}
use Rattle.std.specs.List.{list_any}
use Rattle.pc_tree.specs.Stopping.{HeldMember, held_text, is_field_of, is_among}
use Rattle.pc_tree.specs.Names.{texts_in}
use Rattle.pc_shared_maps.specs.declared.shared.MapNode.{MapNode}
use Rattle.pc_shared_maps.specs.SharedMaps.{held_at}
use Rattle.pc_stopping.specs.declared.holdings.Holding.{Holding}
use Rattle.pc_stopping.specs.declared.holdings.Holding.TheVariants.{Nothing, Method, Field}
use Rattle.pc_stopping.specs.declared.holdings.Holdings.{Holdings}

-- the holding of a name, given whether there is a member of that name and whether one is a field
abbrev pub holding : (any field : Bool) → Holding
holding false field = Nothing
holding true false = Method
holding true true = Field

-- the holding of a name among these members
abbrev pub held_as : List ℕ → List HeldMember → Holding
held_as text hs = holding (is_among (map held_text hs) text) (list_any (is_field_of text) hs)

-- the holding of a name after one more member of that name
abbrev pub with_member : Holding → (is_field : Bool) → Holding
with_member had true = Field
with_member Field false = Field
with_member Method false = Method
with_member Nothing false = Method

-- the number of a holding in a table, and the holding of a number; without a number it is nothing
abbrev pub number_of : Holding → ℕ
number_of Nothing = 0
number_of Method = 1
number_of Field = 2

abbrev pub holding_of : Option ℕ → Holding
holding_of None = Nothing
holding_of (Some zero) = Nothing
holding_of (Some (suc zero)) = Method
holding_of (Some (suc (suc n))) = Field

-- the holding of a name that may be missing; a missing name has nothing
abbrev pub holding_at : Option (List ℕ) → List HeldMember → Holding
holding_at None hs = Nothing
holding_at (Some text) hs = held_as text hs

-- no name has two numbers
abbrev pub AreOnce : List (List ℕ) → Type 0
AreOnce names = (j k : ℕ) (text : List ℕ) → slice_get names j ≡ Some text → slice_get names k ≡ Some text → j ≡ k

-- a table has exactly the holdings of these members, by the numbers of their names
pub record Has (names : List (List ℕ)) (tables : List MapNode) (table : ℕ) (hs : List HeldMember) : Type 0 where
  pub once : AreOnce names
  pub within : table < length tables
  pub numbered : (k : ℕ) → holding_of (held_at tables table k) ≡ holding_at (slice_get names k) hs
  pub unnamed : (text : List ℕ) → is_among names text ≡ false → held_as text hs ≡ Nothing

-- a table of `Holdings` has exactly the holdings of these members
abbrev pub HasIn : Holdings → ℕ → List HeldMember → Type 0
HasIn h table hs = Has (texts_in h.numbers) h.tables table hs

-- every earlier table is kept
pub record Keeps (old new : Holdings) : Type 0 where
  pub more : length old.tables ≤ length new.tables
  pub kept : (table : ℕ) (hs : List HeldMember) → HasIn old table hs → HasIn new table hs
