-- Maps from numbers to numbers that share nodes: the value of a map at a number.
-- Own rule of the profile.
use Rattle.std.specs.Prelude.{◌≡◌, ◌<◌, ◌≤◌, ◌/◌, ◌%◌, ◌==◌, ℕ, zero, suc, List, [], ◌∷◌, length, Bool, if◌then◌else◌}
use Rattle.std.specs.Prelude.{Option, None, slice_index_or}
use Rattle.pc_shared_maps.specs.declared.shared.MapNode.{MapNode}

-- the node of the empty map
abbrev pub empty_node : MapNode
empty_node = record { held = None; odd = 0; even = 0 }

-- the node with this number
abbrev pub node_at : List MapNode → ℕ → MapNode
node_at nodes i = slice_index_or nodes i empty_node

-- the path to a number: to the odd numbers from 1 or to the even ones, and on to half of the rest, in at most this many
-- steps
abbrev pub way_in : ℕ → ℕ → List Bool
way_in zero key = []
way_in (suc n) zero = []
way_in (suc n) (suc k) = (suc k % 2 == 1) ∷ way_in n (k / 2)

-- the whole path to a number
unfoldable pub way : ℕ → List Bool
way key = way_in key key

-- the next node on a path
abbrev pub next : Bool → MapNode → ℕ
next odd node = if odd then node.odd else node.even

-- the value at the end of a path
abbrev pub held_along : List MapNode → ℕ → List Bool → Option ℕ
held_along nodes at [] = (node_at nodes at).held
held_along nodes at (odd ∷ rest) = held_along nodes (next odd (node_at nodes at)) rest

-- the value of a map at a number
unfoldable pub held_at : List MapNode → ℕ → ℕ → Option ℕ
held_at nodes map key = held_along nodes map (way key)

-- the successors of a node are among these nodes
pub record HasSuccessorsIn (nodes : List MapNode) (node : MapNode) : Type 0 where
  pub odd : node.odd < length nodes
  pub even : node.even < length nodes

-- the successors of each node are among the nodes
abbrev pub HasAllSuccessors : List MapNode → Type 0
HasAllSuccessors nodes = (i : ℕ) → i < length nodes → HasSuccessorsIn nodes (node_at nodes i)

-- each map is kept
pub record KeepsMaps (old new : List MapNode) : Type 0 where
  pub more : length old ≤ length new
  pub same : (map key : ℕ) → map < length old → held_at new map key ≡ held_at old map key

-- no map has a value at a number that is not below a limit
pub record HasBelow (limit : ℕ) (nodes : List MapNode) : Type 0 where
  pub nothing : (map key : ℕ) → map < length nodes → limit ≤ key → held_at nodes map key ≡ None
