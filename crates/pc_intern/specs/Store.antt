-- The meaning of the types of an interned store, and the correctness of the results that it remembers.
-- Own rule of the profile.
use Rattle.std.specs.Prelude.{◌≡◌, ◌≤◌, ℕ, List, Option, Some, None, All, Contains, map, unwrap_or}
use Rattle.pc_types.specs.Tree.{Tree, Object}
use Rattle.pc_types.specs.Shape.{nodes, node_limit}
use Rattle.pc_types.specs.Normal.{IsNormal}
use Rattle.pc_types.specs.Below.{Bases}
use Rattle.pc_types.specs.Computed.{static_test, assignable_test}
use Rattle.pc_types.specs.Boxed.{tree_of, IsGiven}
use Rattle.pc_types.specs.Join.{join}
use Rattle.pc_types.specs.declared.boxed.BoxType.{BoxType}
use Rattle.pc_intern.specs.Table.{tree_at}
use Rattle.pc_types.specs.JoinedTypes.{types_joined}
use Rattle.pc_intern.specs.declared.gathering.Gathered.{Gathered}
use Rattle.pc_intern.specs.declared.memo.Answers.{Answers}
use Rattle.pc_intern.specs.declared.memo.Joined.{Joined}
use Rattle.pc_intern.specs.declared.store.TypeId.{TypeId}

-- the tree that a type means
abbrev pub tree_of_type : TypeId → Tree
tree_of_type t = tree_of t.meaning.value

-- the number of a type
abbrev pub number_of : TypeId → ℕ
number_of t = t.number

-- the type's number is that of its meaning, which is in normal form and has at most 256 nodes
pub record IsInterned (types : List BoxType) (t : TypeId) : Type 0 where
  pub at : tree_at types t.number ≡ Some (tree_of_type t)
  pub normal : IsNormal (tree_of_type t)
  pub small : nodes (tree_of_type t) ≤ node_limit

-- the results are those of comparing the trees of the two numbers
pub record IsRight (bases : Bases) (types : List BoxType) (a : Answers) : Type 0 where
  pub left : Tree
  pub right : Tree
  pub at_left : tree_at types a.s ≡ Some left
  pub at_right : tree_at types a.t ≡ Some right
  pub is_static : a.is_static ≡ static_test bases left right
  pub is_assignable : a.is_assignable ≡ assignable_test bases left right

-- a slot of the memo is empty or has right results
abbrev pub IsRightAt : Bases → List BoxType → Option Answers → Type 0
IsRightAt bases types None = Unit {0}
IsRightAt bases types (Some a) = IsRight bases types a

-- each slot of the memo is empty or has right results
abbrev pub AreRight : Bases → List BoxType → List (Option Answers) → Type 0
AreRight bases types places = All (IsRightAt bases types) places

-- the last number is that of the join of the types with the other numbers
pub record IsJoined (bases : Bases) (types : List BoxType) (j : Joined) : Type 0 where
  pub trees : List Tree
  pub at_types : map (tree_at types) j.types.items ≡ map Some trees
  pub at_joined : tree_at types j.joined ≡ Some (types_joined bases trees)

-- a slot of the table of joins is empty or has a right join
abbrev pub IsJoinedAt : Bases → List BoxType → Option Joined → Type 0
IsJoinedAt bases types None = Unit {0}
IsJoinedAt bases types (Some j) = IsJoined bases types j

-- each slot of the table of joins is empty or has a right join
abbrev pub AreJoined : Bases → List BoxType → List (Option Joined) → Type 0
AreJoined bases types places = All (IsJoinedAt bases types) places

-- joining the type with this number to a type leaves that type unchanged
abbrev pub AddsNothing : Bases → List BoxType → Tree → ℕ → Type 0
AddsNothing bases types t n = (u : Tree) → tree_at types n ≡ Some u → unwrap_or (join bases t u) Object ≡ t

-- a join in progress is a type that a store may give, and the types noted as changing nothing change nothing
pub record IsGathered (bases : Bases) (types : List BoxType) (g : Gathered) : Type 0 where
  pub given : IsGiven g.joined
  pub covered : (n : ℕ) → Contains g.covered.items n → AddsNothing bases types (tree_of g.joined) n
