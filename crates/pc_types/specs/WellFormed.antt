-- Well-formed types, and the law that joins of well-formed types are well-formed.
-- Own rule of the profile.
use Rattle.std.specs.Prelude.{◌≡◌, ◌≤◌, Some}
use Rattle.pc_types.specs.Tree.{Tree}
use Rattle.pc_types.specs.Below.{Bases, AreSmaller}
use Rattle.pc_types.specs.Shape.{nodes, node_limit}
use Rattle.pc_types.specs.Normal.{IsNormal, IsReduced}
use Rattle.pc_types.specs.Join.{join}

-- a well-formed type: in normal form, without an absorbed member, of at most 256 nodes
abbrev pub IsWellFormed : Bases → Tree → Type 0
IsWellFormed bases t = IsNormal t × IsReduced bases t × (nodes t ≤ node_limit)

-- the join of two types in normal form without absorbed members is well-formed, if it exists
abbrev pub JoinsAreWellFormed : Type 0
JoinsAreWellFormed = (bases : Bases) (s t u : Tree) → AreSmaller bases → IsNormal s → IsNormal t → IsReduced bases s
    → IsReduced bases t → join bases s t ≡ Some u → IsWellFormed bases u
