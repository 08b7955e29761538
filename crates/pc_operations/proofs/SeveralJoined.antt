-- The join of several types, in words of a store and in those of the rules of typing.
use Rattle.std.proofs.Common.{◌≡◌, List, [], ◌∷◌, refl, unwrap_or}
use Rattle.pc_types.specs.Tree.{Tree, Object, Never}
use Rattle.pc_types.specs.Below.{Bases}
use Rattle.pc_types.specs.Join.{join}
use Rattle.pc_types.specs.JoinedTypes.{joined_onto, types_joined}
use Rattle.pc_flow.specs.Environment.{join_onto, join_all}

onto_is : (bases : Bases) (s : Tree) (ts : List Tree) → joined_onto bases s ts ≡ join_onto bases s ts
onto_is bases s [] = refl
onto_is bases s (t ∷ ts) = onto_is bases (unwrap_or (join bases s t) Object) ts

pub joined_is : (bases : Bases) (ts : List Tree) → types_joined bases ts ≡ join_all bases ts
joined_is bases ts = onto_is bases Never ts
