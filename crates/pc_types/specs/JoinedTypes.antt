-- The join of several types, such as those of the items of a display.
-- Own rule of the profile.
use Rattle.std.specs.Prelude.{List, [], ◌∷◌, unwrap_or}
use Rattle.pc_types.specs.Tree.{Tree, Object, Never}
use Rattle.pc_types.specs.Below.{Bases}
use Rattle.pc_types.specs.Join.{join}

-- the first type joined with each of the others in turn; a join that does not exist is replaced by object
abbrev pub joined_onto : Bases → Tree → List Tree → Tree
joined_onto bases s [] = s
joined_onto bases s (t ∷ ts) = joined_onto bases (unwrap_or (join bases s t) Object) ts

-- several types joined from the left; Never for no types
abbrev pub types_joined : Bases → List Tree → Tree
types_joined bases ts = joined_onto bases Never ts
