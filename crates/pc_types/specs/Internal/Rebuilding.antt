-- A type built from its head and its parts.
-- Own rule of the profile.
use Rattle.std.specs.Prelude.{ℕ, List, [], ◌∷◌}
use Rattle.pc_types.specs.Tree.{Tree, Any, Object, Never, Int, Bool, Str, NoneType, Class, ListOf, DictOf, TupleOf}
use Rattle.pc_types.specs.Shape.{trees, union}
use Rattle.pc_types.specs.declared.head.Head.{Head}
use Rattle.pc_types.specs.declared.head.Head.TheVariants as heads

-- the type with this head and these parts
abbrev pub rebuilt : Head → List Tree → Tree
rebuilt heads.Any ps = Any
rebuilt heads.Object ps = Object
rebuilt heads.Never ps = Never
rebuilt heads.Int ps = Int
rebuilt heads.Bool ps = Bool
rebuilt heads.Str ps = Str
rebuilt heads.None ps = NoneType
rebuilt (heads.Class c) ps = Class c
rebuilt heads.List (t ∷ []) = ListOf t
rebuilt heads.Dict (k ∷ v ∷ []) = DictOf k v
rebuilt (heads.Tuple n) ps = TupleOf (trees ps)
rebuilt (heads.Union n) ps = union ps
rebuilt _ ps = Never
