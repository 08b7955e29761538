-- The head of a type, as a store returns it.
-- Own rule of the profile.
use Rattle.std.specs.Prelude.{ℕ, length}
use Rattle.pc_types.specs.Tree.{Tree, Any, Object, Never, Int, Bool, Str, NoneType, Class, ListOf, DictOf, TupleOf}
use Rattle.pc_types.specs.Tree.{Union}
use Rattle.pc_types.specs.Shape.{count, members}
use Rattle.pc_types.specs.declared.head.Head.{Head}
use Rattle.pc_types.specs.declared.head.Head.TheVariants as heads

-- the head of a type; a tuple's head has its length, a class's its number, a union's the number of its members
abbrev pub head_of : Tree → Head
head_of Any = heads.Any
head_of Object = heads.Object
head_of Never = heads.Never
head_of Int = heads.Int
head_of Bool = heads.Bool
head_of Str = heads.Str
head_of NoneType = heads.None
head_of (Class c) = heads.Class c
head_of (ListOf t) = heads.List
head_of (DictOf k v) = heads.Dict
head_of (TupleOf ts) = heads.Tuple (count ts)
head_of (Union a b) = heads.Union (length (members (Union a b)))

-- the number of parts of a type with this head
abbrev pub part_count : Head → ℕ
part_count heads.List = 1
part_count heads.Dict = 2
part_count (heads.Tuple n) = n
part_count (heads.Union n) = n
part_count _ = 0
