-- A static subtype is assignable.
use Rattle.pc_types.specs.Tree.{Tree, Trees, Any, Object, Never, Int, Bool, Str, NoneType, Class, ListOf, DictOf}
use Rattle.pc_types.specs.Tree.{TupleOf, Union, end, more, erase, erase_each}
use Rattle.pc_types.specs.Below.{Bases, Static}
use Rattle.pc_types.specs.Assignable.{Materializes, FillsEach, Assignable}
use Rattle.pc_types.specs.Assignable as fills

mutual
  fills_erased : (t : Tree) → Materializes t (erase t)
  fills_erased Any = fills.any tt
  fills_erased Object = fills.object
  fills_erased Never = fills.never
  fills_erased Int = fills.int
  fills_erased Bool = fills.bool
  fills_erased Str = fills.str
  fills_erased NoneType = fills.none_type
  fills_erased (Class c) = fills.class
  fills_erased (ListOf t) = fills.list (fills_erased t)
  fills_erased (DictOf s t) = fills.dict (fills_erased s) (fills_erased t)
  fills_erased (TupleOf ts) = fills.tuple (fills_erased_each ts)
  fills_erased (Union s t) = fills.union (fills_erased s) (fills_erased t)

  fills_erased_each : (ts : Trees) → FillsEach ts (erase_each ts)
  fills_erased_each end = fills.none
  fills_erased_each (more t ts) = fills.one (fills_erased t) (fills_erased_each ts)

-- a static subtype is assignable: its types are filled as they are erased
pub static_assignable : (bases : Bases) (s t : Tree) → Static bases s t → Assignable bases s t
static_assignable bases s t h = record {
  filled_left = erase s;
  filled_right = erase t;
  fills_left = fills_erased s;
  fills_right = fills_erased t;
  is_below = h;
}
