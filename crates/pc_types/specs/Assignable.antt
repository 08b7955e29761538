-- Consistent subtyping: some reading of each Any makes a type a subtype of another.
-- Typing specification, "Type system concepts", materialization and consistent subtyping; PEP 484, "The Any type".
use Rattle.std.specs.Prelude.{ℕ}
use Rattle.pc_types.specs.Tree.{Tree, Trees, Any, Object, Never, Int, Bool, Str, NoneType, Class, ListOf, DictOf}
use Rattle.pc_types.specs.Tree.{TupleOf, Union, end, more}
use Rattle.pc_types.specs.Below.{Bases, Below}

-- a tree without Any
abbrev mutual
  pub IsPlain : Tree → Type 0
  IsPlain Any = ⊥
  IsPlain (ListOf t) = IsPlain t
  IsPlain (DictOf k v) = IsPlain k × IsPlain v
  IsPlain (TupleOf ts) = ArePlain ts
  IsPlain (Union a b) = IsPlain a × IsPlain b
  IsPlain _ = Unit {0}

  -- each part of a tuple is without Any
  pub ArePlain : Trees → Type 0
  ArePlain end = Unit {0}
  ArePlain (more t ts) = IsPlain t × ArePlain ts

-- replacement of each Any, in types and in the parts of tuples
mutual
  -- the second is the first with each Any replaced by a tree without Any, each occurrence independently
  pub data Materializes : Tree → Tree → Type 0 where
    any : {u : Tree} → IsPlain u → Materializes Any u
    object : Materializes Object Object
    never : Materializes Never Never
    int : Materializes Int Int
    bool : Materializes Bool Bool
    str : Materializes Str Str
    none_type : Materializes NoneType NoneType
    class : {c : ℕ} → Materializes (Class c) (Class c)
    list : {t u : Tree} → Materializes t u → Materializes (ListOf t) (ListOf u)
    dict : {k l v w : Tree} → Materializes k l → Materializes v w → Materializes (DictOf k v) (DictOf l w)
    tuple : {ts us : Trees} → FillsEach ts us → Materializes (TupleOf ts) (TupleOf us)
    union : {a b c d : Tree} → Materializes a c → Materializes b d → Materializes (Union a b) (Union c d)

  -- each part of the second tuple is the same part of the first with each Any replaced; both have the same length
  pub data FillsEach : Trees → Trees → Type 0 where
    none : FillsEach end end
    one : {t u : Tree} {ts us : Trees} → Materializes t u → FillsEach ts us → FillsEach (more t ts) (more u us)

-- some replacement of each Any in the two, each occurrence independently, makes the first a subtype of the second
pub record Assignable (bases : Bases) (s t : Tree) : Type 0 where
  pub filled_left : Tree
  pub filled_right : Tree
  pub fills_left : Materializes s filled_left
  pub fills_right : Materializes t filled_right
  pub is_below : Below bases filled_left filled_right
