-- Types as trees, and erasure.
-- Typing specification, "Type system concepts" and "Type annotations"; PEP 484, PEP 604.
use Rattle.std.specs.Prelude.{ℕ}

-- types, and the parts of tuple types
mutual
  -- a type: a class is given by its number in the module, a union by two members
  pub data Tree : Type 0 where
    Any Object Never Int Bool Str NoneType : Tree
    Class : (number : ℕ) → Tree
    ListOf : (item : Tree) → Tree
    DictOf : (key value : Tree) → Tree
    TupleOf : (parts : Trees) → Tree
    Union : (left right : Tree) → Tree

  -- the parts of a tuple type
  pub data Trees : Type 0 where
    end : Trees
    more : (first : Tree) (rest : Trees) → Trees

-- a type with each Any replaced by object
abbrev mutual
  pub erase : Tree → Tree
  erase Any = Object
  erase Object = Object
  erase Never = Never
  erase Int = Int
  erase Bool = Bool
  erase Str = Str
  erase NoneType = NoneType
  erase (Class c) = Class c
  erase (ListOf t) = ListOf (erase t)
  erase (DictOf k v) = DictOf (erase k) (erase v)
  erase (TupleOf ts) = TupleOf (erase_each ts)
  erase (Union a b) = Union (erase a) (erase b)

  -- the parts of a tuple with each Any replaced by object
  pub erase_each : Trees → Trees
  erase_each end = end
  erase_each (more t ts) = more (erase t) (erase_each ts)
