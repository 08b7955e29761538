-- The normal form of types: each union has members with different heads, in a fixed order.
-- Own rule of the profile.
use Rattle.std.specs.Prelude.{◌≡◌, ◌⊎◌, ◌<◌, ℕ}
use Rattle.pc_types.specs.Tree.{Tree, Trees, Any, Object, Never, Int, Bool, Str, NoneType, Class, ListOf, DictOf}
use Rattle.pc_types.specs.Tree.{TupleOf, Union, end, more}
use Rattle.pc_types.specs.Below.{Bases, Below}
use Rattle.pc_types.specs.Shape.{count}

-- the rank of a head among the members of a union: tuples by length, classes in the order of the module
abbrev pub member_rank : Tree → ℕ × ℕ
member_rank Int = (1, 0)
member_rank Bool = (2, 0)
member_rank Str = (3, 0)
member_rank NoneType = (4, 0)
member_rank (ListOf t) = (5, 0)
member_rank (DictOf k v) = (6, 0)
member_rank (TupleOf ts) = (7, count ts)
member_rank (Class c) = (8, c)
member_rank _ = (0, 0)

-- the first rank is before the second
abbrev pub IsRankBefore : ℕ × ℕ → ℕ × ℕ → Type 0
IsRankBefore p q = (p.0 < q.0) ⊎ ((p.0 ≡ q.0) × (p.1 < q.1))

-- a type that a union may have as a member: neither Any, object, Never nor a union
abbrev pub IsMember : Tree → Type 0
IsMember Any = ⊥
IsMember Object = ⊥
IsMember Never = ⊥
IsMember (Union a b) = ⊥
IsMember _ = Unit {0}

-- each member of the second comes after the first
abbrev pub IsAfter : Tree → Tree → Type 0
IsAfter a (Union c d) = IsAfter a c × IsAfter a d
IsAfter a b = IsMember b × IsRankBefore (member_rank a) (member_rank b)

-- a type that the keys of a dict may have
abbrev pub IsKey : Tree → Type 0
IsKey Int = Unit {0}
IsKey Str = Unit {0}
IsKey _ = ⊥

-- each union, anywhere, is a first member and the members after it; each dict has int or str keys
abbrev mutual
  pub IsNormal : Tree → Type 0
  IsNormal (ListOf t) = IsNormal t
  IsNormal (DictOf k v) = IsKey k × IsNormal k × IsNormal v
  IsNormal (TupleOf ts) = AreNormal ts
  IsNormal (Union a b) = IsMember a × IsNormal a × IsNormal b × IsAfter a b
  IsNormal _ = Unit {0}

  -- the parts of a tuple, each in normal form
  pub AreNormal : Trees → Type 0
  AreNormal end = Unit {0}
  AreNormal (more t ts) = IsNormal t × AreNormal ts

-- a type in normal form that is made of members: neither Any nor object
abbrev pub IsOfMembers : Tree → Type 0
IsOfMembers Any = ⊥
IsOfMembers Object = ⊥
IsOfMembers t = IsNormal t

-- neither of two members absorbs the other: not bool beside int, nor a class beside its ancestor
abbrev pub IsApart : Bases → Tree → Tree → Type 0
IsApart bases a (Union c d) = IsApart bases a c × IsApart bases a d
IsApart bases Int Bool = ⊥
IsApart bases (Class c) (Class d) = (Below bases (Class c) (Class d) → ⊥) × (Below bases (Class d) (Class c) → ⊥)
IsApart bases _ _ = Unit {0}

-- no member of a union, anywhere, is absorbed by another member
abbrev mutual
  pub IsReduced : Bases → Tree → Type 0
  IsReduced bases (ListOf t) = IsReduced bases t
  IsReduced bases (DictOf k v) = IsReduced bases v
  IsReduced bases (TupleOf ts) = AreReduced bases ts
  IsReduced bases (Union a b) = IsReduced bases a × IsReduced bases b × IsApart bases a b
  IsReduced bases _ = Unit {0}

  -- the parts of a tuple, each without an absorbed member
  pub AreReduced : Bases → Trees → Type 0
  AreReduced bases end = Unit {0}
  AreReduced bases (more t ts) = IsReduced bases t × AreReduced bases ts
