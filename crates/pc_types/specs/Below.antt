-- Subtyping of types without Any, and static subtyping.
-- Typing specification, "Type system concepts", subtype relations; PEP 484, "Generics" (lists and dicts are invariant);
-- PEP 604.
use Rattle.std.specs.Prelude.{◌≡◌, ◌<◌, ℕ, List, Option, Some, None, slice_index_or}
use Rattle.pc_types.specs.Tree.{Tree, Trees, Object, Never, Int, Bool, Class, ListOf, DictOf, TupleOf, Union, end, more}
use Rattle.pc_types.specs.Tree.{erase}

-- for each class the number of its base, or none
abbrev pub Bases : Type 0
Bases = List (Option ℕ)

-- the base of a class; a class beyond the list has none
abbrev pub base_of : Bases → ℕ → Option ℕ
base_of bases c = slice_index_or bases c None

-- the base of each class has a smaller number than the class
abbrev pub AreSmaller : Bases → Type 0
AreSmaller bases = (c b : ℕ) → base_of bases c ≡ Some b → b < c

-- subtyping, of types and of the parts of tuples
mutual
  -- the first is a subtype of the second: the least relation with these rules
  pub data Below (bases : Bases) : Tree → Tree → Type 0 where
    same : {s : Tree} → Below bases s s
    through : {s t u : Tree} → Below bases s t → Below bases t u → Below bases s u
    never : {t : Tree} → Below bases Never t
    object : {s : Tree} → Below bases s Object
    bool_int : Below bases Bool Int
    base : {c b : ℕ} → base_of bases c ≡ Some b → Below bases (Class c) (Class b)
    left : {a b : Tree} → Below bases a (Union a b)
    right : {a b : Tree} → Below bases b (Union a b)
    both : {a b u : Tree} → Below bases a u → Below bases b u → Below bases (Union a b) u
    tuple : {ss ts : Trees} → EachBelow bases ss ts → Below bases (TupleOf ss) (TupleOf ts)
    list : {s t : Tree} → Below bases s t → Below bases t s → Below bases (ListOf s) (ListOf t)
    dict : {j k v w : Tree} → Below bases j k → Below bases k j → Below bases v w → Below bases w v
        → Below bases (DictOf j v) (DictOf k w)

  -- two tuples have the same length, and each part of the first is a subtype of the same part of the second
  pub data EachBelow (bases : Bases) : Trees → Trees → Type 0 where
    none : EachBelow bases end end
    one : {s t : Tree} {ss ts : Trees} → Below bases s t → EachBelow bases ss ts
        → EachBelow bases (more s ss) (more t ts)

-- the first is a subtype of the second, with each Any in both read as object
abbrev pub Static : Bases → Tree → Tree → Type 0
Static bases s t = Below bases (erase s) (erase t)
