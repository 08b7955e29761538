-- Two types meet if their heads do, part by part: Any meets everything, in both directions.
use Rattle.std.proofs.Common.{ℕ}
use Rattle.pc_types.specs.Tree.{Tree, Trees, Any, Object, Never, Int, Bool, Str, NoneType, Class, ListOf, DictOf}
use Rattle.pc_types.specs.Tree.{TupleOf, Union, end, more}
use Rattle.pc_types.specs.Below.{Bases, Below}

mutual
  -- a relation between trees with Any, without a rule for transitivity
  pub data Meets (bases : Bases) : Tree → Tree → Type 0 where
    m_from_any : {t : Tree} → Meets bases Any t
    m_to_any : {s : Tree} → Meets bases s Any
    m_never : {t : Tree} → Meets bases Never t
    m_object : {s : Tree} → Meets bases s Object
    m_int : Meets bases Int Int
    m_bool : Meets bases Bool Bool
    m_bool_int : Meets bases Bool Int
    m_str : Meets bases Str Str
    m_none : Meets bases NoneType NoneType
    m_class : {c d : ℕ} → Below bases (Class c) (Class d) → Meets bases (Class c) (Class d)
    m_list : {s t : Tree} → Meets bases s t → Meets bases t s → Meets bases (ListOf s) (ListOf t)
    m_dict : {j k v w : Tree} → Meets bases j k → Meets bases k j → Meets bases v w → Meets bases w v
        → Meets bases (DictOf j v) (DictOf k w)
    m_tuple : {ss ts : Trees} → EachMeets bases ss ts → Meets bases (TupleOf ss) (TupleOf ts)
    m_both : {a b u : Tree} → Meets bases a u → Meets bases b u → Meets bases (Union a b) u
    m_left : {s a b : Tree} → Meets bases s a → Meets bases s (Union a b)
    m_right : {s a b : Tree} → Meets bases s b → Meets bases s (Union a b)

  pub data EachMeets (bases : Bases) : Trees → Trees → Type 0 where
    m_end : EachMeets bases end end
    m_more : {s t : Tree} {ss ts : Trees} → Meets bases s t → EachMeets bases ss ts
        → EachMeets bases (more s ss) (more t ts)
