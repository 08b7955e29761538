-- Well-formed types: atoms, the parts and the members of a type, lists of types, joins.
use Rattle.std.proofs.Common.{◌≤◌, ◌+◌, ◌++◌, ℕ, zero, suc, Bool as Test, true, false, List, [], ◌∷◌, Option, Some}
use Rattle.std.proofs.Common.{None, arith}
use Rattle.std.specs.Prelude.{if◌then◌else◌, unwrap_or, slice_get}
use Rattle.pc_types.specs.Tree.{Tree, Trees, Any, Object, Never, Int, Bool, Str, NoneType, Class, ListOf, DictOf}
use Rattle.pc_types.specs.Tree.{TupleOf, Union, end, more}
use Rattle.pc_types.specs.Below.{Bases, AreSmaller}
use Rattle.pc_types.specs.Shape.{nodes, nodes_of, members, list_of_trees, trees}
use Rattle.pc_types.specs.Normal.{IsKey, AreNormal, AreReduced}
use Rattle.pc_flow.specs.Environment.{join_or_object, join_onto, join_all}
use Rattle.pc_types.specs.WellFormed.{IsWellFormed}
use Rattle.pc_flow.specs.WellFormed.{IsWellFormedIfAny, AreWellFormed}
use Rattle.pc_flow.proofs.Conditions.{join_object_well_formed}

module _ (bases : Bases) where
  pub any_well_formed : IsWellFormed bases Any
  any_well_formed = (tt, tt, omega arith)

  pub object_well_formed : IsWellFormed bases Object
  object_well_formed = (tt, tt, omega arith)

  pub never_well_formed : IsWellFormed bases Never
  never_well_formed = (tt, tt, omega arith)

  pub int_well_formed : IsWellFormed bases Int
  int_well_formed = (tt, tt, omega arith)

  pub bool_well_formed : IsWellFormed bases Bool
  bool_well_formed = (tt, tt, omega arith)

  pub str_well_formed : IsWellFormed bases Str
  str_well_formed = (tt, tt, omega arith)

  pub none_well_formed : IsWellFormed bases NoneType
  none_well_formed = (tt, tt, omega arith)

  pub class_well_formed : (c : ℕ) → IsWellFormed bases (Class c)
  class_well_formed c = (tt, tt, omega arith)

  -- the parts of a type
  pub item_well_formed : (t : Tree) → IsWellFormed bases (ListOf t) → IsWellFormed bases t
  item_well_formed t h = let k : 1 + nodes t ≤ 256 = h.2 in (h.0, h.1, omega (arith, k))

  key_of : (k : Tree) → IsKey k → IsWellFormed bases k
  key_of Int h = int_well_formed
  key_of Str h = str_well_formed
  key_of _ h = absurd h

  pub key_well_formed : (k v : Tree) → IsWellFormed bases (DictOf k v) → IsWellFormed bases k
  key_well_formed k v h = key_of k h.0.0

  pub value_well_formed : (k v : Tree) → IsWellFormed bases (DictOf k v) → IsWellFormed bases v
  value_well_formed k v h = let e : 1 + nodes k + nodes v ≤ 256 = h.2 in (h.0.2, h.1, omega (arith, e))

  listed_well_formed : (ts : Trees) → AreNormal ts → AreReduced bases ts → nodes_of ts ≤ 256
      → AreWellFormed bases (list_of_trees ts)
  listed_well_formed end n r h = tt
  listed_well_formed (more t ts) n r h = (
    (n.0, r.0, omega (arith, h)),
    listed_well_formed ts n.1 r.1
        (omega (arith, h)),
  )

  pub parts_well_formed : (ts : Trees) → IsWellFormed bases (TupleOf ts) → AreWellFormed bases (list_of_trees ts)
  parts_well_formed ts h = let e : 1 + nodes_of ts ≤ 256 = h.2 in listed_well_formed ts h.0 h.1 (omega (arith, e))

  pub members_well_formed : (t : Tree) → IsWellFormed bases t → AreWellFormed bases (members t)
  members_well_formed Never h = tt
  members_well_formed (Union a b) h =
      let e : 1 + nodes a + nodes b ≤ 256 = h.2 in
      ((h.0.1, h.1.0, omega (arith, e)), members_well_formed b ((h.0.2, h.1.1, omega (arith, e))))
  members_well_formed _ h = (h, tt)

  pub trees_normal : (ts : List Tree) → AreWellFormed bases ts → AreNormal (trees ts) × AreReduced bases (trees ts)
  trees_normal [] h = (tt, tt)
  trees_normal (t ∷ ts) h = let r = trees_normal ts h.1 in ((h.0.0, r.0), (h.0.1, r.1))

  pub at_well_formed : (ts : List Tree) (i : ℕ) → AreWellFormed bases ts → IsWellFormedIfAny bases (slice_get ts i)
  at_well_formed [] i h = tt
  at_well_formed (t ∷ ts) zero h = h.0
  at_well_formed (t ∷ ts) (suc i) h = at_well_formed ts i h.1

  pub unwrap_well_formed : (o : Option Tree) (t : Tree) → IsWellFormedIfAny bases o → IsWellFormed bases t
      → IsWellFormed bases (unwrap_or o t)
  unwrap_well_formed None t h k = k
  unwrap_well_formed (Some s) t h k = h

  pub append_well_formed : (ss ts : List Tree) → AreWellFormed bases ss → AreWellFormed bases ts
      → AreWellFormed bases (ss ++ ts)
  append_well_formed [] ts h k = k
  append_well_formed (s ∷ ss) ts h k = (h.0, append_well_formed ss ts h.1 k)

  pub if_any : (b : Test) (t : Tree) → IsWellFormed bases t → IsWellFormed bases (if b then Any else t)
  if_any true t h = any_well_formed
  if_any false t h = h

  pub if_none : (b : Test) (ts : List Tree) → AreWellFormed bases ts → AreWellFormed bases (if b then [] else ts)
  if_none true ts h = tt
  if_none false ts h = h

  -- ---- joins

  module _ (o : AreSmaller bases) where
    onto_well_formed : (s : Tree) (ts : List Tree) → IsWellFormed bases s → AreWellFormed bases ts
        → IsWellFormed bases (join_onto bases s ts)
    onto_well_formed s [] h k = h
    onto_well_formed s (t ∷ ts) h k = onto_well_formed (join_or_object bases s t) ts
        (join_object_well_formed bases s t o h k.0) k.1

    pub all_well_formed : (ts : List Tree) → AreWellFormed bases ts → IsWellFormed bases (join_all bases ts)
    all_well_formed ts h = onto_well_formed Never ts never_well_formed h
