-- An index that serves for every type within the limit of nodes serves for the members of such a type.
use Rattle.std.proofs.Common.{◌≡◌, ◌≤◌, ℕ, refl, ap, arith, Option, ◌∷◌, []}
use Rattle.std.specs.Prelude.{map}
use Rattle.pc_types.specs.Tree.{Tree, Any, Object, Never, Int, Bool, Str, NoneType, Class, ListOf, DictOf, TupleOf}
use Rattle.pc_types.specs.Tree.{Union}
use Rattle.pc_types.specs.Below.{Bases}
use Rattle.pc_types.specs.Shape.{nodes, node_limit, members}
use Rattle.pc_rules.specs.Operations.{Offer, index_member}

module _ (bases : Bases) (a b : Option ℕ) (serves : (x : Bases) (t : Tree) → nodes t ≤ node_limit
    → index_member x a t ≡ index_member x b t) where
  alone : (t : Tree) → nodes t ≤ node_limit → index_member bases a t ∷ [] ≡ index_member bases b t ∷ []
  alone t h = ap (λ (o : Offer). o ∷ []) (serves bases t h)

  pub members_served : (t : Tree) → nodes t ≤ node_limit → map (index_member bases a) (members t)
      ≡ map (index_member bases b) (members t)
  members_served Never h = refl
  members_served (Union x y) h =
      let first : index_member bases a x ≡ index_member bases b x = serves bases x (omega (arith, h)) in
      let rest : map (index_member bases a) (members y) ≡ map (index_member bases b) (members y) =
      members_served y (omega (arith, h)) in
      rw (first, rest) refl
  members_served Any h = alone Any h
  members_served Object h = alone Object h
  members_served Int h = alone Int h
  members_served Bool h = alone Bool h
  members_served Str h = alone Str h
  members_served NoneType h = alone NoneType h
  members_served (Class c) h = alone (Class c) h
  members_served (ListOf t) h = alone (ListOf t) h
  members_served (DictOf k v) h = alone (DictOf k v) h
  members_served (TupleOf ts) h = alone (TupleOf ts) h
