-- The form of a type: its nodes, parts and members.
-- Own rule of the profile.
use Rattle.std.specs.Prelude.{ℕ, ◌+◌, List, [], ◌∷◌}
use Rattle.pc_types.specs.Tree.{Tree, Trees, Never, ListOf, DictOf, TupleOf, Union, end, more}

-- the largest number of nodes of a type
abbrev pub node_limit : ℕ
node_limit = 256

-- the number of nodes of a type: one, and those of its parts; a union has two parts
abbrev mutual
  pub nodes : Tree → ℕ
  nodes (ListOf t) = 1 + nodes t
  nodes (DictOf k v) = 1 + nodes k + nodes v
  nodes (TupleOf ts) = 1 + nodes_of ts
  nodes (Union a b) = 1 + nodes a + nodes b
  nodes _ = 1

  -- the number of nodes of the parts of a tuple together
  pub nodes_of : Trees → ℕ
  nodes_of end = 0
  nodes_of (more t ts) = nodes t + nodes_of ts

-- the number of parts of a tuple
abbrev pub count : Trees → ℕ
count end = 0
count (more t ts) = count ts + 1

-- the parts of a tuple, as a list
abbrev pub list_of_trees : Trees → List Tree
list_of_trees end = []
list_of_trees (more t ts) = t ∷ list_of_trees ts

-- a list of types as the parts of a tuple
abbrev pub trees : List Tree → Trees
trees [] = end
trees (t ∷ ts) = more t (trees ts)

-- the members of a type: none of Never, those of a union in order, else the type itself
abbrev pub members : Tree → List Tree
members Never = []
members (Union a b) = a ∷ members b
members t = t ∷ []

-- a member put ahead of the members of a type
abbrev pub ahead : Tree → Tree → Tree
ahead m Never = m
ahead m t = Union m t

-- the type with these members
abbrev pub union : List Tree → Tree
union [] = Never
union (t ∷ ts) = ahead t (union ts)

-- the parts of a type: a list's item, a dict's key and value, a tuple's parts, a union's members
abbrev pub parts : Tree → List Tree
parts (ListOf t) = t ∷ []
parts (DictOf k v) = k ∷ v ∷ []
parts (TupleOf ts) = list_of_trees ts
parts (Union a b) = a ∷ members b
parts _ = []
