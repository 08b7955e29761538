-- The join of two types: by cases, or else member by member.
-- Own rule of the profile; typing specification, "Type system concepts", union types; PEP 604.
use Rattle.std.specs.Prelude.{◌≡◌, ℕ, zero, suc, ◌==◌, ◌&&◌, ◌||◌, Bool as Test, true, false, not, nat_lt, nat_le}
use Rattle.std.specs.Prelude.{if◌then◌else◌, List, [], ◌∷◌, filter, Option, Some, None, option_and_then}
use Rattle.std.specs.List.{list_any}
use Rattle.std.specs.Option.{option_map, option_map_or}
use Rattle.pc_types.specs.Tree.{Tree, Trees, Any, Object, Never, Int, Bool, Str, NoneType, Class, ListOf, DictOf}
use Rattle.pc_types.specs.Tree.{TupleOf, Union, end, more}
use Rattle.pc_types.specs.Below.{Bases, base_of}
use Rattle.pc_types.specs.Shape.{nodes, node_limit, members, ahead, union}
use Rattle.pc_types.specs.Normal.{member_rank}

-- whether two types are equal
abbrev mutual
  pub same_tree : Tree → Tree → Test
  same_tree Any Any = true
  same_tree Object Object = true
  same_tree Never Never = true
  same_tree Int Int = true
  same_tree Bool Bool = true
  same_tree Str Str = true
  same_tree NoneType NoneType = true
  same_tree (Class c) (Class d) = c == d
  same_tree (ListOf s) (ListOf t) = same_tree s t
  same_tree (DictOf j v) (DictOf k w) = same_tree j k && same_tree v w
  same_tree (TupleOf ss) (TupleOf ts) = same_trees ss ts
  same_tree (Union a b) (Union c d) = same_tree a c && same_tree b d
  same_tree _ _ = false

  -- whether two tuples have equal parts
  pub same_trees : Trees → Trees → Test
  same_trees end end = true
  same_trees (more s ss) (more t ts) = same_tree s t && same_trees ss ts
  same_trees _ _ = false

-- whether a class is another one or has it as an ancestor at most this many steps up
abbrev pub reaches : Bases → ℕ → ℕ → ℕ → Test
reaches bases zero c d = c == d
reaches bases (suc n) c d = (c == d) || option_map_or (λ b. reaches bases n b d) (base_of bases c) false

-- whether the first absorbs the second in a union of both: int absorbs bool, a class absorbs its descendants
abbrev pub absorbs : Bases → Tree → Tree → Test
absorbs bases Int Bool = true
absorbs bases (Class d) (Class c) = not (c == d) && reaches bases c c d
absorbs bases _ _ = false

-- whether some member of a type absorbs a member
abbrev pub is_absorbed : Bases → Tree → Tree → Test
is_absorbed bases m t = list_any (λ n. absorbs bases n m) (members t)

-- the members of the first type that no member of the second absorbs
abbrev pub unabsorbed_members : Bases → Tree → Tree → List Tree
unabsorbed_members bases t other = filter (λ m. not (is_absorbed bases m other)) (members t)

-- whether the first member comes before the second in a union
abbrev pub is_before : Tree → Tree → Test
is_before m n = nat_lt (member_rank m).0 (member_rank n).0
    || (((member_rank m).0 == (member_rank n).0) && nat_lt (member_rank m).1 (member_rank n).1)

-- a list of members with one more in its place, merged with a member of equal rank; none if the two cannot be merged
abbrev pub put_among : Tree → (Tree → Option Tree) → List Tree → Option (List Tree)
put_among m one [] = Some (m ∷ [])
put_among m one (n ∷ ns) =
    if is_before m n then Some (m ∷ n ∷ ns)
    else (if is_before n m then option_map (λ l. n ∷ l) (put_among m one ns) else option_map (λ f. f ∷ ns) (one n))

-- the parts of a tuple; any other type has none
abbrev pub parts_of : Tree → Trees
parts_of (TupleOf ts) = ts
parts_of _ = end

-- two types of one head merged, which must be equal
abbrev pub equal_one : Tree → Tree → Option Tree
equal_one m n = if same_tree m n then Some m else None

-- a first part and the others, if both exist
abbrev pub both_parts : Option Tree → Option Trees → Option Trees
both_parts (Some t) (Some ts) = Some (more t ts)
both_parts _ _ = None

-- the join by rule: Never yields the other type; else Any if either is Any; else object if either is object; else the
-- join by members
abbrev pub by_rule : Tree → Tree → Option Tree → Option Tree
by_rule Never t join_of = Some t
by_rule s Never join_of = Some s
by_rule Any t join_of = Some Any
by_rule s Any join_of = Some Any
by_rule Object t join_of = Some Object
by_rule s Object join_of = Some Object
by_rule s t join_of = join_of

-- the join of two types, given their merged members: of equal types the type itself, else by rule
abbrev pub join_by_members : Tree → Tree → Option (List Tree) → Option Tree
join_by_members s t together = if same_tree s t then Some s else by_rule s t (option_map union together)

-- the merged members of two types, and the joined parts of two tuples
abbrev mutual
  -- a list of members with those of a type that the other type does not absorb; two lists or dicts must be equal, two
  -- tuples are joined part by part
  pub put_all : Bases → Tree → Tree → List Tree → Option (List Tree)
  put_all bases other Never ms = Some ms
  put_all bases other (Union a b) ms = option_and_then (λ l. put_all bases other a l) (put_all bases other b ms)
  put_all bases other (TupleOf ss) ms =
      if is_absorbed bases (TupleOf ss) other then Some ms
      else put_among (TupleOf ss) (λ n. option_map TupleOf (join_each bases ss (parts_of n))) ms
  put_all bases other m ms = if is_absorbed bases m other then Some ms else put_among m (equal_one m) ms

  -- the parts of two tuples joined one by one
  pub join_each : Bases → Trees → Trees → Option Trees
  join_each bases end end = Some end
  join_each bases (more s ss) (more t ts) =
      both_parts (join_by_members s t (put_all bases t s (unabsorbed_members bases t s))) (join_each bases ss ts)
  join_each bases _ _ = None

-- two types of one head merged: tuples part by part, other types if they are equal
abbrev pub one_of : Bases → Tree → Tree → Option Tree
one_of bases (TupleOf ss) n = option_map TupleOf (join_each bases ss (parts_of n))
one_of bases m n = equal_one m n

-- the join of two types, whatever its size
abbrev pub join_of : Bases → Tree → Tree → Option Tree
join_of bases s t = join_by_members s t (put_all bases t s (unabsorbed_members bases t s))

-- a type if it is within the limit of nodes
abbrev pub within_limit : Option Tree → Option Tree
within_limit None = None
within_limit (Some t) = if nat_le (nodes t) node_limit then Some t else None

-- the join of two types, or none if a part has none or the join has too many nodes
abbrev pub join : Bases → Tree → Tree → Option Tree
join bases s t = within_limit (join_of bases s t)

-- a first member of a type and a type with the others (private to this crate)
abbrev pub IsSplit : Tree → Tree → Tree → Type 0
IsSplit Never m rest = ⊥
IsSplit (Union a b) m rest = (m ≡ a) × (rest ≡ b)
IsSplit t m rest = (m ≡ t) × (rest ≡ Never)

-- a member ahead of others, unless another type absorbs it (private to this crate)
abbrev pub kept_with : Bases → Tree → Tree → Option Tree → Option Tree
kept_with bases m other rest = if is_absorbed bases m other then rest else option_map (ahead m) rest

-- a member ahead of others, if both exist (private to this crate)
abbrev pub ahead_of : Option Tree → Option Tree → Option Tree
ahead_of None rest = None
ahead_of (Some m) rest = option_map (ahead m) rest

-- two members of one head, merged into one, ahead of others; one that the other side absorbs is dropped (private to
-- this crate)
abbrev pub one_with : Bases → Tree → Tree → Tree → Tree → Option Tree → Option Tree
one_with bases left right a b rest =
    if is_absorbed bases b left then kept_with bases a right rest
    else (if is_absorbed bases a right then option_map (ahead b) rest else ahead_of (one_of bases a b) rest)
