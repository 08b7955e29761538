-- Nodes, members and parts: their numbers, and the place of each part.
use Rattle.std.proofs.Common.{◌≡◌, ℕ, zero, suc, ◌+◌, ◌<◌, ◌≤◌, length, take, ◌++◌, get_or, map, List, [], ◌∷◌, Vec}
use Rattle.std.proofs.Common.{Global, All, Some, Result, Ok, Err, IfOk, refl, sym, ap, ◌∙◌, subst, arith}
use Rattle.std.proofs.lemmas.List.{take_more}
use Rattle.std.proofs.lemmas.List.Elements.{All-nil, All-cons, All-head, All-tail}
use Rattle.std.specs.List.{slice_get}
use Rattle.pc_types.specs.Tree.{Tree, Trees, ListOf, DictOf, TupleOf, Union, end, more}
use Rattle.pc_types.specs.Shape.{count, nodes, nodes_of, node_limit, members, parts, list_of_trees, trees}
use Rattle.pc_types.specs.Head.{head_of, part_count}
use Rattle.pc_types.specs.Normal.{IsNormal, AreNormal}
use Rattle.pc_types.specs.Boxed.{tree_of, trees_in, IsGiven}
use Rattle.pc_types.specs.declared.boxed.BoxType.{BoxType}
use Rattle.pc_types.specs.declared.boxed.BoxType.TheVariants as ty
use Rattle.pc_types.proofs.Tuples.{tuple_is, tuple_tree}

pub some_node : (t : Tree) → 1 ≤ nodes t
some_node (ListOf t) = omega arith
some_node (DictOf k v) = omega arith
some_node (TupleOf ts) = omega arith
some_node (Union a b) = omega arith
some_node _ = omega arith

-- no more members than nodes
pub members_nodes : (t : Tree) → length (members t) ≤ nodes t
members_nodes (Union a b) = omega (arith, members_nodes b, some_node a)
members_nodes Rattle.pc_types.specs.Tree.Never = omega arith
members_nodes (ListOf t) = omega arith
members_nodes (DictOf k v) = omega arith
members_nodes (TupleOf ts) = omega arith
members_nodes _ = omega arith

pub listed_trees : (ts : List Tree) → list_of_trees (trees ts) ≡ ts
listed_trees [] = refl
listed_trees (t ∷ ts) = ap (λ l. t ∷ l) (listed_trees ts)

-- the parts of a tuple in boxes are what its items mean
pub tuple_parts : (t : BoxType) (v : Vec BoxType Global) → t ≡ ty.Tuple v → parts (tree_of t) ≡ map tree_of v.items
tuple_parts t v e = ap parts (tuple_is t v e) ∙ listed_trees (map tree_of v.items)

nodes_push : (ts : List BoxType) (t : BoxType) → nodes_of (trees_in (ts ++ t ∷ [])) ≡ nodes_of (trees_in ts) + nodes
    (tree_of t)
nodes_push [] t = omega arith
nodes_push (u ∷ ts) t = omega (arith, nodes_push ts t)

-- one more of the types that a loop goes over
pub nodes_more : (ts : List BoxType) (k : ℕ) (x : BoxType) → k < length ts → x ≡ get_or ts k x
    → nodes_of (trees_in (take (k + 1) ts)) ≡ nodes_of (trees_in (take k ts)) + nodes (tree_of x)
nodes_more ts k x h e =
    ap (λ l. nodes_of (trees_in l)) (take_more ts k x h) ∙ nodes_push (take k ts) (get_or ts k x)
    ∙ ap (λ y. nodes_of (trees_in (take k ts)) + nodes (tree_of y)) (sym e)

all_normal : (ts : List BoxType) → All IsGiven ts → AreNormal (trees_in ts)
all_normal [] h = tt
all_normal (t ∷ ts) h = ((All-head IsGiven t ts h).normal, all_normal ts (All-tail IsGiven t ts h))

-- a tuple of types that the store gave, in boxes, within the limit
pub tuple_given : (v : Vec BoxType Global) (ts : List BoxType) → map tree_of v.items ≡ map tree_of ts → All IsGiven ts
    → nodes_of (trees_in ts) < 256 → IsGiven (ty.Tuple v) × (tree_of (ty.Tuple v) ≡ TupleOf (trees_in ts))
tuple_given v ts e h l =
    let q : tree_of (ty.Tuple v) ≡ TupleOf (trees_in ts) = tuple_tree v ∙ ap (λ x. TupleOf (trees x)) e in
    let n : nodes (tree_of (ty.Tuple v)) ≡ 1 + nodes_of (trees_in ts) = ap nodes q in
    (record { small = omega (arith, n); normal = subst IsNormal (sym q) (all_normal ts h) }, q)

-- a part is in normal form, and has no more nodes than the whole
pub record IsWithin (t p : Tree) : Type 0 where
  pub small : nodes p ≤ nodes t
  pub normal : IsNormal p

only : (t p : Tree) (k : ℕ) → IsNormal t → slice_get (t ∷ []) k ≡ Some p → IsWithin t p
only t p zero n e = let q : t ≡ p = cc in subst (IsWithin t) q (record { small = omega arith; normal = n })
only t p (suc k) n e = cc

member_within : (t : Tree) (k : ℕ) (p : Tree) → IsNormal t → slice_get (members t) k ≡ Some p → IsWithin t p
member_within (Union a b) zero p n e = let q : a ≡ p = cc in subst (IsWithin (Union a b)) q
    (record { small = omega arith; normal = n.1 })
member_within (Union a b) (suc k) p n e = let r = member_within b k p n.2 e in let s = r.small in
    record { small = omega arith; normal = r.normal }
member_within Rattle.pc_types.specs.Tree.Never zero p n e = cc
member_within Rattle.pc_types.specs.Tree.Never (suc k) p n e = cc
member_within t k p n e = only t p k n e

listed_within : (ts : Trees) (k : ℕ) (p : Tree) → AreNormal ts → slice_get (list_of_trees ts) k ≡ Some p
    → (nodes p ≤ nodes_of ts) × IsNormal p
listed_within end zero p n e = cc
listed_within end (suc k) p n e = cc
listed_within (more t ts) zero p n e = let q : t ≡ p = cc in subst (λ x. (nodes x ≤ nodes_of (more t ts)) × IsNormal x)
    q (omega arith, n.0)
listed_within (more t ts) (suc k) p n e = let r = listed_within ts k p n.1 e in (omega (arith, r.0), r.1)

pub part_within : (t : Tree) (k : ℕ) (p : Tree) → IsNormal t → slice_get (parts t) k ≡ Some p → IsWithin t p
part_within (ListOf t) k p n e = let r = only t p k n e in let s = r.small in
    record { small = omega arith; normal = r.normal }
part_within (DictOf j v) zero p n e = let q : j ≡ p = cc in subst (IsWithin (DictOf j v)) q
    (record { small = omega arith; normal = n.1 })
part_within (DictOf j v) (suc k) p n e = let r = only v p k n.2 e in let s = r.small in
    record { small = omega arith; normal = r.normal }
part_within (TupleOf ts) k p n e = let r = listed_within ts k p n e in let s = r.0 in
    record { small = omega arith; normal = r.1 }
part_within (Union a b) k p n e = member_within (Union a b) k p n e
part_within _ zero p n e = cc
part_within _ (suc k) p n e = cc

-- a copy of a part of a type that the store gave is one that the store may give
pub part_given : {E : Type 0} (t p : BoxType) (k : ℕ) (r : Result BoxType E) → IsGiven t
    → slice_get (parts (tree_of t)) k ≡ Some (tree_of p) → IfOk r (λ c. tree_of c ≡ tree_of p)
    → IfOk r (λ c. IsGiven c × (slice_get (parts (tree_of t)) k ≡ Some (tree_of c)))
part_given t p k (Ok c) g e h =
    let q : slice_get (parts (tree_of t)) k ≡ Some (tree_of c) = e ∙ ap Some (sym h) in
    let w = part_within (tree_of t) k (tree_of c) g.normal q in
    let s = w.small in
    let m = g.small in
    (record { small = omega arith; normal = w.normal }, q)
part_given t p k (Err x) g e h = tt

listed_count : (ts : Trees) → length (list_of_trees ts) ≡ count ts
listed_count end = refl
listed_count (more t ts) = omega (arith, listed_count ts)

-- a type has as many parts as its head says
pub parts_count : (t : Tree) → length (parts t) ≡ part_count (head_of t)
parts_count (TupleOf ts) = listed_count ts
parts_count (Union a b) = refl
parts_count (ListOf t) = refl
parts_count (DictOf k v) = refl
parts_count _ = refl

all_got : {X : Type 0} (P : X → Type 0) (xs : List X) → ((k : ℕ) (x : X) → slice_get xs k ≡ Some x → P x) → All P xs
all_got P [] f = All-nil P
all_got P (x ∷ xs) f = All-cons P x xs (f zero x refl) (all_got P xs (λ k y e. f (suc k) y e))

-- types in boxes that mean what is within a type that the store gave are ones that the store may give
given_each : (t : BoxType) (ts : List BoxType) → IsGiven t → All (IsWithin (tree_of t)) (map tree_of ts)
    → All IsGiven ts
given_each t [] g h = All-nil IsGiven
given_each t (u ∷ ts) g h =
    let w = All-head (IsWithin (tree_of t)) (tree_of u) (map tree_of ts) h in
    let s = w.small in
    let m = g.small in
    All-cons IsGiven u ts (record { small = omega arith; normal = w.normal })
    (given_each t ts g (All-tail (IsWithin (tree_of t)) (tree_of u) (map tree_of ts) h))

-- the members of a type that the store gave, in boxes
pub members_given : {E : Type 0} (t : BoxType) (r : Result (Vec BoxType Global) E) → IsGiven t
    → IfOk r (λ v. map tree_of v.items ≡ members (tree_of t)) → IfOk r (λ v. All IsGiven v.items)
members_given t (Ok v) g e =
    given_each t v.items g (subst (All (IsWithin (tree_of t))) (sym e)
    (all_got (IsWithin (tree_of t)) (members (tree_of t)) (λ k p h. member_within (tree_of t) k p g.normal h)))
members_given t (Err x) g e = tt

-- its parts
pub parts_given : {E : Type 0} (t : BoxType) (r : Result (Vec BoxType Global) E) → IsGiven t
    → IfOk r (λ v. map tree_of v.items ≡ parts (tree_of t)) → IfOk r (λ v. All IsGiven v.items)
parts_given t (Ok v) g e =
    given_each t v.items g (subst (All (IsWithin (tree_of t))) (sym e)
    (all_got (IsWithin (tree_of t)) (parts (tree_of t)) (λ k p h. part_within (tree_of t) k p g.normal h)))
parts_given t (Err x) g e = tt

-- a type in boxes that means a tree in normal form within the limit is one that the store may give
pub given_as : (u : BoxType) (t : Tree) → tree_of u ≡ t → IsNormal t → nodes t ≤ node_limit → IsGiven u
given_as u t e n l = record { small = subst (λ x. nodes x ≤ node_limit) (sym e) l; normal = subst IsNormal (sym e) n }
