-- The number of nodes of several types together.
use Rattle.std.proofs.Common.{◌≡◌, ◌<◌, ◌≤◌, ◌+◌, ◌-◌, ℕ, zero, suc, List, [], ◌∷◌, ◌++◌, length, map, take, get_or}
use Rattle.std.proofs.Common.{refl, ap, arith}
use Rattle.pc_types.specs.Tree.{Tree, TupleOf}
use Rattle.pc_types.specs.Shape.{nodes, nodes_of, node_limit, trees}
use Rattle.pc_intern.specs.declared.store.TypeId.{TypeId}
use Rattle.pc_intern.specs.Store.{tree_of_type}
use Rattle.pc_intern.proofs.Held.{meant_more}

-- the nodes of two lists of types are those of both
nodes_both : (xs ys : List Tree) → nodes_of (trees (xs ++ ys)) ≡ nodes_of (trees xs) + nodes_of (trees ys)
nodes_both [] ys = omega arith
nodes_both (x ∷ xs) ys = omega (arith, nodes_both xs ys)

-- one more type
pub nodes_more : (tys : List TypeId) (k n more : ℕ) (x : TypeId) → k < length tys → x ≡ get_or tys k x
    → more ≡ nodes (tree_of_type x) → n ≡ nodes (TupleOf (trees (map tree_of_type (take k tys))))
    → n + more ≡ nodes (TupleOf (trees (map tree_of_type (take (k + 1) tys))))
nodes_more tys k n more x l read h e =
    let p = ap (λ ts. nodes_of (trees ts)) (meant_more tys k x l read) in
    let q = nodes_both (map tree_of_type (take k tys)) (tree_of_type x ∷ []) in
    let r : nodes_of (trees (tree_of_type x ∷ [])) ≡ nodes (tree_of_type x) + 0 = refl in
    let u : nodes (TupleOf (trees (map tree_of_type (take k tys)))) ≡ 1 + nodes_of (trees (map tree_of_type (take k tys))) = refl in
    let v : nodes (TupleOf (trees (map tree_of_type (take (k + 1) tys))))
    ≡ 1 + nodes_of (trees (map tree_of_type (take (k + 1) tys))) = refl in
    omega (arith, p, q, r, u, v, h, e)

-- some of the types have no more nodes than all
pub nodes_within : (n : ℕ) (tys : List TypeId) → nodes_of (trees (map tree_of_type (take n tys)))
    ≤ nodes_of (trees (map tree_of_type tys))
nodes_within zero tys = omega arith
nodes_within (suc n) [] = omega arith
nodes_within (suc n) (t ∷ ts) = omega (arith, nodes_within n ts)

-- with one more that makes them too many, all are
pub too_many : (tys : List TypeId) (k n more : ℕ) (x : TypeId) → k < length tys → x ≡ get_or tys k x
    → more ≡ nodes (tree_of_type x) → n ≡ nodes (TupleOf (trees (map tree_of_type (take k tys)))) → n ≤ 256 → 256 - n < more
    → node_limit < nodes (TupleOf (trees (map tree_of_type tys)))
too_many tys k n more x l read h e small m =
    let v : nodes (TupleOf (trees (map tree_of_type (take (k + 1) tys))))
    ≡ 1 + nodes_of (trees (map tree_of_type (take (k + 1) tys))) = refl in
    let w : nodes (TupleOf (trees (map tree_of_type tys))) ≡ 1 + nodes_of (trees (map tree_of_type tys)) = refl in
    omega (arith, nodes_more tys k n more x l read h e, nodes_within (k + 1) tys, v, w, small, m)
