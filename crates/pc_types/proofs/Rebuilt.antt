-- A type in normal form is determined by its head and its parts, each of which has fewer nodes.
use Rattle.std.proofs.Common.{◌≡◌, ℕ, zero, suc, ◌<◌, ◌≤◌, List, [], ◌∷◌, Some, refl, sym, ap, ◌∙◌, arith}
use Rattle.std.specs.List.{slice_get}
use Rattle.pc_types.specs.Tree.{Tree, Trees, Any, Object, Never, Int, Bool, Str, NoneType, Class, ListOf, DictOf}
use Rattle.pc_types.specs.Tree.{TupleOf, Union, end, more}
use Rattle.pc_types.specs.Shape.{nodes, nodes_of, parts, members, list_of_trees, trees, ahead, union}
use Rattle.pc_types.specs.Head.{head_of}
use Rattle.pc_types.specs.Normal.{IsNormal, IsOfMembers, IsAfter}
use Rattle.pc_types.specs.Internal.Rebuilding.{rebuilt}
use Rattle.pc_types.proofs.Together.{listed_rest}
use Rattle.pc_types.proofs.Nodes.{some_node}

trees_listed : (ts : Trees) → trees (list_of_trees ts) ≡ ts
trees_listed end = refl
trees_listed (more t ts) = ap (more t) (trees_listed ts)

ahead_after : (a b : Tree) → IsAfter a b → ahead a b ≡ Union a b
ahead_after a Never h = absurd h.0
ahead_after a _ h = refl

union_members : (t : Tree) → IsOfMembers t → union (members t) ≡ t
union_members (Union a b) n = ap (ahead a) (union_members b (listed_rest a b n.2 n.3)) ∙ ahead_after a b n.3
union_members Any n = absurd n
union_members Object n = absurd n
union_members _ n = refl

pub rebuilt_is : (t : Tree) → IsNormal t → rebuilt (head_of t) (parts t) ≡ t
rebuilt_is (TupleOf ts) n = ap TupleOf (trees_listed ts)
rebuilt_is (Union a b) n = union_members (Union a b) n
rebuilt_is _ n = refl

-- two types in normal form with one head and the same parts are one
pub told : (s t : Tree) → IsNormal s → IsNormal t → head_of s ≡ head_of t → parts s ≡ parts t → s ≡ t
told s t m n h p = sym (rebuilt_is s m) ∙ (λ i. rebuilt (h i) (p i)) ∙ rebuilt_is t n

member_fewer : (t : Tree) (k : ℕ) (p : Tree) → slice_get (members t) k ≡ Some p → nodes p ≤ nodes t
member_fewer (Union a b) zero p e = let q : a ≡ p = cc in rw (← q) (omega arith)
member_fewer (Union a b) (suc k) p e = omega (arith, member_fewer b k p e)
member_fewer Never zero p e = cc
member_fewer Never (suc k) p e = cc
member_fewer t zero p e = let q : t ≡ p = cc in rw (← q) (omega arith)
member_fewer t (suc k) p e = cc

listed_fewer : (ts : Trees) (k : ℕ) (p : Tree) → slice_get (list_of_trees ts) k ≡ Some p → nodes p ≤ nodes_of ts
listed_fewer end zero p e = cc
listed_fewer end (suc k) p e = cc
listed_fewer (more t ts) zero p e = let q : t ≡ p = cc in rw (← q) (omega arith)
listed_fewer (more t ts) (suc k) p e = omega (arith, listed_fewer ts k p e)

-- a part has fewer nodes than the whole
pub part_fewer : (t : Tree) (k : ℕ) (p : Tree) → slice_get (parts t) k ≡ Some p → nodes p < nodes t
part_fewer (ListOf t) zero p e = let q : t ≡ p = cc in rw (← q) (omega arith)
part_fewer (ListOf t) (suc k) p e = cc
part_fewer (DictOf j v) zero p e = let q : j ≡ p = cc in rw (← q) (omega arith)
part_fewer (DictOf j v) (suc zero) p e = let q : v ≡ p = cc in rw (← q) (omega arith)
part_fewer (DictOf j v) (suc (suc k)) p e = cc
part_fewer (TupleOf ts) k p e = omega (arith, listed_fewer ts k p e)
part_fewer (Union a b) zero p e = let q : a ≡ p = cc in rw (← q) (omega (arith, some_node b))
part_fewer (Union a b) (suc k) p e = omega (arith, member_fewer b k p e, some_node a)
part_fewer _ zero p e = cc
part_fewer _ (suc k) p e = cc
