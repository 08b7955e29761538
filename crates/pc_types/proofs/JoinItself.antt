-- The join of a type with itself is that type.
use Rattle.std.proofs.Common.{◌≡◌, ◌≤◌, Bool, true, ◌&&◌, if◌then◌else◌, Some, refl, ap, subst, ◌∙◌, arith}
use Rattle.std.specs.Option.{option_map}
use Rattle.std.proofs.lemmas.Bool.Decides.{nat_tests}
use Rattle.pc_types.specs.Tree.{Tree, Trees, Class, ListOf, DictOf, TupleOf, Union, end, more}
use Rattle.pc_types.specs.Below.{Bases}
use Rattle.pc_types.specs.Shape.{nodes, node_limit, union}
use Rattle.pc_types.specs.Join.{same_tree, same_trees, by_rule, put_all, unabsorbed_members, join, join_of}
use Rattle.pc_types.specs.Join.{within_limit}
use Rattle.pc_types.proofs.JoinNormal.{within_is}

-- a type, and the parts of a tuple, are equal to themselves
mutual
  tree_itself : (t : Tree) → same_tree t t ≡ true
  tree_itself (Class c) = grind (arith, nat_tests)
  tree_itself (ListOf t) = tree_itself t
  tree_itself (DictOf k v) = λ i. tree_itself k i && tree_itself v i
  tree_itself (TupleOf ts) = trees_itself ts
  tree_itself (Union a b) = λ i. tree_itself a i && tree_itself b i
  tree_itself _ = refl

  trees_itself : (ts : Trees) → same_trees ts ts ≡ true
  trees_itself end = refl
  trees_itself (more t ts) = λ i. tree_itself t i && trees_itself ts i

join_one : (bases : Bases) (s : Tree) → nodes s ≤ node_limit → join bases s s ≡ Some s
join_one bases s l =
    let e : join_of bases s s ≡ Some s = ap (λ (b : Bool). if b then Some s else by_rule s s
    (option_map union (put_all bases s s (unabsorbed_members bases s s)))) (tree_itself s) in
    ap within_limit e ∙ within_is s l

pub join_itself : (bases : Bases) (s t : Tree) → s ≡ t → nodes s ≤ node_limit → join bases s t ≡ Some s
join_itself bases s t e l = subst (λ u. join bases s u ≡ Some s) e (join_one bases s l)
