-- The test of equality tells the truth: two types that pass it are one tree.
use Rattle.std.proofs.Common.{◌≡◌, true, refl, ap, arith}
use Rattle.std.proofs.lemmas.Bool.Decides.{nat_tests}
use Rattle.std.proofs.lemmas.Bool.{and_parts, false≢true}
use Rattle.pc_types.specs.Tree.{Tree, Trees, Any, Object, Never, Int, Bool, Str, NoneType, Class, ListOf, DictOf}
use Rattle.pc_types.specs.Tree.{TupleOf, Union, end, more}
use Rattle.pc_types.specs.Join.{same_tree, same_trees}

-- types, and the parts of tuples, that are told equal are equal
mutual
  pub same_types : (s t : Tree) → same_tree s t ≡ true → s ≡ t
  same_types Any Any e = refl
  same_types Object Object e = refl
  same_types Never Never e = refl
  same_types Int Int e = refl
  same_types Bool Bool e = refl
  same_types Str Str e = refl
  same_types NoneType NoneType e = refl
  same_types (Class c) (Class d) e = let is : c ≡ d = grind (arith, nat_tests) in ap Class is
  same_types (ListOf s) (ListOf t) e = ap ListOf (same_types s t e)
  same_types (DictOf j v) (DictOf k w) e = let h = and_parts (same_tree j k) (same_tree v w) e in
      λ i. DictOf (same_types j k h.0 i) (same_types v w h.1 i)
  same_types (TupleOf ss) (TupleOf ts) e = ap TupleOf (same_each ss ts e)
  same_types (Union a b) (Union c d) e = let h = and_parts (same_tree a c) (same_tree b d) e in
      λ i. Union (same_types a c h.0 i) (same_types b d h.1 i)
  same_types _ _ e = absurd (false≢true e)

  same_each : (ss ts : Trees) → same_trees ss ts ≡ true → ss ≡ ts
  same_each end end e = refl
  same_each (more s ss) (more t ts) e = let h = and_parts (same_tree s t) (same_trees ss ts) e in
      λ i. more (same_types s t h.0 i) (same_each ss ts h.1 i)
  same_each _ _ e = absurd (false≢true e)
