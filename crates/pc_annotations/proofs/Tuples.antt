-- The types that several parts are read as, as the parts of a tuple.
use Rattle.std.proofs.Common.{◌≡◌, ◌<◌, ℕ, List, [], ◌∷◌, map, All, Option, Some, None, Vec, Global, length, refl, ap}
use Rattle.std.proofs.Common.{◌∙◌, subst, arith}
use Rattle.pc_types.specs.Tree.{Tree, TupleOf}
use Rattle.pc_types.specs.Shape.{count, nodes_of, node_limit, trees}
use Rattle.pc_types.specs.Head.{head_of}
use Rattle.pc_types.specs.Store.{MeansWithin}
use Rattle.pc_types.specs.declared.head.Head.{Head}
use Rattle.pc_types.specs.declared.head.Head.TheVariants as heads
use Rattle.pc_annotations.specs.Annotations.{built_type}
use Rattle.pc_scope.specs.declared.resolution.Builtin.TheVariants as builtin
use Rattle.pc_annotations.specs.Internal.TypesRead.{AreRead, IsReadAny}

heads_count : (ts : List Tree) → length (map head_of ts) ≡ count (trees ts)
heads_count [] = refl
heads_count (t ∷ ts) = omega (arith, heads_count ts)

module _ {Store Ty : Type 0} (has : Store → Ty → Type 0) (tree : Ty → Tree) where
  read_tuple : (store : Store) (type : Option Ty) (n : ℕ) (ts : List Tree) → n ≡ length (map head_of ts) → (n ≡ 0 → ⊥)
      → MeansWithin has tree store type (TupleOf (trees ts))
      → IsReadAny has tree store (Some (heads.Tuple n, type)) (built_type builtin.Tuple ts)
  read_tuple store type n [] e z m = z e
  read_tuple store type n (t ∷ ts) e z m = record { head_is = ap heads.Tuple (e ∙ heads_count (t ∷ ts)); type_is = m }

  -- too large a tuple
  pub tuple_none : (old store : Store) (kinds : List Head) (types : Option (Vec Ty Global)) (ts : List Tree) (n : ℕ)
      → AreRead has tree old kinds types ts → types ≡ None → n ≡ length kinds → (n ≡ 0 → ⊥)
      → IsReadAny has tree store (Some (heads.Tuple n, None)) (built_type builtin.Tuple ts)
  tuple_none old store kinds types ts n r e l z =
      let m = r.types_are in
      let k : node_limit < nodes_of (trees ts) = rw e at m in
      read_tuple store None n ts (l ∙ ap length r.heads_are) z (omega arith)

  -- a tuple of types that there are
  pub tuple_some : (old store : Store) (kinds : List Head) (types : Option (Vec Ty Global)) (v : Vec Ty Global)
      (items : List Ty) (ts : List Tree) (type : Option Ty) (n : ℕ) → AreRead has tree old kinds types ts
      → types ≡ Some v → items ≡ v.items → n ≡ length kinds → (n ≡ 0 → ⊥)
      → MeansWithin has tree store type (TupleOf (trees (map tree items)))
      → IsReadAny has tree store (Some (heads.Tuple n, type)) (built_type builtin.Tuple ts)
  tuple_some old store kinds types v items ts type n r e f l z m =
      let k = r.types_are in
      let q : All (has old) v.items × (map tree v.items ≡ ts) = rw e at k in
      read_tuple store type n ts (l ∙ ap length r.heads_are) z
      (subst (λ x. MeansWithin has tree store type (TupleOf (trees x))) (ap (map tree) f ∙ q.1) m)
