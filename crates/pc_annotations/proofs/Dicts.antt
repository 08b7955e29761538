-- The types that two parts are read as, as the key and the value of a dict.
use Rattle.std.proofs.Common.{◌≡◌, ◌<◌, List, [], ◌∷◌, map, All, Option, Some, None, Vec, Global, length, get_or, refl}
use Rattle.std.proofs.Common.{Bool as Test, true, false, ap, sym, ◌∙◌, subst, subst₂, arith}
use Rattle.std.proofs.lemmas.Bool.{false≢true}
use Rattle.pc_types.specs.Tree.{Tree, Int, Str, DictOf}
use Rattle.pc_types.specs.Shape.{nodes_of, node_limit, trees}
use Rattle.pc_types.specs.Head.{head_of}
use Rattle.pc_types.specs.Store.{MeansWithin}
use Rattle.pc_types.specs.declared.head.Head.{Head}
use Rattle.pc_types.specs.declared.head.Head.TheVariants as heads
use Rattle.pc_annotations.specs.Annotations.{dict_type, built_type}
use Rattle.pc_scope.specs.declared.resolution.Builtin.TheVariants as builtin
use Rattle.pc_annotations.specs.Internal.TypesRead.{AreRead, IsReadAny}

-- a head of a key: that of `int` or of `str`
abbrev pub is_key_head : Head → Test
is_key_head heads.Int = true
is_key_head heads.Str = true
is_key_head _ = false

dict_is : (k v : Tree) → is_key_head (head_of k) ≡ true → dict_type k v ≡ Some (DictOf k v)
dict_is Int v e = refl
dict_is Str v e = refl
dict_is _ v e = absurd (false≢true e)

module _ {Store Ty : Type 0} (has : Store → Ty → Type 0) (tree : Ty → Tree) where
  read_dict : (store : Store) (type : Option Ty) (kinds : List Head) (ts : List Tree) (h : Head) → kinds ≡ map head_of ts
      → length kinds ≡ 2 → h ≡ get_or kinds 0 h → is_key_head h ≡ true
      → ((k v : Tree) → ts ≡ k ∷ v ∷ [] → MeansWithin has tree store type (DictOf k v))
      → IsReadAny has tree store (Some (heads.Dict, type)) (built_type builtin.Dict ts)
  read_dict store type kinds [] h e n i y m = absurd (omega (arith, ap length e, n))
  read_dict store type kinds (k ∷ []) h e n i y m = absurd (omega (arith, ap length e, n))
  read_dict store type kinds (k ∷ v ∷ []) h e n i y m =
      let first : h ≡ head_of k = i ∙ ap (λ l. get_or l 0 h) e in
      subst (IsReadAny has tree store (Some (heads.Dict, type))) (sym (dict_is k v (ap is_key_head (sym first) ∙ y)))
      (record { head_is = refl; type_is = m k v refl })
  read_dict store type kinds (k ∷ v ∷ t ∷ ts) h e n i y m = absurd (omega (arith, ap length e, n))

  both_are : (items : List Ty) (a b : Ty) (k v : Tree) → map tree items ≡ k ∷ v ∷ [] → a ≡ get_or items 0 a
      → b ≡ get_or items 1 b → (tree a ≡ k) × (tree b ≡ v)
  both_are [] a b k v e i j = absurd (omega (arith, ap length e))
  both_are (x ∷ []) a b k v e i j = absurd (omega (arith, ap length e))
  both_are (x ∷ y ∷ l) a b k v e i j =
      (ap tree i ∙ ap (λ l. get_or l 0 (tree x)) e, ap tree j ∙ ap (λ l. get_or l 1 (tree y)) e)

  -- too large a dict
  pub dict_none : (old store : Store) (kinds : List Head) (types : Option (Vec Ty Global)) (ts : List Tree) (h : Head)
      → AreRead has tree old kinds types ts → types ≡ None → length kinds ≡ 2 → h ≡ get_or kinds 0 h
      → is_key_head h ≡ true → IsReadAny has tree store (Some (heads.Dict, None)) (built_type builtin.Dict ts)
  dict_none old store kinds types ts h r e n i y =
      let m = r.types_are in
      let large : node_limit < nodes_of (trees ts) = rw e at m in
      read_dict store None kinds ts h r.heads_are n i y
      (λ k v q. let z : node_limit < nodes_of (trees (k ∷ v ∷ [])) = subst (λ l. node_limit < nodes_of (trees l)) q large in
      omega (arith, z))

  -- a dict of types that there are
  pub dict_some : (old store : Store) (kinds : List Head) (types : Option (Vec Ty Global)) (w : Vec Ty Global)
      (ts : List Tree) (h : Head) (type : Option Ty) (a b : Ty) → AreRead has tree old kinds types ts → types ≡ Some w
      → length kinds ≡ 2 → h ≡ get_or kinds 0 h → is_key_head h ≡ true → a ≡ get_or w.items 0 a
      → b ≡ get_or w.items 1 b → MeansWithin has tree store type (DictOf (tree a) (tree b))
      → IsReadAny has tree store (Some (heads.Dict, type)) (built_type builtin.Dict ts)
  dict_some old store kinds types w ts h type a b r e n i y f g m =
      let l = r.types_are in
      let q : All (has old) w.items × (map tree w.items ≡ ts) = rw e at l in
      read_dict store type kinds ts h r.heads_are n i y
      (λ k v p. let both = both_are w.items a b k v (q.1 ∙ p) f g in
      subst₂ (λ s t. MeansWithin has tree store type (DictOf s t)) both.0 both.1 m)
