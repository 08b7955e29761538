-- Several parts of an annotation read one after another.
use Rattle.std.proofs.Common.{◌≡◌, ◌<◌, ◌+◌, ℕ, List, [], ◌∷◌, ◌++◌, map, take, get_or, All, Option, Some, None, Vec}
use Rattle.std.proofs.Common.{Global, length, refl, sym, ap, ◌∙◌, subst, append_assoc, append-nil, arith}
use Rattle.std.specs.Prelude.{MatchOption}
use Rattle.std.specs.Option.{option_map}
use Rattle.std.proofs.lemmas.List.{take_more, map-append}
use Rattle.std.proofs.lemmas.List.Elements.{All-weaker, All-push}
use Rattle.pc_tree.specs.declared.code.Finding.{Finding}
use Rattle.pc_tree.specs.declared.tree.Ann.{Ann as RustAnn}
use Rattle.pc_tree.specs.Tree.{ann_of, Module}
use Rattle.pc_types.specs.Tree.{Tree}
use Rattle.pc_types.specs.Below.{Bases}
use Rattle.pc_types.specs.Shape.{nodes, nodes_of, node_limit, trees}
use Rattle.pc_types.specs.Head.{head_of}
use Rattle.pc_types.specs.Store.{KeepsTypes, MeansWithin}
use Rattle.pc_types.specs.declared.head.Head.{Head}
use Rattle.pc_annotations.specs.Annotations.{reading, read_anns}
use Rattle.pc_annotations.specs.Listed.{anns_of_list, part_findings, parts_findings}
use Rattle.pc_annotations.specs.Internal.TypesRead.{IsRead, AreRead, with_one}

nodes_push : (ts : List Tree) (t : Tree) → nodes_of (trees (ts ++ t ∷ [])) ≡ nodes_of (trees ts) + nodes t
nodes_push [] t = omega arith
nodes_push (u ∷ ts) t = omega (arith, nodes_push ts t)

module _ {Store Ty : Type 0} (has : Store → Ty → Type 0) (tree : Ty → Tree) where
  abbrev TypesAre : Store → Option (Vec Ty Global) → List Tree → Type 0
  TypesAre store types ts = MatchOption types (node_limit < nodes_of (trees ts)) (λ v. All (has store) v.items
      × (map tree v.items ≡ ts))

  types_more : (old store : Store) (types next : Option (Vec Ty Global)) (type : Option Ty) (ts : List Tree) (t : Tree)
      → KeepsTypes has old store → TypesAre old types ts → MeansWithin has tree store type t
      → option_map (λ v. v.items) next ≡ with_one (option_map (λ v. v.items) types) type
      → TypesAre store next (ts ++ t ∷ [])
  types_more old store None None type ts t k r m e = omega (arith, nodes_push ts t, r)
  types_more old store (Some v) None None ts t k r m e = omega (arith, nodes_push ts t, m)
  types_more old store (Some v) None (Some x) ts t k r m e = absurd (cc)
  types_more old store None (Some w) type ts t k r m e = absurd (cc)
  types_more old store (Some v) (Some w) None ts t k r m e = absurd (cc)
  types_more old store (Some v) (Some w) (Some x) ts t k r m e =
      let q : w.items ≡ v.items ++ x ∷ [] = cc in
      let all = All-push (has store) v.items x (All-weaker (has old) (has store) (λ y h. k y h) v.items r.0) m.0 in (
        subst (All (has store)) (sym q) all,
        ap (map tree) q ∙ map-append tree v.items (x ∷ [])
            ∙ (λ i. r.1 i ++ m.1 i ∷ []),
      )

  pub read_more : (old store : Store) (kinds kinds' : List Head) (head : Head) (types next : Option (Vec Ty Global))
      (type : Option Ty) (ts : List Tree) (t : Tree) → KeepsTypes has old store → AreRead has tree old kinds types ts
      → IsRead has tree store head type t
      → kinds' ≡ kinds ++ head ∷ [] → option_map (λ v. v.items) next ≡ with_one (option_map (λ v. v.items) types) type
      → AreRead has tree store kinds' next (ts ++ t ∷ [])
  read_more old store kinds kinds' head types next type ts t k r o h e = record {
    heads_are = h ∙ (λ i. r.heads_are i ++ o.head_is i ∷ []) ∙ sym (map-append head_of ts (t ∷ []));
    types_are = types_more old store types next type ts t k r.types_are o.type_is e;
  }

module _ (m : Module) (bases : Bases) where
  readings_push : (xs : List RustAnn) (x : RustAnn) → read_anns m bases (anns_of_list (xs ++ x ∷ [])) ≡ read_anns m bases
      (anns_of_list xs) ++ reading m bases (ann_of x) ∷ []
  readings_push [] x = refl
  readings_push (y ∷ xs) x = ap (λ l. reading m bases (ann_of y) ∷ l) (readings_push xs x)

  findings_push : (xs : List RustAnn) (x : RustAnn) → parts_findings m bases (anns_of_list (xs ++ x ∷ []))
      ≡ parts_findings m bases (anns_of_list xs) ++ part_findings m bases (ann_of x)
  findings_push [] x = append-nil (part_findings m bases (ann_of x))
  findings_push (y ∷ xs) x =
      ap (λ l. part_findings m bases (ann_of y) ++ l) (findings_push xs x)
      ∙ sym (append_assoc (part_findings m bases (ann_of y)) (parts_findings m bases (anns_of_list xs))
      (part_findings m bases (ann_of x)))

  next_is : (xs : List RustAnn) (k : ℕ) (x : RustAnn) → k < length xs → x ≡ get_or xs k x → take (k + 1) xs ≡ take k xs
      ++ x ∷ []
  next_is xs k x h e = take_more xs k x h ∙ ap (λ y. take k xs ++ y ∷ []) (sym e)

  -- the types of one part more
  pub readings_more : (xs : List RustAnn) (k : ℕ) (x : RustAnn) → k < length xs → x ≡ get_or xs k x
      → read_anns m bases (anns_of_list (take (k + 1) xs)) ≡ read_anns m bases (anns_of_list (take k xs))
      ++ reading m bases (ann_of x) ∷ []
  readings_more xs k x h e = ap (λ l. read_anns m bases (anns_of_list l)) (next_is xs k x h e)
      ∙ readings_push (take k xs) x

  -- the findings of one part more
  pub findings_more : (xs : List RustAnn) (k : ℕ) (x : RustAnn) (found : List Finding) → k < length xs
      → x ≡ get_or xs k x
      → (found ++ parts_findings m bases (anns_of_list (take k xs))) ++ part_findings m bases (ann_of x) ≡ found
      ++ parts_findings m bases (anns_of_list (take (k + 1) xs))
  findings_more xs k x found h e =
      append_assoc found (parts_findings m bases (anns_of_list (take k xs))) (part_findings m bases (ann_of x))
      ∙ ap (λ l. found ++ l) (sym (findings_push (take k xs) x) ∙ ap (λ l. parts_findings m bases (anns_of_list l))
      (sym (next_is xs k x h e)))
