-- The contents of a table, and the facts that are kept when a type is added at its end.
use Rattle.std.proofs.Common.{◌≡◌, ◌<◌, ◌+◌, take, get_or, All, ℕ, Bool, true, true≢false, inl, inr, List, [], ◌∷◌}
use Rattle.std.proofs.Common.{◌++◌, length, map, Some, None, refl, sym, ap, subst, ◌∙◌, append_assoc}
use Rattle.std.proofs.lemmas.List.{map-append, take_more}
use Rattle.std.proofs.lemmas.List.Elements.{All-get_or}
use Rattle.std.proofs.lemmas.Option.{slice_get_read}
use Rattle.std.specs.List.{slice_get}
use Rattle.std.specs.Map.{lookup, values_of}
use Rattle.pc_types.specs.Tree.{Tree}
use Rattle.pc_types.specs.Shape.{parts, nodes}
use Rattle.pc_types.specs.Boxed.{tree_of, IsGiven}
use Rattle.pc_types.specs.declared.boxed.BoxType.{BoxType}
use Rattle.pc_intern.specs.declared.table.TypeNode.{TypeNode}
use Rattle.pc_intern.specs.Table.{tree_at, IsNode, IsNodeAt, IsTable, Grows}
use Rattle.pc_intern.proofs.Places.{each_push, stays, each_stays, pushed, IsOnce, same_places, same_items, map_at}
use Rattle.pc_intern.proofs.Places.{at_map, fails}
use Rattle.pc_types.proofs.Rebuilt.{told, part_fewer}
use Rattle.pc_intern.proofs.Keys.{node_eq, node_decides}

-- the tree of a number stays where types are put after the others
pub tree_stays : (old more : List BoxType) (n : ℕ) (t : Tree) → tree_at old n ≡ Some t
    → tree_at (old ++ more) n ≡ Some t
tree_stays old more n t h =
    subst (λ (ts : List Tree). slice_get ts n ≡ Some t) (sym (map-append tree_of old more))
    (stays (map tree_of old) (map tree_of more) n t h)

pub trees_stay : (old more : List BoxType) (ps : List ℕ) (us : List Tree) → map (tree_at old) ps ≡ map Some us
    → map (tree_at (old ++ more)) ps ≡ map Some us
trees_stay old more ps us h =
    subst (λ (ts : List Tree). map (slice_get ts) ps ≡ map Some us) (sym (map-append tree_of old more))
    (each_stays (map tree_of old) (map tree_of more) ps us h)

pub node_stays : (old more : List BoxType) (node : TypeNode) (t : Tree) → IsNode old node t → IsNode (old ++ more) node t
node_stays old more node t h =
    record { head = h.head; parts = trees_stay old more node.parts.items (parts t) h.parts }

-- an item is put after items among which it isn't
once_push : {X : Type 0} (ts : List X) (t : X) → IsOnce ts → ((n : ℕ) → slice_get ts n ≡ Some t → ⊥)
    → IsOnce (ts ++ t ∷ [])
once_push ts t once new m n x a b =
    elim (pushed ts t m x a) [
      | inl p ↦ elim (pushed ts t n x b) [ inl q ↦ once m n x p q | inr q ↦ absurd (new m (p ∙ ap Some (sym q.1))) ]
      | inr p ↦ elim (pushed ts t n x b) [ inl q ↦ absurd (new n (q ∙ ap Some (sym p.1))) | inr q ↦ p.0 ∙ sym q.0 ]
    ]

-- two nodes that tell one tree have one head and the same parts
same_node : (types : List BoxType) → IsOnce (map tree_of types) → (m n : TypeNode) (t : Tree) → IsNode types m t
    → IsNode types n t → (m.head ≡ n.head) × (m.parts.items ≡ n.parts.items)
same_node types once m n t h g =
    (h.head ∙ sym g.head, same_places (map tree_of types) once m.parts.items n.parts.items (parts t) h.parts g.parts)

-- two types of a store that nodes of one head and the same parts tell mean one tree
pub same_tree : (types : List BoxType) (m n : TypeNode) (b c : BoxType) → IsGiven b → IsGiven c → m.head ≡ n.head
    → m.parts.items ≡ n.parts.items → IsNode types m (tree_of b) → IsNode types n (tree_of c) → tree_of b ≡ tree_of c
same_tree types m n b c f g e q h k =
    told (tree_of b) (tree_of c) f.normal g.normal (sym h.head ∙ e ∙ k.head)
    (same_items (parts (tree_of b)) (parts (tree_of c)) (sym h.parts ∙ ap (map (tree_at types)) q ∙ k.parts))

-- where no node is equal to that of a type, the type doesn't stand in the table
not_yet : (es : List (TypeNode × BoxType)) (test : TypeNode → Bool) (node : TypeNode) (t : Tree) → IsTable es
    → ((n : TypeNode) → node.head ≡ n.head → node.parts.items ≡ n.parts.items → test n ≡ true)
    → IsNode (values_of es) node t → lookup test es ≡ None → (n : ℕ) → tree_at (values_of es) n ≡ Some t → ⊥
not_yet es test node t table same h none n at =
    let b = at_map tree_of (values_of es) n t at in
    let e = at_map (λ (x : TypeNode × BoxType). x.1) es n b.0 b.1 in
    let q : tree_of e.0.1 ≡ t = ap tree_of e.2 ∙ b.2 in
    let k : IsNode (values_of es) e.0.0 t = subst (IsNode (values_of es) e.0.0) q (table.told n e.0 e.1) in
    let s = same_node (values_of es) table.once node e.0.0 t h k in
    true≢false (sym (same e.0.0 s.0 s.1) ∙ fails test es none n e.0 e.1)

-- a type that doesn't stand in the table is put after the others
pub added : (es : List (TypeNode × BoxType)) (test : TypeNode → Bool) (node : TypeNode) (b : BoxType) → IsTable es
    → ((n : TypeNode) → node.head ≡ n.head → node.parts.items ≡ n.parts.items → test n ≡ true) → IsGiven b
    → IsNode (values_of es) node (tree_of b) → lookup test es ≡ None → IsTable (es ++ (node, b) ∷ [])
added es test node b table same g h none = record { given = given'; told = told'; once = once' }
  where
    values : values_of (es ++ (node, b) ∷ []) ≡ values_of es ++ b ∷ []
    values = map-append (λ (x : TypeNode × BoxType). x.1) es ((node, b) ∷ [])

    given' : (n : ℕ) (c : BoxType) → slice_get (values_of (es ++ (node, b) ∷ [])) n ≡ Some c → IsGiven c
    given' n c at =
        elim (pushed (values_of es) b n c (subst (λ (l : List BoxType). slice_get l n ≡ Some c) values at)) [
          | inl p ↦ table.given n c p
          | inr p ↦ subst IsGiven p.1 g
        ]

    told' : (n : ℕ) (e : TypeNode × BoxType) → slice_get (es ++ (node, b) ∷ []) n ≡ Some e
        → IsNode (values_of (es ++ (node, b) ∷ [])) e.0 (tree_of e.1)
    told' n e at =
        subst (λ l. IsNode l e.0 (tree_of e.1)) (sym values)
        (node_stays (values_of es) (b ∷ []) e.0 (tree_of e.1)
        (elim (pushed es (node, b) n e at) [
          | inl p ↦ table.told n e p
          | inr p ↦
              subst (λ (x : TypeNode × BoxType). IsNode (values_of es) x.0 (tree_of x.1)) p.1 h
        ]))

    once' : IsOnce (map tree_of (values_of (es ++ (node, b) ∷ [])))
    once' =
        subst IsOnce (sym (ap (map tree_of) values ∙ map-append tree_of (values_of es) (b ∷ [])))
        (once_push (map tree_of (values_of es)) (tree_of b) table.once
        (not_yet es test node (tree_of b) table same h none))

-- growth twice is growth
pub grows_twice : (a b c : List BoxType) → Grows a b → Grows b c → Grows a c
grows_twice a b c g h =
    record { added = g.added ++ h.added; is = h.is ∙ ap (λ l. l ++ h.added) g.is ∙ append_assoc a g.added h.added }

-- the entry of a node that is equal to another one
pub found : (es : List (TypeNode × BoxType)) (node : TypeNode) (e : TypeNode × BoxType) (n : ℕ) → IsTable es
    → slice_get es n ≡ Some e → node_eq node e.0 ≡ true → IsNodeAt (values_of es) node n
found es node e n table at same =
    let v = map_at (λ (x : TypeNode × BoxType). x.1) es n e at in
    let t = table.told n e at in
    let d = (node_decides node e.0).0 same in
    record {
      ty = e.1;
      at = v;
      given = table.given n e.1 v;
      told = record { head = d.0 ∙ t.head; parts = ap (map (tree_at (values_of es))) d.1 ∙ t.parts };
    }

-- the tree that a node tells is the one at a number whose type the node tells
pub found_tree : (types : List BoxType) (node : TypeNode) (n : ℕ) (b : BoxType) → IsNodeAt types node n → IsGiven b
    → IsNode types node (tree_of b) → tree_at types n ≡ Some (tree_of b)
found_tree types node n b w g h =
    map_at tree_of types n w.ty w.at ∙ ap Some (same_tree types node node w.ty b w.given g refl refl w.told h)

-- the tree of the type that was put after the others
pub pushed_tree : (es : List (TypeNode × BoxType)) (node : TypeNode) (b : BoxType) → tree_at (values_of (es ++ (node, b) ∷ []))
    (length es) ≡ Some (tree_of b)
pushed_tree [] node b = refl
pushed_tree (e ∷ es) node b = pushed_tree es node b

-- one more part whose number is known, in a table that has grown
pub interned_more : (old new items : List BoxType) (ps : List ℕ) (k p : ℕ) (x : BoxType) → Grows old new
    → map (tree_at old) ps ≡ map Some (map tree_of (take k items)) → k < length items → x ≡ get_or items k x
    → tree_at new p ≡ Some (tree_of x) → map (tree_at new) (ps ++ p ∷ []) ≡ map Some (map tree_of (take (k + 1) items))
interned_more old new items ps k p x g h l read at =
    let a : map (tree_at new) ps ≡ map Some (map tree_of (take k items)) =
    rw g.is (trees_stay old g.added ps (map tree_of (take k items)) h) in
    let b = each_push (map tree_of new) ps p (map tree_of (take k items)) (tree_of x) a at in
    let q : map tree_of (take (k + 1) items) ≡ map tree_of (take k items) ++ tree_of x ∷ [] =
    ap (map tree_of) (take_more items k x l ∙ ap (λ y. take k items ++ y ∷ []) (sym read))
    ∙ map-append tree_of (take k items) (x ∷ []) in
    b ∙ ap (map Some) (sym q)

-- a part that a loop comes to has fewer nodes than the whole
pub part_at : (items : List BoxType) (t : Tree) (k : ℕ) (x : BoxType) → map tree_of items ≡ parts t → k < length items
    → x ≡ get_or items k x → nodes (tree_of x) < nodes t
part_at items t k x e l read =
    part_fewer t k (tree_of x) (ap (λ ts. slice_get ts k) (sym e)
    ∙ map_at tree_of items k x (slice_get_read items (length items) k x refl l read))

-- an item that a loop comes to, of types that a store may give
pub given_item : (items : List BoxType) (k : ℕ) (x : BoxType) → All IsGiven items → k < length items
    → x ≡ get_or items k x → IsGiven x
given_item items k x all l read = subst IsGiven (sym read) (All-get_or IsGiven items k x l all)
