use Rattle.std.proofs.Common.{◌≡◌, ◌<◌, All, map, length, sym, ap, ◌∙◌, subst, arith}
use Rattle.std.proofs.lemmas.List.{length-map}
use Rattle.pc_tree.specs.Tree.{module_of}
use Rattle.pc_types.specs.Shape.{nodes_of, node_limit, trees, union}
use Rattle.pc_types.specs.Normal.{IsNormal}
use Rattle.pc_types.specs.Store.{MeansWithin}
use Rattle.pc_annotations.specs.Annotations.{in_union_order, read_anns}
use Rattle.pc_annotations.specs.Internal.TypesRead.{united_head}
use Rattle.pc_annotations.proofs.Uniting.{no_union, one_union, is_one, union_large, union_of_many, union_is_normal}
use Rattle.pc_annotations.proofs.union.unite.Goals as goal

pub returns-then-not-is_union-clause-value : goal.returns-then-not-is_union-clause-value
returns-then-not-is_union-clause-value g c parts r =
    let ts = read_anns (module_of c.args.outline.now.tree.now) c.args.outline.now.parents.now parts in
    no_union g.S.TypeStore.has g.S.TypeStore.tree c.args.store.now c.args.outline.now.parents.now ts c.deref.result.now
    (c.deref.ensures.value ∙ r.heads_are) (sym c.if-not-is_union.true ∙ c.in_ok-is_union.ensures)

pub returns-in_default-clause-value : goal.returns-in_default-clause-value
returns-in_default-clause-value g c parts r =
    let bases = c.args.outline.now.parents.now in
    let ts = read_anns (module_of c.args.outline.now.tree.now) bases parts in
    let many = r.types_are in
    let large : node_limit < nodes_of (trees ts) = rw c.in_default.is at many in
    one_union g.S.TypeStore.has g.S.TypeStore.tree c.args.store.now bases ts c.deref.result.now
    c.united_head-head.result _ (c.deref.ensures.value ∙ r.heads_are) (sym c.if-not-is_union.false
    ∙ c.in_ok-is_union.ensures) (c.united_head-head.ensures ∙ ap united_head (c.deref-2.ensures.value
    ∙ sym c.deref.ensures.value))
    (λ u. union_large bases ts u large)

pub returns-then-len-gt-MOST_MEMBERS-clause-value : goal.returns-then-len-gt-MOST_MEMBERS-clause-value
returns-then-len-gt-MOST_MEMBERS-clause-value g c parts r =
    let bases = c.args.outline.now.parents.now in
    let tree = g.S.TypeStore.tree in
    let ts = read_anns (module_of c.args.outline.now.tree.now) bases parts in
    let those = r.types_are in
    let q : All (g.S.TypeStore.has c.args.store.now) c.in-Some.types.items × (map tree c.in-Some.types.items ≡ ts) =
    rw c.in-Some.is at those in
    let n : 128 < length ts = omega (
      arith,
      ap length q.1,
      length-map c.in-Some.types.items tree,
      c.in-Some.types.ok.0,
      c.len.ensures,
      c.if-len-gt-MOST_MEMBERS.true,
    ) in
    one_union g.S.TypeStore.has tree c.args.store.now bases ts c.deref.result.now c.united_head-head.result _
    (c.deref.ensures.value ∙ r.heads_are) (sym c.if-not-is_union.false ∙ c.in_ok-is_union.ensures)
    (c.united_head-head.ensures ∙ ap united_head (c.deref-2.ensures.value ∙ sym c.deref.ensures.value))
    (λ u. union_of_many bases ts u n)

pub union-requires-clause-order : goal.union-requires-clause-order
union-requires-clause-order g c =
    let parts = c.requires.0 in
    let r = c.requires.1 in
    let m = module_of c.args.outline.now.tree.now in
    let bases = c.args.outline.now.parents.now in
    let tree = g.S.TypeStore.tree in
    let ts = read_anns m bases parts in
    let those = r.types_are in
    let q : All (g.S.TypeStore.has c.args.store.now) c.in-Some.types.items × (map tree c.in-Some.types.items ≡ ts) =
    rw c.in-Some.is at those in
    let e : map tree c.deref-3.result.now ≡ in_union_order ts = ap (map tree) c.deref-3.ensures.value
    ∙ c.in_ok-members.ensures.value ∙ ap in_union_order q.1 in
    let u = is_one bases ts c.deref.result.now (c.deref.ensures.value ∙ r.heads_are)
    (sym c.if-not-is_union.false ∙ c.in_ok-is_union.ensures) in
    subst (λ l. IsNormal (union l)) (sym e) (union_is_normal m bases parts c.ordered.ensures u)

pub returns-clause-value : goal.returns-clause-value
returns-clause-value g c parts r =
    let m = module_of c.args.outline.now.tree.now in
    let bases = c.args.outline.now.parents.now in
    let tree = g.S.TypeStore.tree in
    let ts = read_anns m bases parts in
    let those = r.types_are in
    let q : All (g.S.TypeStore.has c.args.store.now) c.in-Some.types.items × (map tree c.in-Some.types.items ≡ ts) =
    rw c.in-Some.is at those in
    let e : map tree c.deref-3.result.now ≡ in_union_order ts = ap (map tree) c.deref-3.ensures.value
    ∙ c.in_ok-members.ensures.value ∙ ap in_union_order q.1 in
    one_union g.S.TypeStore.has tree c.union.new.self bases ts c.deref.result.now c.united_head-head.result
    c.in_ok-ty.ty (c.deref.ensures.value ∙ r.heads_are) (sym c.if-not-is_union.false
    ∙ c.in_ok-is_union.ensures) (c.united_head-head.ensures ∙ ap united_head (c.deref-2.ensures.value
    ∙ sym c.deref.ensures.value))
    (λ u. subst (λ l. MeansWithin g.S.TypeStore.has tree c.union.new.self c.in_ok-ty.ty (union l)) e
    c.in_ok-ty.ensures.value)
