use Rattle.std.proofs.Common.{◌≡◌, ◌≤◌, ◌+◌, ◌++◌, ◌∷◌, [], map, OnOk, Some, sym, ap, subst, ◌∙◌, append_assoc, arith}
use Rattle.pc_types.specs.Tree.{DictOf, TupleOf, Union}
use Rattle.pc_types.specs.Shape.{parts, members, nodes, nodes_of}
use Rattle.pc_types.specs.Boxed.{tree_of, trees_in}
use Rattle.pc_types.proofs.Tuples.{tuple_is}
use Rattle.pc_types.proofs.Nodes.{tuple_parts}
use Rattle.pc_intern.specs.Table.{tree_at}
use Rattle.pc_intern.proofs.InTable.{given_item, interned_more, grows_twice}
use Rattle.pc_intern.proofs.Parts.{item_nodes, tuple_given, dict_numbers, first_number, member_pushed, alone}
use Rattle.pc_intern.proofs.table.Table.+intern.Goals as goal

pub intern_each-intern-requires : goal.intern_each-intern-requires
intern_each-intern-requires t c =
    let l : nodes (tree_of c.ty-item.result) ≤ nodes_of (trees_in c.args.types.now) = item_nodes c.args.types.now
    c.loop-ty.ty-index c.ty-item.result c.loop-ty-test.true c.ty-item.is in (
      omega (arith, l, c.decreases),
      given_item c.args.types.now c.loop-ty.ty-index c.ty-item.result c.requires
          c.loop-ty-test.true c.ty-item.is,
    )

pub intern_each-loop-ty-preserved : goal.intern_each-loop-ty-preserved
intern_each-loop-ty-preserved t c =
    record {
      grown = grows_twice c.args.self.now c.loop-ty.self c.intern.new.self c.loop-ty.invariant.grown
          c.in_ok-intern.ensures.grows;
      numbers = rw c.in_ok-push.ensures.ok (interned_more c.loop-ty.self c.intern.new.self c.args.types.now
          c.loop-ty.numbers.items c.loop-ty.ty-index c.in_ok-intern.field-0 c.ty-item.result
          c.in_ok-intern.ensures.grows c.loop-ty.invariant.numbers c.loop-ty-test.true c.ty-item.is
          c.in_ok-intern.ensures.value);
    }

pub
    intern_parts-returns-in_ok-from_slice-in-Dict-clause-value : goal.intern_parts-returns-in_ok-from_slice-in-Dict-clause-value
intern_parts-returns-in_ok-from_slice-in-Dict-clause-value t c =
    let k = c.deref-in-Dict.result.now in
    let v = c.deref-in-Dict-2.result.now in
    let d : tree_of c.args.ty.now ≡ DictOf (tree_of k) (tree_of v) = ap tree_of c.in-Dict.is
    ∙ (λ i. DictOf (tree_of (sym c.deref-in-Dict.ensures i)) (tree_of (sym c.deref-in-Dict-2.ensures i))) in
    dict_numbers c.intern-in-Dict.new.self c.intern-in-Dict-2.new.self c.in_ok-from_slice-in-Dict.field-0.items
    c.in_ok-key-in-Dict.key c.in_ok-value-in-Dict.value (tree_of c.args.ty.now) (tree_of k) (tree_of v)
    c.in_ok-value-in-Dict.ensures.grows c.in_ok-from_slice-in-Dict.ensures.ok d c.in_ok-key-in-Dict.ensures.value
    c.in_ok-value-in-Dict.ensures.value

pub intern_parts-intern_each-requires : goal.intern_parts-intern_each-requires
intern_parts-intern_each-requires t c =
    let q : tree_of c.args.ty.now ≡ TupleOf (trees_in c.deref-in-Tuple.result.now) = tuple_is _ _ c.in-Tuple.is
    ∙ ap (λ l. TupleOf (trees_in l)) (sym c.deref-in-Tuple.ensures.value) in
    let n : nodes (tree_of c.args.ty.now) ≡ 1 + nodes_of (trees_in c.deref-in-Tuple.result.now) = ap nodes q in
    (omega (arith, n, c.decreases), tuple_given c.args.ty.now c.deref-in-Tuple.result.now c.requires q)

pub intern_parts-returns-in-Tuple-clause-value : goal.intern_parts-returns-in-Tuple-clause-value
intern_parts-returns-in-Tuple-clause-value t c =
    let e : map tree_of c.deref-in-Tuple.result.now ≡ parts (tree_of c.args.ty.now) =
    ap (map tree_of) c.deref-in-Tuple.ensures.value ∙ sym (tuple_parts _ _ c.in-Tuple.is) in
    rw e at c.intern_each.ensures.value

pub
    intern_parts-returns-in_ok-intern_members-in-Union-clause-value : goal.intern_parts-returns-in_ok-intern_members-in-Union-clause-value
intern_parts-returns-in_ok-intern_members-in-Union-clause-value t c =
    let a = c.deref-in-Union.result.now in
    let b = c.deref-in-Union-2.result.now in
    let u : tree_of c.args.ty.now ≡ Union (tree_of a) (tree_of b) = ap tree_of c.in-Union.is
    ∙ (λ i. Union (tree_of (sym c.deref-in-Union.ensures i)) (tree_of (sym c.deref-in-Union-2.ensures i))) in
    let f = first_number c.intern-in-Union.new.self c.in_ok-numbers-in-Union.numbers.items c.in_ok-first-in-Union.first
    (tree_of a) c.in_ok-numbers-in-Union.ensures.ok c.in_ok-first-in-Union.ensures.value in
    c.in_ok-intern_members-in-Union.ensures.value (tree_of a ∷ []) f ∙ ap (λ x. map Some (parts x)) (sym u)

pub
    intern_members-returns-in_ok-push-in-Union-clause-value : goal.intern_members-returns-in_ok-push-in-Union-clause-value
intern_members-returns-in_ok-push-in-Union-clause-value t c = λ us h.
    let a = c.deref.result.now in
    let b = c.deref-in-Union.result.now in
    let u : tree_of c.args.ty.now ≡ Union (tree_of a) (tree_of b) = ap tree_of c.in-Union.is
    ∙ (λ i. Union (tree_of (sym c.deref.ensures i)) (tree_of (sym c.deref-in-Union.ensures i))) in
    let p = member_pushed c.args.self.now c.intern.new.self c.args.numbers.now.items us c.in_ok-intern-in-Union.field-0
    (tree_of a) c.in_ok-intern-in-Union.ensures.grows h c.in_ok-intern-in-Union.ensures.value in
    subst (λ vs. OnOk c.intern_members.result (map (tree_at c.intern_members.new.self)
    c.intern_members.new.numbers.items ≡ map Some vs)) (append_assoc us (tree_of a ∷ []) (members (tree_of b))
    ∙ ap (λ x. us ++ members x) (sym u))
    (c.intern_members.ensures.value (us ++ tree_of a ∷ []) (rw c.in_ok-push-in-Union.ensures.ok p))

pub intern_members-returns-in_ok-push-in_default : goal.intern_members-returns-in_ok-push-in_default
intern_members-returns-in_ok-push-in_default t c =
    record {
      value = λ us h. rw (
        c.in_ok-push-in_default.ensures.ok,
        ← alone c.args.ty.now c.in_default.not-Never
            c.in_default.not-Union,
      )
          (member_pushed c.args.self.now c.intern-in_default.new.self c.args.numbers.now.items us
          c.in_ok-intern-in_default.field-0 (tree_of c.args.ty.now) c.in_ok-intern-in_default.ensures.grows h
          c.in_ok-intern-in_default.ensures.value);
      grows = c.in_ok-intern-in_default.ensures.grows;
    }
