use Rattle.std.proofs.Common.{rules, ◌≡◌, ◌<◌, ◌≤◌, ◌++◌, OnOk, None, length, ap, sym, ◌∙◌, subst, string_bytes}
use Rattle.std.proofs.Common.{vec_len, arith}
use Rattle.pc_annotations.specs.Named.{named_module}
use Rattle.pc_types.specs.Shape.{parts}
use Rattle.pc_types.specs.Head.{head_of}
use Rattle.pc_types.specs.declared.head.Head.TheVariants as heads
use Rattle.pc_annotations.specs.Text.{type_text, part_texts, plain_text, text_by_head}
use Rattle.pc_annotations.proofs.Texts.{text_is, part_more, part_less, all_parts, not_empty, other_is}
use Rattle.pc_annotations.proofs.text.+write.Goals as goal

pub write_parts-write_type-requires : goal.write_parts-write_type-requires
write_parts-write_type-requires g t c =
    let tree = g.S.TypeStore.tree in
    let has = g.S.TypeStore.has c.args.store.now in
    let v = c.in_ok-parts.parts in
    let l : c.loop-i.i < length v.items = omega (arith, c.len-i-end.ensures, v.ok.0) in
    let p = part_less tree (tree c.args.ty.now) v.items c.loop-i.i c.index.result.now c.in_ok-parts.ensures.value l
    c.index.ensures in
    let h : has c.index.result.now = subst has (sym c.index.ensures)
    (c.in_ok-parts.ensures.held c.loop-i.i c.index.result.now l) in
    λ κs o. (omega (arith, p), search rules)

pub write_parts-loop-i-preserved : goal.write_parts-loop-i-preserved
write_parts-loop-i-preserved g t c =
    let m = named_module c.args.names.now in
    let tree = g.S.TypeStore.tree in
    let v = c.in_ok-parts.parts in
    let l : c.loop-i.i < length v.items = omega (arith, c.len-i-end.ensures, v.ok.0) in
    part_more (λ t. type_text m (tree t)) c.args.separator.now (string_bytes c.args.out.now) (string_bytes c.loop-i.out)
    (string_bytes c.separate.new.out) (string_bytes c.write_type.new.out) v.items c.loop-i.i c.index.result.now l
    c.index.ensures
    c.loop-i.invariant c.in_ok-separate.ensures c.in_ok-write_type.ensures

pub write_parts-returns : goal.write_parts-returns
write_parts-returns g t c =
    let m = named_module c.args.names.now in
    let tree = g.S.TypeStore.tree in
    let v = c.in_ok-parts.parts in
    let n : 0 < length v.items = omega (
      arith,
      not_empty (vec_len v) (sym c.is_empty.ensures ∙ c.if-is_empty.false),
      v.ok.0,
    ) in
    let l : length v.items ≤ c.loop-i.i = omega (arith, c.len-i-end.ensures, v.ok.0) in
    all_parts (type_text m) tree c.args.separator.now (string_bytes c.args.out.now) (string_bytes c.loop-i.out) v.items
    c.loop-i.i (parts (tree c.args.ty.now)) c.in_ok-parts.ensures.value n l c.loop-i.invariant

pub write_type-returns-in-Tuple : goal.write_type-returns-in-Tuple
write_type-returns-in-Tuple g t c =
    let e = text_is (named_module c.args.names.now) (g.S.TypeStore.tree c.args.ty.now)
    (g.met.S.TypeStore.normal c.args.store.now c.args.ty.now c.requires) in
    let h : head_of (g.S.TypeStore.tree c.args.ty.now) ≡ heads.Tuple c.in-Tuple.field-0 = sym c.head-head.ensures.head
    ∙ c.in-Tuple.is in
    subst (λ l. OnOk c.write_applied-in-Tuple.result (string_bytes c.write_applied-in-Tuple.new.out ≡ string_bytes
    c.args.out.now ++ l))
    (sym (e ∙ ap (λ x. text_by_head (named_module c.args.names.now) x
    (part_texts (named_module c.args.names.now) (g.S.TypeStore.tree c.args.ty.now))) h))
    c.write_applied-in-Tuple.ensures

pub write_type-returns-in_default-head : goal.write_type-returns-in_default-head
write_type-returns-in_default-head g t c =
    let m = named_module c.args.names.now in
    let ty = g.S.TypeStore.tree c.args.ty.now in
    let e = text_is m ty (g.met.S.TypeStore.normal c.args.store.now c.args.ty.now c.requires) in
    let v = c.plain_text.ensures in
    let p : plain_text m c.head-head.result ≡ None = sym (rw c.in_default.is at v) in
    let o = other_is m c.head-head.result (part_texts m ty) p c.in_default-head.not-List c.in_default-head.not-Dict
    c.in_default-head.not-Tuple in
    subst (λ l. OnOk c.write_parts.result (string_bytes c.write_parts.new.out ≡ string_bytes c.args.out.now ++ l))
    (sym (e ∙ ap (λ x. text_by_head m x (part_texts m ty)) (sym c.head-head.ensures.head) ∙ o)) c.write_parts.ensures
