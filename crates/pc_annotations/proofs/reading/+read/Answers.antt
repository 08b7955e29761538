use Rattle.std.proofs.Common.{◌≡◌, ◌++◌, ◌∷◌, [], Some, None, OnOk, refl, ap, sym, ◌∙◌, subst, take, length, append-nil}
use Rattle.std.proofs.Common.{append_assoc}
use Rattle.pc_tree.specs.Code.{finding}
use Rattle.pc_tree.specs.declared.code.Code.TheVariants.{E09, E10}
use Rattle.pc_tree.specs.Tree.{module_of, ann_of, name_of}
use Rattle.pc_annotations.specs.Annotations.{applied_type, union_type, reading, read_anns}
use Rattle.pc_annotations.specs.Listed.{anns_of_list, part_findings, parts_findings}
use Rattle.pc_annotations.specs.Internal.TypesRead.{IsRead, AreRead, IsReadAny}
use Rattle.pc_annotations.proofs.Each.{read_more, readings_more, findings_more}
use Rattle.pc_annotations.proofs.Forms.{applied_is, union_is}
use Rattle.pc_annotations.proofs.Parts.{read_some, inside_some, without_some, none_is, applied_reading, applied_found}
use Rattle.pc_annotations.proofs.Parts.{union_reading, union_found, truncated}
use Rattle.pc_annotations.proofs.reading.+read.Goals as goal

pub read_each-loop-part-preserved : goal.read_each-loop-part-preserved
read_each-loop-part-preserved g t c =
    let m = module_of c.args.outline.now.tree.now in
    let bases = c.args.outline.now.parents.now in
    let has = g.S.TypeStore.has in
    let tree = g.S.TypeStore.tree in
    let xs = c.args.parts.now in
    let k = c.loop-part.part-index in
    let x = c.part-item.result in
    let v = c.loop-part.invariant in
    record {
      read =
          subst (AreRead has tree c.read.new.store c.push.new.self.items c.in_ok-types.types)
          (sym (readings_more m bases xs k x c.loop-part-test.true c.part-item.is))
          (read_more has tree c.loop-part.store c.read.new.store c.loop-part.heads.items c.push.new.self.items
          c.in_ok-reading.reading.head c.loop-part.types c.in_ok-types.types c.in_ok-reading.reading.ty
          (read_anns m bases (anns_of_list (take k xs))) (reading m bases (ann_of x)) c.read.ensures.kept v.read
          c.in_ok-reading.ensures.typed c.in_ok-push.ensures.items c.in_ok-types.ensures);
      found = c.in_ok-reading.ensures.pushed ∙ ap (λ l. l ++ part_findings m bases (ann_of x)) v.found
          ∙ findings_more m bases xs k x c.args.found.now.items c.loop-part-test.true c.part-item.is;
      kept = λ ty h. c.read.ensures.kept ty (v.kept ty h);
    }

pub read-apply-requires : goal.read-apply-requires
read-apply-requires g t c = (_, c.in_ok-types-in-Apply.ensures.typed)

pub read-unite-requires : goal.read-unite-requires
read-unite-requires g t c = (_, c.in_ok-types-in-Union.ensures.typed)

pub read-returns-in-Some-2-clause-typed : goal.read-returns-in-Some-2-clause-typed
read-returns-in-Some-2-clause-typed g t c =
    let m = module_of c.args.outline.now.tree.now in
    let bases = c.args.outline.now.parents.now in
    let anns = anns_of_list c.in-Apply.arguments.items in
    let r = c.meaning-meaning-in-Apply.result in
    let f = applied_type r (read_anns m bases anns) in
    let v = c.in_ok-reading-in-Apply.ensures.value _ c.in_ok-types-in-Apply.ensures.typed in
    let h : IsReadAny g.S.TypeStore.has g.S.TypeStore.tree c.apply.new.store
    (Some (c.in-Some-2.reading.head, c.in-Some-2.reading.ty)) f =
    rw (c.in-Some-2.is, c.deref.ensures.value) at v in
    subst (IsRead g.S.TypeStore.has g.S.TypeStore.tree c.apply.new.store c.in-Some-2.reading.head
    c.in-Some-2.reading.ty) (sym (applied_reading m bases (ann_of c.args.ann.now) c.in-Apply.place
    (name_of c.in-Apply.head) anns r f (applied_is _ _ _ _ c.in-Apply.is) c.meaning-meaning-in-Apply.ensures refl))
    (read_some g.S.TypeStore.has g.S.TypeStore.tree c.apply.new.store _ f h)

pub read-returns-in-Some-2-clause-pushed : goal.read-returns-in-Some-2-clause-pushed
read-returns-in-Some-2-clause-pushed g t c =
    let m = module_of c.args.outline.now.tree.now in
    let bases = c.args.outline.now.parents.now in
    let anns = anns_of_list c.in-Apply.arguments.items in
    let r = c.meaning-meaning-in-Apply.result in
    let f = applied_type r (read_anns m bases anns) in
    let v = c.in_ok-reading-in-Apply.ensures.value _ c.in_ok-types-in-Apply.ensures.typed in
    let h : IsReadAny g.S.TypeStore.has g.S.TypeStore.tree c.apply.new.store
    (Some (c.in-Some-2.reading.head, c.in-Some-2.reading.ty)) f =
    rw (c.in-Some-2.is, c.deref.ensures.value) at v in
    c.in_ok-types-in-Apply.ensures.pushed
    ∙ ap (λ l. c.args.found.now.items ++ parts_findings m bases (anns_of_list l)) c.deref.ensures.value
    ∙ ap (λ l. c.args.found.now.items ++ l) (sym (inside_some g.S.TypeStore.has g.S.TypeStore.tree c.apply.new.store _ f
    c.in-Apply.place (parts_findings m bases anns) h) ∙ sym (applied_found m bases (ann_of c.args.ann.now)
    c.in-Apply.place (name_of c.in-Apply.head) anns r f (applied_is _ _ _ _ c.in-Apply.is)
    c.meaning-meaning-in-Apply.ensures refl))

pub read-returns-in-Apply-clause-typed : goal.read-returns-in-Apply-clause-typed
read-returns-in-Apply-clause-typed g t c =
    let m = module_of c.args.outline.now.tree.now in
    let bases = c.args.outline.now.parents.now in
    let anns = anns_of_list c.in-Apply.arguments.items in
    let r = c.meaning-meaning-in-Apply.result in
    let f = applied_type r (read_anns m bases anns) in
    let v = c.in_ok-reading-in-Apply.ensures.value _ c.in_ok-types-in-Apply.ensures.typed in
    let h : IsReadAny g.S.TypeStore.has g.S.TypeStore.tree c.apply.new.store None f =
    rw (c.in-None-2.is, c.deref.ensures.value) at v in
    let e = applied_reading m bases (ann_of c.args.ann.now) c.in-Apply.place (name_of c.in-Apply.head) anns r None
    (applied_is _ _ _ _ c.in-Apply.is) c.meaning-meaning-in-Apply.ensures
    (none_is g.S.TypeStore.has g.S.TypeStore.tree c.apply.new.store f h) in
    rw e c.fault-in-None-2.ensures.typed

pub read-returns-in-Apply-clause-pushed : goal.read-returns-in-Apply-clause-pushed
read-returns-in-Apply-clause-pushed g t c =
    let m = module_of c.args.outline.now.tree.now in
    let bases = c.args.outline.now.parents.now in
    let anns = anns_of_list c.in-Apply.arguments.items in
    let r = c.meaning-meaning-in-Apply.result in
    let f = applied_type r (read_anns m bases anns) in
    let v = c.in_ok-reading-in-Apply.ensures.value _ c.in_ok-types-in-Apply.ensures.typed in
    let old = c.args.found.now.items in
    let h : IsReadAny g.S.TypeStore.has g.S.TypeStore.tree c.apply.new.store None f =
    rw (c.in-None-2.is, c.deref.ensures.value) at v in
    let e = applied_found m bases (ann_of c.args.ann.now) c.in-Apply.place (name_of c.in-Apply.head) anns r None
    (applied_is _ _ _ _ c.in-Apply.is) c.meaning-meaning-in-Apply.ensures
    (none_is g.S.TypeStore.has g.S.TypeStore.tree c.apply.new.store f h) in
    let n : c.len-before.result ≡ length old = c.len-before.ensures ∙ c.args.found.now.ok.0 in
    let back : c.truncate.new.self.items ≡ old = c.truncate.ensures.items
    ∙ truncated old _ _ _ n c.in_ok-types-in-Apply.ensures.pushed in
    let q : c.truncate.new.self.items ++ finding c.in-Apply.place E09 ∷ [] ≡ old ++ part_findings m bases
    (ann_of c.args.ann.now) = (λ i. back i ++ finding c.in-Apply.place E09 ∷ []) ∙ ap (λ l. old ++ l) (sym e) in
    subst (λ l. OnOk c.fault-in-None-2.result (c.fault-in-None-2.new.found.items ≡ l)) q
    c.fault-in-None-2.ensures.pushed

pub read-returns-in-Some-4-clause-typed : goal.read-returns-in-Some-4-clause-typed
read-returns-in-Some-4-clause-typed g t c =
    let m = module_of c.args.outline.now.tree.now in
    let bases = c.args.outline.now.parents.now in
    let anns = anns_of_list c.in-Union.parts.items in
    let f = union_type bases (read_anns m bases anns) in
    let v = c.in_ok-reading-in-Union.ensures.value _ c.in_ok-types-in-Union.ensures.typed in
    let h : IsReadAny g.S.TypeStore.has g.S.TypeStore.tree c.unite.new.store
    (Some (c.in-Some-4.reading.head, c.in-Some-4.reading.ty)) f =
    rw (c.in-Some-4.is, c.deref-in-Union.ensures.value) at v in
    subst (IsRead g.S.TypeStore.has g.S.TypeStore.tree c.unite.new.store c.in-Some-4.reading.head
    c.in-Some-4.reading.ty) (sym (union_reading m bases (ann_of c.args.ann.now) c.in-Union.place anns f
    (union_is _ _ _ c.in-Union.is) refl))
    (read_some g.S.TypeStore.has g.S.TypeStore.tree c.unite.new.store _ f h)

pub read-returns-in-Some-4-clause-pushed : goal.read-returns-in-Some-4-clause-pushed
read-returns-in-Some-4-clause-pushed g t c =
    let m = module_of c.args.outline.now.tree.now in
    let bases = c.args.outline.now.parents.now in
    let anns = anns_of_list c.in-Union.parts.items in
    let f = union_type bases (read_anns m bases anns) in
    let v = c.in_ok-reading-in-Union.ensures.value _ c.in_ok-types-in-Union.ensures.typed in
    let h : IsReadAny g.S.TypeStore.has g.S.TypeStore.tree c.unite.new.store
    (Some (c.in-Some-4.reading.head, c.in-Some-4.reading.ty)) f =
    rw (c.in-Some-4.is, c.deref-in-Union.ensures.value) at v in
    let e = union_found m bases (ann_of c.args.ann.now) c.in-Union.place anns f (union_is _ _ _ c.in-Union.is) refl in
    c.in_ok-types-in-Union.ensures.pushed
    ∙ ap (λ l. c.args.found.now.items ++ parts_findings m bases (anns_of_list l)) c.deref-in-Union.ensures.value
    ∙ ap (λ l. c.args.found.now.items ++ l) (sym (append-nil (parts_findings m bases anns))
    ∙ ap (λ l. parts_findings m bases anns ++ l)
    (sym (without_some g.S.TypeStore.has g.S.TypeStore.tree c.unite.new.store _ f c.in-Union.place E10 h)) ∙ sym e)

pub read-returns-clause-typed : goal.read-returns-clause-typed
read-returns-clause-typed g t c =
    let m = module_of c.args.outline.now.tree.now in
    let bases = c.args.outline.now.parents.now in
    let anns = anns_of_list c.in-Union.parts.items in
    let f = union_type bases (read_anns m bases anns) in
    let v = c.in_ok-reading-in-Union.ensures.value _ c.in_ok-types-in-Union.ensures.typed in
    let h : IsReadAny g.S.TypeStore.has g.S.TypeStore.tree c.unite.new.store None f =
    rw (c.in-None-4.is, c.deref-in-Union.ensures.value) at v in
    let e = union_reading m bases (ann_of c.args.ann.now) c.in-Union.place anns None (union_is _ _ _ c.in-Union.is)
    (none_is g.S.TypeStore.has g.S.TypeStore.tree c.unite.new.store f h) in
    rw e c.fault-in-None-4.ensures.typed

pub read-returns-clause-pushed : goal.read-returns-clause-pushed
read-returns-clause-pushed g t c =
    let m = module_of c.args.outline.now.tree.now in
    let bases = c.args.outline.now.parents.now in
    let anns = anns_of_list c.in-Union.parts.items in
    let f = union_type bases (read_anns m bases anns) in
    let v = c.in_ok-reading-in-Union.ensures.value _ c.in_ok-types-in-Union.ensures.typed in
    let old = c.args.found.now.items in
    let h : IsReadAny g.S.TypeStore.has g.S.TypeStore.tree c.unite.new.store None f =
    rw (c.in-None-4.is, c.deref-in-Union.ensures.value) at v in
    let e = union_found m bases (ann_of c.args.ann.now) c.in-Union.place anns None (union_is _ _ _ c.in-Union.is)
    (none_is g.S.TypeStore.has g.S.TypeStore.tree c.unite.new.store f h) in
    let fault = finding c.in-Union.place E10 ∷ [] in
    let p : c.read_each-in-Union.new.found.items ≡ old ++ parts_findings m bases anns =
    c.in_ok-types-in-Union.ensures.pushed ∙ ap (λ l. old ++ parts_findings m bases (anns_of_list l))
    c.deref-in-Union.ensures.value in
    let q : c.read_each-in-Union.new.found.items ++ fault ≡ old ++ part_findings m bases (ann_of c.args.ann.now) =
    ap (λ l. l ++ fault) p ∙ append_assoc old (parts_findings m bases anns) fault ∙ ap (λ l. old ++ l) (sym e) in
    subst (λ l. OnOk c.fault-in-None-4.result (c.fault-in-None-4.new.found.items ≡ l)) q
    c.fault-in-None-4.ensures.pushed
