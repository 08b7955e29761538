use Rattle.std.proofs.Common.{sym}
use Rattle.pc_rules.proofs.Once.{clean_is, label_as, labels_as}
use Rattle.pc_rules.proofs.NamesRead.{constant_some, constant_none}
use Rattle.pc_rules.proofs.naming.constant_label.Goals as goal

pub returns-in_ok-copy-in-Some-clause-value : goal.returns-in_ok-copy-in-Some-clause-value
returns-in_ok-copy-in-Some-clause-value g c =
    let has = g.S.TypeStore.has in
    let tree = g.S.TypeStore.tree in
    let v = c.in_ok-copy-in-Some.ensures in
    let e = constant_some tree c.args.constants.now c.args.number c.in-Some.ty.now c.in-Some.ensures.lookup.3.0
    c.in-Some.ensures.lookup.1 in
    label_as has tree c.args.store.now c.clean.result _ _ (sym e)
    (clean_is has tree c.args.store.now c.clean.result _ _ (c.clean.ensures.label tree) c.clean.ensures.ty v.0 v.1)

pub returns-in-None-clause-value : goal.returns-in-None-clause-value
returns-in-None-clause-value g c =
    labels_as g.S.TypeStore.has g.S.TypeStore.tree _ _ _ _
    (sym (constant_none g.S.TypeStore.tree c.args.constants.now c.args.number c.in-None.ensures.lookup.3))
    c.in_error.ensures.value
