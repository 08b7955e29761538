use Rattle.pc_class.specs.Tables.{classes_with}
use Rattle.pc_operations.proofs.ByHead.{method_read, field_given}
use Rattle.pc_operations.proofs.members.attribute_offer.Goals as goal

pub copy-requires : goal.copy-requires
copy-requires g c = field_given (g.S.TypeStore.has c.args.store.now) c.args.classes.now c.in-Some.field.now
    c.requires.classes c.in-Some.ensures.listed

pub returns-in-Some-method-clause-value : goal.returns-in-Some-method-clause-value
returns-in-Some-method-clause-value g c =
    let f = c.in_default-field.ensures.value g.S.TypeStore.tree in
    let k = c.in_default-field.is in
    let m = c.in-Some-method.ensures.value g.S.TypeStore.tree in
    let e = method_read (classes_with g.S.TypeStore.tree c.args.classes.now) c.args.name.now
    (g.S.TypeStore.tree c.args.member.now) c.in-Class.class _ c.in-Class.ensures.head f m in
    rw e c.with_code-in-Some-method.ensures.value
