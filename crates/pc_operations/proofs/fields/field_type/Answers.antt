use Rattle.pc_operations.proofs.ByHead.{field_given}
use Rattle.pc_operations.proofs.fields.field_type.Goals as goal

pub copy-requires : goal.copy-requires
copy-requires g c = field_given (g.S.TypeStore.has c.args.store.now) c.args.classes.now c.in-Some.field.now
    c.requires.classes c.in-Some.ensures.listed
