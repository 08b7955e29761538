use Rattle.std.proofs.Common.{ap}
use Rattle.pc_rules.specs.Operations.{offers_label}
use Rattle.pc_rules.specs.Computed.ModuleParents.{class_parents}
use Rattle.pc_rules.proofs.Along.{labelled_by}
use Rattle.pc_operations.proofs.AttributesRead.{label_read}
use Rattle.pc_operations.proofs.operating.attribute_label.Goals as goal

pub returns-in-Some-clause-value : goal.returns-in-Some-clause-value
returns-in-Some-clause-value g c = labelled_by g.S.TypeStore.has g.S.TypeStore.tree _ c.fields_label.result _ _
    (label_read g.S.TypeStore.tree (class_parents c.args.context.now.globals.now) c.in-Some.types.items _
    (rw c.as_str-name.ensures.value at (rw c.in-Some.is at c.in_ok-types.ensures.value)))
    (rw c.deref.ensures.value at c.fields_label.ensures.value)

pub returns-clause-value : goal.returns-clause-value
returns-clause-value g c = labelled_by g.S.TypeStore.has g.S.TypeStore.tree _ c.offers_label.result _ _
    (ap (offers_label (class_parents c.args.context.now.globals.now))
    (rw c.as_str-name.ensures.value at c.in_ok-offers.ensures.value))
    (rw c.deref-2.ensures.value at c.offers_label.ensures.value)
