use Rattle.std.proofs.Common.{◌∙◌, List, length, ap}
use Rattle.pc_shared_maps.specs.declared.lists.SharedList.{SharedList}
use Rattle.pc_class.specs.FieldLists.{fields_in}
use Rattle.pc_class.specs.Tables.{ClassEntry}
use Rattle.std.specs.Prelude.{Some}
use Rattle.pc_class.proofs.table.ClassTable.field_count.Goals as goal

pub returns : goal.returns
returns g c = ap (λ (l : SharedList). l.count) c.of.ensures ∙ (c.self.invariant.1.1 (Some c.args.class)).count
    ∙ ap (λ (es : List (ClassEntry _)). length (fields_in es c.args.class)) c.self.view_is
