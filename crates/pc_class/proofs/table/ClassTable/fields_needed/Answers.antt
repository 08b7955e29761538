use Rattle.std.proofs.Common.{◌∙◌, ◌≤◌, List, length, ap, sym, subst}
use Rattle.std.specs.Prelude.{Some}
use Rattle.pc_shared_maps.specs.declared.lists.SharedList.{SharedList}
use Rattle.pc_shared_maps.specs.SharedLists.{needed_at, HasRoom}
use Rattle.pc_class.specs.FieldLists.{fields_in, list_in}
use Rattle.pc_class.specs.Listed.{needed_in}
use Rattle.pc_class.specs.Parts.{classes_of_table}
use Rattle.pc_class.specs.Tables.{ClassEntry}
use Rattle.pc_class.proofs.ListsOfFields.{needed_told}
use Rattle.pc_class.proofs.table.ClassTable.fields_needed.Goals as goal

pub needed-requires : goal.needed-requires
needed-requires g c = subst (HasRoom c.self.inside.lists.lists) (sym c.of.ensures)
    (c.self.invariant.1.1 (Some c.args.class)).room

pub returns : goal.returns
returns g c =
    let s = c.self.inside in
    let within = subst (λ (es : List (ClassEntry _)). c.args.count ≤ length (fields_in es c.args.class))
    (sym c.self.view_is) c.requires in
    c.needed.ensures
    ∙ ap (λ (l : SharedList). needed_at s.lists.lists l c.args.count) c.of.ensures
    ∙ needed_told s.parts.fields.items (fields_in (classes_of_table s.parts) c.args.class) s.lists.lists
    (list_in s.lists c.args.class) (c.self.invariant.1.1 (Some c.args.class)) c.args.count within
    ∙ ap (λ (es : List (ClassEntry _)). needed_in (fields_in es c.args.class) c.args.count) c.self.view_is
