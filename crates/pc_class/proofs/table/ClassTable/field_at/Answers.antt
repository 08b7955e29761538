use Rattle.std.proofs.Common.{◌∙◌, List, ap, sym, subst}
use Rattle.std.specs.Prelude.{Some, slice_get}
use Rattle.pc_shared_maps.specs.declared.lists.SharedList.{SharedList}
use Rattle.pc_shared_maps.specs.SharedLists.{list_place_at, HasRoom}
use Rattle.pc_class.specs.FieldLists.{fields_in, list_in}
use Rattle.pc_class.specs.Parts.{classes_of_table}
use Rattle.pc_class.specs.Tables.{ClassEntry}
use Rattle.pc_class.proofs.ListsOfFields.{no_list_place, field_of_list_place, got_at}
use Rattle.pc_class.proofs.table.ClassTable.field_at.Goals as goal

pub list_place-requires : goal.list_place-requires
list_place-requires g c = subst (HasRoom c.self.inside.lists.lists) (sym c.of.ensures)
    (c.self.invariant.1.1 (Some c.args.class)).room

pub returns-in-None : goal.returns-in-None
returns-in-None g c =
    let s = c.self.inside in
    let told = c.list_place.ensures ∙ ap (λ (l : SharedList). list_place_at s.lists.lists l c.args.place) c.of.ensures in
    sym (no_list_place s.parts.fields.items (fields_in (classes_of_table s.parts) c.args.class) s.lists.lists
    (list_in s.lists c.args.class) (c.self.invariant.1.1 (Some c.args.class)) c.args.place (sym told ∙ c.in-None.is))
    ∙ ap (λ (es : List (ClassEntry _)). slice_get (fields_in es c.args.class) c.args.place) c.self.view_is

pub returns-in-Some : goal.returns-in-Some
returns-in-Some g c =
    let s = c.self.inside in
    let list_place = c.in-Some.list_place in
    let told = c.list_place.ensures ∙ ap (λ (l : SharedList). list_place_at s.lists.lists l c.args.place) c.of.ensures in
    got_at _ c.deref.result.now list_place.number c.get.result c.get.ensures.lookup.1 c.get.ensures.lookup.3
    ∙ ap (λ (fs : List _). slice_get fs list_place.number) c.deref.ensures.value
    ∙ field_of_list_place s.parts.fields.items (fields_in (classes_of_table s.parts) c.args.class) s.lists.lists
    (list_in s.lists c.args.class) (c.self.invariant.1.1 (Some c.args.class)) c.args.place list_place
    (sym told ∙ c.in-Some.is)
    ∙ ap (λ (es : List (ClassEntry _)). slice_get (fields_in es c.args.class) c.args.place) c.self.view_is
