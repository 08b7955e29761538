use Rattle.std.proofs.Common.{◌∙◌, List, ap, sym, subst}
use Rattle.std.specs.Prelude.{Some}
use Rattle.pc_scope.specs.Resolution.{index_of}
use Rattle.pc_shared_maps.specs.declared.lists.SharedList.{SharedList}
use Rattle.pc_shared_maps.specs.SharedLists.{place_at, HasRoom}
use Rattle.pc_class.specs.FieldLists.{fields_in}
use Rattle.pc_class.specs.Listed.{names_listed}
use Rattle.pc_class.specs.Tables.{ClassEntry}
use Rattle.pc_class.proofs.table.ClassTable.field_place.Goals as goal

pub place-requires : goal.place-requires
place-requires g c = subst (HasRoom c.self.inside.lists.lists) (sym c.of.ensures)
    (c.self.invariant.1.1 (Some c.args.class)).room

pub returns : goal.returns
returns g c = c.place.ensures
    ∙ ap (λ (l : SharedList). place_at c.self.inside.lists.lists l c.args.name.now) c.of.ensures
    ∙ (c.self.invariant.1.1 (Some c.args.class)).names c.args.name.now
    ∙ ap (λ (es : List (ClassEntry _)). index_of c.args.name.now (names_listed (fields_in es c.args.class)))
    c.self.view_is
