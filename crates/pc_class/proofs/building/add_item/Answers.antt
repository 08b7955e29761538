use Rattle.std.proofs.Common.{◌≡◌, ◌∙◌, ◌++◌, List, [], length, sym, ap, append-nil}
use Rattle.std.specs.Prelude.{Option, Some}
use Rattle.std.specs.List.{cons_option}
use Rattle.pc_tree.specs.Tree.{ClassDef, class_of, item_of, item_of_kind}
use Rattle.pc_tree.specs.declared.code.Finding.{Finding}
use Rattle.pc_scope.specs.Bindings.{as_class}
use Rattle.pc_class.specs.Facts.{classes_behind}
use Rattle.pc_class.specs.Tables.{classes_with}
use Rattle.pc_class.specs.Parts.{classes_of_table}
use Rattle.pc_annotations.specs.ModuleOutlines.{module_in}
use Rattle.pc_class.specs.Built.{found_behind, annotated_behind}
use Rattle.pc_class.proofs.building.add_item.Goals as goal

pub returns-in_ok-add_class-in-Class-clause-table : goal.returns-in_ok-add_class-in-Class-clause-table
returns-in_ok-add_class-in-Class-clause-table g c = c.in_ok-add_class-in-Class.ensures.added.table

pub returns-in_ok-add_class-in-Class-clause-given : goal.returns-in_ok-add_class-in-Class-clause-given
returns-in_ok-add_class-in-Class-clause-given g c = c.in_ok-add_class-in-Class.ensures.added.given

pub returns-in_ok-add_class-in-Class-clause-classes : goal.returns-in_ok-add_class-in-Class-clause-classes
returns-in_ok-add_class-in-Class-clause-classes g c =
    let m = module_in c.args.outline.now in
    let is_class : as_class (item_of c.args.item.now) ≡ Some (class_of c.in-Class.definition) =
    ap (λ k. as_class (item_of_kind c.args.item.now.first k)) c.in-Class.is in
    let n = length c.args.parts.now.classes.items in
    c.in_ok-add_class-in-Class.ensures.added.classes ∙ ap (λ (o : Option ClassDef). classes_behind m
    (classes_with g.S.TypeStore.tree (classes_of_table c.args.parts.now)) n (cons_option o [])) (sym is_class)

pub returns-in_ok-add_class-in-Class-clause-found : goal.returns-in_ok-add_class-in-Class-clause-found
returns-in_ok-add_class-in-Class-clause-found g c =
    let m = module_in c.args.outline.now in
    let is_class : as_class (item_of c.args.item.now) ≡ Some (class_of c.in-Class.definition) =
    ap (λ k. as_class (item_of_kind c.args.item.now.first k)) c.in-Class.is in
    let n = length c.args.parts.now.classes.items in
    c.in_ok-add_class-in-Class.ensures.found
    ∙ ap (λ (fs : List Finding). c.args.found.now.items ++ fs) (sym (append-nil _)
    ∙ ap (λ (o : Option ClassDef). found_behind m (classes_with g.S.TypeStore.tree (classes_of_table c.args.parts.now)) n
    (cons_option o [])) (sym is_class))

pub returns-in_ok-add_class-in-Class-clause-annotated : goal.returns-in_ok-add_class-in-Class-clause-annotated
returns-in_ok-add_class-in-Class-clause-annotated g c =
    let m = module_in c.args.outline.now in
    let is_class : as_class (item_of c.args.item.now) ≡ Some (class_of c.in-Class.definition) =
    ap (λ k. as_class (item_of_kind c.args.item.now.first k)) c.in-Class.is in
    let n = length c.args.parts.now.classes.items in
    c.in_ok-add_class-in-Class.ensures.annotated
    ∙ ap (λ (fs : List Finding). c.args.reader.now.found.now.items ++ fs) (sym (append-nil _)
    ∙ ap (λ (o : Option ClassDef). annotated_behind m (classes_with g.S.TypeStore.tree (classes_of_table c.args.parts.now)) n
    (cons_option o [])) (sym is_class))
