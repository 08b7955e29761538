use Rattle.std.proofs.Common.{◌∙◌, ◌∷◌, [], List, ap, map, subst, sym, take, arith}
use Rattle.std.proofs.lemmas.List.{map-append}
use Rattle.pc_tree.specs.Tree.{ClassDef, Name}
use Rattle.pc_detail_facts.specs.Held.{class_lent}
use Rattle.pc_name_details.specs.Naming.{AreFirst, names_of_classes}
use Rattle.std.proofs.lemmas.List.{take_all}
use Rattle.pc_tree.specs.declared.tree.ClassDef.{ClassDef as RustClass}
use Rattle.std.specs.Borrow.{Bor}
use Rattle.pc_name_details.proofs.NamingSteps.{mapped_more}
use Rattle.pc_name_details.proofs.module_names.class_places.Goals as goal

pub loop-class-preserved : goal.loop-class-preserved
loop-class-preserved c =
    let cs = c.deref-class-items.result.now in
    let i = c.loop-class.class-index in
    let x = c.class-item.result in
    subst (λ (l : List Name). AreFirst c.add.new.self l)
    (sym (ap names_of_classes (mapped_more class_lent cs i x c.loop-class-test.true c.class-item.is)
    ∙ map-append (λ (d : ClassDef). d.name) (map class_lent (take i cs)) (class_lent x ∷ [])))
    (c.in_ok-add.ensures (names_of_classes (map class_lent (take i cs))) c.loop-class.invariant)

pub loop-class-init : goal.loop-class-init
loop-class-init c = c.new-first.ensures

pub returns : goal.returns
returns c =
    let cs = c.deref-class-items.result.now in
    subst (λ (l : List (Bor RustClass)). AreFirst c.loop-class.first (names_of_classes (map class_lent l)))
    (take_all c.loop-class.class-index cs (omega arith) ∙ c.deref-class-items.ensures.value) c.loop-class.invariant
