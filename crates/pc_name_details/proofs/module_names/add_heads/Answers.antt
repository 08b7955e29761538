use Rattle.std.proofs.Common.{◌∙◌, List, None, ap, map, refl, subst, sym, arith}
use Rattle.std.specs.Borrow.{Bor}
use Rattle.pc_tree.specs.declared.tree.ClassDef.{ClassDef as RustClass}
use Rattle.pc_tree.specs.Tree.{ClassDef}
use Rattle.pc_detail_facts.specs.Held.{class_lent}
use Rattle.pc_detail_rules.specs.Names.{first_of_all}
use Rattle.pc_name_details.specs.Naming.{AreFirst, base_rule, names_of_classes, decorator_rule, head_rule}
use Rattle.pc_name_details.specs.Offered.{AddsDetails}
use Rattle.std.proofs.lemmas.List.{take_all}
use Rattle.pc_name_details.proofs.NamingSteps.{all_next}
use Rattle.pc_name_details.proofs.Offered.{added_both, none_added}
use Rattle.pc_name_details.proofs.module_names.add_heads.Goals as goal

pub loop-class-init : goal.loop-class-init
loop-class-init c = none_added c.args.facts.now (λ f. None) c.args.offers.now (λ f. refl)

pub loop-class-preserved : goal.loop-class-preserved
loop-class-preserved c =
    let facts = c.args.facts.now in
    let cs = c.deref-class-items.result.now in
    let names = names_of_classes (map class_lent cs) in
    let x = c.class-item.result in
    let d = class_lent x in
    let o = c.add_base.new.offers in
    let places : AreFirst c.in_ok-places.places names = subst (λ (l : List (Bor RustClass)).
    AreFirst c.in_ok-places.places (names_of_classes (map class_lent l))) (sym c.deref-class-items.ensures.value)
    c.in_ok-places.ensures in
    all_next class_lent facts cs c.loop-class.class-index x c.loop-class-test.true c.class-item.is c.args.offers.now
    c.loop-class.offers o (head_rule names) c.loop-class.invariant
    (added_both facts (decorator_rule d) (base_rule names d.base) c.loop-class.offers c.add_decorator.new.offers o
    c.in_ok-add_decorator.ensures (c.in_ok-add_base.ensures names places))

pub returns : goal.returns
returns c =
    let facts = c.args.facts.now in
    let cs = c.deref-class-items.result.now in
    let lent : List (Bor RustClass) → List ClassDef = map class_lent in
    subst (λ (ds : List ClassDef). AddsDetails facts (λ f. first_of_all (λ d. head_rule (names_of_classes ds) d f) ds)
    c.args.offers.now c.loop-class.offers) (ap lent c.deref-class-items.ensures.value ∙ c.requires.definitions.classes)
    (subst (λ (l : List (Bor RustClass)). AddsDetails facts
    (λ f. first_of_all (λ d. head_rule (names_of_classes (map class_lent cs)) d f) (map class_lent l)) c.args.offers.now
    c.loop-class.offers) (take_all c.loop-class.class-index cs (omega arith)) c.loop-class.invariant)
