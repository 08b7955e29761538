use Rattle.std.proofs.Common.{◌∙◌, ◌≡◌, ◌+◌, List, ap, arith, map, refl, subst}
use Rattle.std.proofs.lemmas.List.{take_all}
use Rattle.std.specs.Borrow.{Bor}
use Rattle.std.specs.Prelude.{slice_get}
use Rattle.pc_tree.specs.declared.code.Code.TheVariants.{E06}
use Rattle.pc_tree.specs.declared.tree.ClassDef.{ClassDef as RustClass}
use Rattle.pc_tree.specs.Tree.{ClassDef}
use Rattle.pc_scope.specs.Bindings.{classes_in}
use Rattle.pc_detail_facts.specs.Held.{class_lent, module_held}
use Rattle.pc_detail_rules.specs.Names.{clash_in_class, first_of_all, numbered_from}
use Rattle.pc_name_details.specs.Offered.{AddsDetails, of_code}
use Rattle.pc_name_details.proofs.MemberOrders.{class_numbered, numbered, numbered_next}
use Rattle.pc_name_details.proofs.NamingSteps.{code_added}
use Rattle.pc_name_details.proofs.class_members.add_clashes.Goals as goal

pub loop-class-init : goal.loop-class-init
loop-class-init c = record { count = refl; added = code_added c.args.facts.now E06 c.args.offers.now }

pub add_clashes_in-requires-clause-numbered : goal.add_clashes_in-requires-clause-numbered
add_clashes_in-requires-clause-numbered c =
    let items = c.deref-class-items.result.now in
    let x = c.class-item.result in
    ap (slice_get (classes_in (module_held c.args.facts.now).items)) c.loop-class.invariant.count
    ∙ class_numbered items (classes_in (module_held c.args.facts.now).items) c.loop-class.class-index x
    c.loop-class-test.true c.class-item.is
    (ap (λ (l : List (Bor RustClass)). map class_lent l) c.deref-class-items.ensures.value
    ∙ c.requires.definitions.classes)

pub loop-class-preserved : goal.loop-class-preserved
loop-class-preserved c =
    let m = module_held c.args.facts.now in
    let items = c.deref-class-items.result.now in
    let i = c.loop-class.class-index in
    let x = c.class-item.result in
    record {
      count = ap (λ k. k + 1) c.loop-class.invariant.count;
      added = numbered_next c.args.facts.now E06 (clash_in_class m) items i x c.loop-class-test.true c.class-item.is
          c.args.offers.now c.loop-class.offers c.add_clashes_in.new.offers c.loop-class.invariant.added
          (subst (λ k. AddsDetails c.args.facts.now (of_code E06 (λ p. clash_in_class m p
          (numbered k (class_lent x)))) c.loop-class.offers c.add_clashes_in.new.offers)
          c.loop-class.invariant.count c.in_ok-add_clashes_in.ensures);
    }

pub returns : goal.returns
returns c =
    let m = module_held c.args.facts.now in
    let items = c.deref-class-items.result.now in
    let all : map class_lent items ≡ classes_in m.items =
    ap (λ (l : List (Bor RustClass)). map class_lent l) c.deref-class-items.ensures.value
    ∙ c.requires.definitions.classes in
    subst (λ (ds : List ClassDef). AddsDetails c.args.facts.now (of_code E06 (λ p. first_of_all (clash_in_class m p)
    (numbered_from 0 ds))) c.args.offers.now c.loop-class.offers)
    (ap (λ (l : List (Bor RustClass)). map class_lent l) (take_all c.loop-class.class-index items (omega arith)) ∙ all)
    c.loop-class.invariant.added
