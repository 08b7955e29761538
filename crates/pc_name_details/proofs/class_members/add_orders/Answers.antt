use Rattle.std.proofs.Common.{◌∙◌, ◌≡◌, ◌+◌, ◌∷◌, [], List, Option, Some, ap, arith, length, length-append, map, subst}
use Rattle.std.proofs.Common.{sym}
use Rattle.std.proofs.lemmas.List.{take_all}
use Rattle.std.specs.Borrow.{Bor}
use Rattle.std.specs.Option.{option_map}
use Rattle.std.specs.Prelude.{slice_get}
use Rattle.pc_tree.specs.declared.code.Code.TheVariants.{E08}
use Rattle.pc_tree.specs.declared.tree.ClassDef.{ClassDef as RustClass}
use Rattle.pc_tree.specs.Tree.{ClassDef}
use Rattle.pc_scope.specs.Bindings.{classes_in}
use Rattle.pc_name_details.specs.declared.class_members.OwnedMember.{OwnedMember as RustOwned}
use Rattle.pc_detail_facts.specs.Held.{class_lent, module_held}
use Rattle.pc_detail_rules.specs.Names.{first_of_all, numbered_from, order_in_class}
use Rattle.pc_name_details.specs.Naming.{AreFirstDefaults, first_default_of, owned_member}
use Rattle.pc_name_details.specs.Offered.{AddsDetails, of_code}
use Rattle.pc_name_details.proofs.MemberOrders.{class_numbered, defaults_more, no_defaults, numbered, numbered_next}
use Rattle.pc_name_details.proofs.NamingSteps.{code_added}
use Rattle.pc_name_details.proofs.class_members.add_orders.Goals as goal

pub loop-class-init : goal.loop-class-init
loop-class-init c = let m = module_held c.args.facts.now in record {
  count = ap (λ (l : List (Option RustOwned)). length l) c.new-first.ensures.items;
  first = subst (AreFirstDefaults m) (sym c.new-first.ensures.items) (no_defaults m);
  added = code_added c.args.facts.now E08 c.args.offers.now;
}

pub add_orders_in-requires-clause-numbered : goal.add_orders_in-requires-clause-numbered
add_orders_in-requires-clause-numbered c =
    let cs = classes_in (module_held c.args.facts.now).items in
    let items = c.deref-class-items.result.now in
    let number : c.len-number.result ≡ c.loop-class.class-index =
    omega (arith, c.len-number.ensures, c.loop-class.first.ok.0, c.loop-class.invariant.count) in
    ap (slice_get cs) number
    ∙ class_numbered items cs c.loop-class.class-index c.class-item.result c.loop-class-test.true c.class-item.is
    (ap (λ (l : List (Bor RustClass)). map class_lent l) c.deref-class-items.ensures.value
    ∙ c.requires.definitions.classes)

pub loop-class-preserved : goal.loop-class-preserved
loop-class-preserved c =
    let m = module_held c.args.facts.now in
    let cs = classes_in m.items in
    let items = c.deref-class-items.result.now in
    let i = c.loop-class.class-index in
    let x = c.class-item.result in
    let first = c.loop-class.first.items in
    let count : c.len-number.result ≡ i =
    omega (arith, c.len-number.ensures, c.loop-class.first.ok.0, c.loop-class.invariant.count) in
    let many : c.len-number.result ≡ length c.loop-class.first.items =
    omega (arith, c.len-number.ensures, c.loop-class.first.ok.0) in
    let at : slice_get cs (length first) ≡ Some (class_lent x) = ap (slice_get cs) c.loop-class.invariant.count
    ∙ class_numbered items cs i x c.loop-class-test.true c.class-item.is
    (ap (λ (l : List (Bor RustClass)). map class_lent l) c.deref-class-items.ensures.value
    ∙ c.requires.definitions.classes) in
    record {
      count = ap (λ (l : List (Option RustOwned)). length l) c.in_ok-push.ensures.items
          ∙ length-append first (c.in_ok-here.here ∷ []) ∙ ap (λ k. k + 1) c.loop-class.invariant.count;
      first = subst (AreFirstDefaults m) (sym c.in_ok-push.ensures.items) (defaults_more m first c.in_ok-here.here
          (class_lent x) c.loop-class.invariant.first at (subst (λ k. option_map owned_member c.in_ok-here.here
          ≡ first_default_of m (numbered k (class_lent x))) many c.in_ok-here.ensures.first));
      added = numbered_next c.args.facts.now E08 (order_in_class m) items i x c.loop-class-test.true c.class-item.is
          c.args.offers.now c.loop-class.offers c.add_orders_in.new.offers c.loop-class.invariant.added
          (subst (λ k. AddsDetails c.args.facts.now (of_code E08 (λ p. order_in_class m p
          (numbered k (class_lent x)))) c.loop-class.offers c.add_orders_in.new.offers) count c.in_ok-here.ensures.added);
    }

pub returns : goal.returns
returns c =
    let m = module_held c.args.facts.now in
    let items = c.deref-class-items.result.now in
    let all : map class_lent items ≡ classes_in m.items =
    ap (λ (l : List (Bor RustClass)). map class_lent l) c.deref-class-items.ensures.value
    ∙ c.requires.definitions.classes in
    subst (λ (ds : List ClassDef). AddsDetails c.args.facts.now (of_code E08 (λ p. first_of_all (order_in_class m p)
    (numbered_from 0 ds))) c.args.offers.now c.loop-class.offers)
    (ap (λ (l : List (Bor RustClass)). map class_lent l) (take_all c.loop-class.class-index items (omega arith)) ∙ all)
    c.loop-class.invariant.added
