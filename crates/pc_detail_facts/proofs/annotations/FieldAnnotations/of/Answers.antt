use Rattle.std.proofs.Common.{◌≡◌, ◌+◌, ◌++◌, ◌∷◌, [], List, arith, refl, suc, subst}
use Rattle.pc_detail_facts.specs.Annotated.{HoldsFields}
use Rattle.pc_detail_facts.specs.Held.{class_lent}
use Rattle.pc_detail_facts.proofs.FieldMaps.{class_end, class_next, start_holds}
use Rattle.pc_detail_rules.specs.Written.{Annotated, annotated_fields, inherited_fields}
use Rattle.pc_detail_facts.proofs.annotations.FieldAnnotations.of.Goals as goal

pub loop-class-init : goal.loop-class-init
loop-class-init c = record {
  lists = [];
  holds = start_holds _ c.in_ok-new.ensures.room c.in_ok-new.ensures.empty c.new-2.ensures.items;
  count = refl;
  whole = refl;
}

pub add_class-requires : goal.add_class-requires
add_class-requires c = (c.loop-class.invariant.lists, c.loop-class.invariant.holds)

pub loop-class-preserved : goal.loop-class-preserved
loop-class-preserved c =
    let v = c.loop-class.invariant in
    let next : suc c.loop-class.number ≡ c.loop-class.number + 1 = omega arith in
    record {
      lists = v.lists ++ (inherited_fields v.lists c.base.result ++ annotated_fields (class_lent c.class-item.result)) ∷ [];
      holds = c.in_ok-add_class.ensures v.lists v.holds;
      count = omega (arith, v.count);
      whole = class_next _ v.lists _ c.loop-class.number (c.loop-class.number + 1) c.loop-class.class-index c.args.classes.now
          c.class-item.result c.base.result next c.loop-class-test.true c.class-item.is c.base.ensures.value v.whole;
    }

pub returns : goal.returns
returns c =
    let v = c.loop-class.invariant in
    subst (λ (l : List (List Annotated)). HoldsFields l c.loop-class.fields)
    (class_end _ v.lists _ c.loop-class.number c.loop-class.class-index c.args.classes.now c.loop-class-test.false v.whole)
    v.holds
