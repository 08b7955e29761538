use Rattle.std.proofs.Common.{◌≡◌, ◌∙◌, ◌&&◌, ◌+◌, drop, sym, ap, subst}
use Rattle.std.specs.Prelude.{false}
use Rattle.std.specs.List.{list_all}
use Rattle.pc_class.specs.Tables.{method_with}
use Rattle.pc_class.specs.Parts.{bases_in}
use Rattle.pc_overrides.specs.declared.overriding.Relation.TheVariants as relations
use Rattle.pc_overrides.specs.Internal.OverrideTests.{meets_demand}
use Rattle.pc_overrides.specs.Internal.Representing.{static_where}
use Rattle.pc_overrides.proofs.Demands.{and_further, tested_from, listed_item}
use Rattle.pc_overrides.proofs.OverrideWalk.{method_given, method_keeps}
use Rattle.pc_overrides.proofs.judging.static_among.Goals.{then-is_static, else-is_static}
use Rattle.pc_overrides.proofs.judging.static_among.Goals as goal

pub meets-requires-clause-old : goal.meets-requires-clause-old
meets-requires-clause-old g c =
    let j = c.args.judging.now in
    let has = g.S.TypeStore.has in
    let d = c.demand-item.result in
    method_keeps (has c.args.store.now) (has c.loop-demand.store) d.method.now c.loop-demand.invariant.store
    (method_given (has c.args.store.now) j.classes.now d.method.now c.requires.table
    (listed_item g.S.TypeStore.tree j c.args.demands.now c.loop-demand.demand-index d c.requires.listed
    c.loop-demand-test.true c.demand-item.is))

pub returns-then-not-meets-clause-value : goal.returns-then-not-meets-clause-value
returns-then-not-meets-clause-value g c =
    let bases = bases_in c.args.judging.now.classes.now in
    let tree = g.S.TypeStore.tree in
    let x = method_with tree c.args.method.now in
    let good = meets_demand tree relations.Assignable bases x in
    let demands = c.args.demands.now in
    let i = c.loop-demand.demand-index in
    let all : list_all good demands ≡ false = c.loop-demand.invariant.good
    ∙ tested_from good demands i c.demand-item.result c.loop-demand-test.true c.demand-item.is
    ∙ ap (λ b. b && list_all good (drop (i + 1) demands)) (sym (rw c.parents-parents.ensures at c.meets.ensures.value) ∙ c.if-not-meets.true) in
    ap (λ b. static_where b (list_all (meets_demand tree relations.Static bases x) demands)) (sym all)

pub meets-is_static-requires-clause-old : goal.meets-is_static-requires-clause-old
meets-is_static-requires-clause-old g c =
    let j = c.args.judging.now in
    let has = g.S.TypeStore.has in
    let d = c.demand-item.result in
    method_keeps (has c.args.store.now) (has c.meets.new.store) d.method.now
    (λ t h. c.meets.ensures.kept t (c.loop-demand.invariant.store t h))
    (method_given (has c.args.store.now) j.classes.now d.method.now c.requires.table
    (listed_item g.S.TypeStore.tree j c.args.demands.now c.loop-demand.demand-index d c.requires.listed
    c.loop-demand-test.true c.demand-item.is))

pub loop-demand-preserved : goal.loop-demand-preserved
loop-demand-preserved g c =
    let bases = bases_in c.args.judging.now.classes.now in
    let tree = g.S.TypeStore.tree in
    let has = g.S.TypeStore.has in
    let x = method_with tree c.args.method.now in
    let demands = c.args.demands.now in
    let d = c.demand-item.result in
    let i = c.loop-demand.demand-index in
    let so_far = c.loop-demand.is_static in
    let good = meets_demand tree relations.Assignable bases x in
    let static = meets_demand tree relations.Static bases x in
    let rest = list_all static (drop (i + 1) demands) in
    let flag : (so_far && static d) ≡ c.if-is_static.is_static = elim c.if-is_static.branch [
      | then-is_static w ↦ ap (λ b. b && static d) w.if-is_static.true ∙ sym (rw c.parents-parents.ensures at w.meets-is_static.ensures.value)
          ∙ sym w.is_static-is
      | else-is_static w ↦ ap (λ b. b && static d) w.if-is_static.false ∙ sym w.if-is_static.false
          ∙ sym w.is_static-is
    ] in
    record {
      store = λ t h. elim c.if-is_static.branch [
        | then-is_static w ↦ subst (λ s. has s t) (sym w.store-is) (w.meets-is_static.ensures.kept t
            (c.meets.ensures.kept t (c.loop-demand.invariant.store t h)))
        | else-is_static w ↦ subst (λ s. has s t) (sym w.store-is) (c.meets.ensures.kept t
            (c.loop-demand.invariant.store t h))
      ];
      good = c.loop-demand.invariant.good ∙ tested_from good demands i d c.loop-demand-test.true c.demand-item.is
          ∙ ap (λ b. b && list_all good (drop (i + 1) demands)) (sym (rw c.parents-parents.ensures at c.meets.ensures.value) ∙ c.if-not-meets.false);
      static = c.loop-demand.invariant.static
          ∙ ap (λ b. so_far && b) (tested_from static demands i d c.loop-demand-test.true c.demand-item.is)
          ∙ sym (and_further so_far (static d) rest) ∙ ap (λ b. b && rest) flag;
    }
