use Rattle.std.proofs.Common.{◌≡◌, ◌<◌, ◌%◌, ◌==◌, sym, subst, arith, length}
use Rattle.std.specs.Prelude.{true, false}
use Rattle.std.proofs.lemmas.Bool.Decides.{nat_tests}
use Rattle.pc_shared_maps.proofs.SharedParts.{step_to, ends_at}
use Rattle.pc_shared_maps.proofs.shared.SharedMaps.get.Goals as goal
use Rattle.pc_shared_maps.proofs.shared.SharedMaps.get.Goals.{then-rest-eq1, else-rest-eq1}

pub loop-rest-preserved : goal.loop-rest-preserved
loop-rest-preserved c = elim c.if-rest-eq1.branch [
  | then-rest-eq1 w ↦ let kind : (c.loop-rest.rest % 2 == 1) ≡ true = grind (arith, nat_tests) in let within =
      c.node-node.ensures.within.odd in (
        subst (λ i. i < length c.args.self.now) (sym w.at-is) within,
        step_to c.args.self.now c.loop-rest.at c.loop-rest.rest c.if-rest-eq1.at c.node-node.result true _
            c.loop-rest-test.true c.node-node.ensures.value kind w.at-is c.loop-rest.invariant.1,
      )
  | else-rest-eq1 w ↦ let kind : (c.loop-rest.rest % 2 == 1) ≡ false = grind (arith, nat_tests) in let within =
      c.node-node.ensures.within.even in (
        subst (λ i. i < length c.args.self.now) (sym w.at-is) within,
        step_to c.args.self.now c.loop-rest.at c.loop-rest.rest c.if-rest-eq1.at c.node-node.result false _
            c.loop-rest-test.true c.node-node.ensures.value kind w.at-is c.loop-rest.invariant.1,
      )
]

pub returns : goal.returns
returns c = ends_at c.args.self.now c.loop-rest.at c.loop-rest.rest c.node.result _ c.loop-rest-test.false
    c.node.ensures.value c.loop-rest.invariant.1
