use Rattle.std.proofs.Common.{None, refl, arith, List, map, subst}
use Rattle.pc_detail_facts.specs.Held.{body_of}
use Rattle.pc_name_details.specs.Naming.{suite_rule}
use Rattle.pc_name_details.specs.Naming.{statements_rule}
use Rattle.pc_name_details.specs.Offered.{AddsDetails}
use Rattle.std.proofs.lemmas.List.{take_all}
use Rattle.pc_detail_facts.specs.declared.definitions.Body.{Body as RustBody}
use Rattle.pc_name_details.proofs.NamingSteps.{all_next}
use Rattle.pc_name_details.proofs.Offered.{none_added}
use Rattle.pc_name_details.proofs.leaving.add_statements.Goals as goal

pub loop-body-init : goal.loop-body-init
loop-body-init c = none_added c.args.facts.now (λ f. None) c.args.offers.now (λ f. refl)

pub loop-body-preserved : goal.loop-body-preserved
loop-body-preserved c = all_next body_of c.args.facts.now c.args.bodies.now c.loop-body.body-index c.body-item.result
    c.loop-body-test.true c.body-item.is c.args.offers.now c.loop-body.offers c.add_suite.new.offers
    (λ b. suite_rule None b.function.body) c.loop-body.invariant
    (rw c.deref.ensures.value at c.in_ok-add_suite.ensures)

pub returns : goal.returns
returns c = subst (λ (l : List RustBody). AddsDetails c.args.facts.now (statements_rule (map body_of l))
    c.args.offers.now c.loop-body.offers) (take_all c.loop-body.body-index c.args.bodies.now (omega arith))
    c.loop-body.invariant
