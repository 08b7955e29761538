use Rattle.std.proofs.Common.{◌+◌, [], List, map, refl, subst, take, arith}
use Rattle.std.proofs.lemmas.List.{take_all}
use Rattle.std.specs.Prelude.{flat_map}
use Rattle.pc_detail_facts.specs.declared.definitions.OwnedExpr.{OwnedExpr as RustOwned}
use Rattle.pc_detail_facts.specs.Held.{owned_of}
use Rattle.pc_detail_rules.specs.Names.{arguments_together}
use Rattle.pc_name_details.specs.Naming.{given_rule}
use Rattle.pc_name_details.specs.Offered.{AddsDetails}
use Rattle.pc_name_details.proofs.NamingSteps.{flat_mapped}
use Rattle.pc_details.proofs.WalkHeld.{given_more, none_given}
use Rattle.pc_details.proofs.walked.add_all_given.Goals as goal

pub loop-owned-init : goal.loop-owned-init
loop-owned-init c = none_given c.args.facts.now [] c.args.offers.now refl

pub loop-owned-preserved : goal.loop-owned-preserved
loop-owned-preserved c =
    let i = c.loop-owned.owned-index in
    let x = c.owned-item.result in
    let xs = c.args.exprs.now in
    given_more c.args.facts.now (flat_map arguments_together (map owned_of (take i xs))) (arguments_together (owned_of x))
    (flat_map arguments_together (map owned_of (take (i + 1) xs))) c.args.offers.now c.loop-owned.offers
    c.add_given.new.offers (flat_mapped owned_of arguments_together xs i x c.loop-owned-test.true c.owned-item.is)
    c.loop-owned.invariant c.in_ok-add_given.ensures

pub returns : goal.returns
returns c = subst (λ (l : List RustOwned). AddsDetails c.args.facts.now
    (given_rule (flat_map arguments_together (map owned_of l))) c.args.offers.now c.loop-owned.offers)
    (take_all c.loop-owned.owned-index c.args.exprs.now (omega arith)) c.loop-owned.invariant
