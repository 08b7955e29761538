use Rattle.std.proofs.Common.{List, map, ap}
use Rattle.std.specs.Prelude.{flat_map}
use Rattle.pc_detail_facts.specs.Held.{body_of, owned_of}
use Rattle.pc_detail_rules.specs.Names.{arguments_together}
use Rattle.pc_detail_rules.specs.Nodes.{OwnedExpr}
use Rattle.pc_details.proofs.WalkHeld.{offered}
use Rattle.pc_details.proofs.walked.named_offers.Goals as goal

pub returns : goal.returns
returns c = offered c.args.facts.now c.args.findings.now (map body_of c.args.bodies.now)
    (flat_map arguments_together (map owned_of c.args.exprs.now)) c.in_ok-offers.offers c.add_module.new.offers
    c.add_statements.new.offers c.add_all_given.new.offers c.requires.bodies
    (ap (λ (l : List OwnedExpr). flat_map arguments_together l) c.requires.exprs)
    c.in_ok-offers.ensures.wanted c.in_ok-offers.ensures.kept c.in_ok-add_module.ensures
    c.in_ok-add_statements.ensures c.in_ok-add_all_given.ensures
