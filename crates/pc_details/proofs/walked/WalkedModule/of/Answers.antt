use Rattle.std.proofs.Common.{List, subst}
use Rattle.std.specs.Prelude.{flat_map}
use Rattle.pc_tree.specs.declared.code.Code.TheVariants.{A1, E12}
use Rattle.pc_scope.specs.Bindings.{Body}
use Rattle.pc_detail_facts.specs.Held.{module_held}
use Rattle.pc_flow_details.specs.Kept.{flow_kept}
use Rattle.pc_name_details.specs.Naming.{walked_detail}
use Rattle.pc_name_details.specs.Offered.{kept_of}
use Rattle.pc_details.specs.Made.{flow_told}
use Rattle.pc_name_details.specs.Uses.{AreBound, bindings_of}
use Rattle.pc_details.proofs.WalkHeld.{are_of, are_these}
use Rattle.pc_details.proofs.walked.WalkedModule.of.Goals as goal

pub of-requires-clause-exprs : goal.of-requires-clause-exprs
of-requires-clause-exprs c = rw c.deref.ensures.value (c.in_ok-exprs.ensures (module_held c.args.facts.now)
    c.requires.facts.definitions c.requires.bodies)

pub named_offers-requires-clause-exprs : goal.named_offers-requires-clause-exprs
named_offers-requires-clause-exprs c = rw c.deref-2.ensures.value (c.in_ok-exprs.ensures
    (module_held c.args.facts.now) c.requires.facts.definitions c.requires.bodies)

pub returns-clause-holds : goal.returns-clause-holds
returns-clause-holds c =
    let f = c.args.facts.now in
    let m = module_held f in
    record {
      facts = c.requires.facts;
      nodes = c.in_ok-nodes.ensures;
      bound = subst (λ (l : List Body). AreBound c.in_ok-of-2.field-0 (flat_map bindings_of l)) c.requires.bodies
          c.in_ok-of-2.ensures;
      wrong = λ p. are_these (flow_told f E12 p) (flow_kept c.in_ok-of.field-0.wrong p) (c.in_ok-of.ensures.wrong p);
      dynamic = λ p. are_these (flow_told f A1 p) (flow_kept c.in_ok-of.field-0.dynamic p)
          (c.in_ok-of.ensures.dynamic p);
      names = λ g listed. are_of f (walked_detail m g.place g.code) (kept_of c.in_ok-named_offers.field-0 g)
          (c.in_ok-named_offers.ensures g listed);
    }

pub returns-clause-left : goal.returns-clause-left
returns-clause-left c = record {
  wrong = λ g listed e. c.in_ok-of.ensures.wrong g.place;
  dynamic = λ g listed e. c.in_ok-of.ensures.dynamic g.place;
  names = c.in_ok-named_offers.ensures;
}
