use Rattle.std.proofs.Common.{List, map, refl}
use Rattle.std.specs.Prelude.{flat_map}
use Rattle.pc_detail_facts.specs.declared.definitions.Body.{Body as RustBody}
use Rattle.pc_detail_facts.specs.Held.{body_of}
use Rattle.pc_flow_details.specs.Kept.{taken_in_body}
use Rattle.pc_flow_details.proofs.Kept.{end_of, next_of}
use Rattle.pc_flow_details.proofs.sinks.search_bodies.Goals as goal

pub loop-body-preserved : goal.loop-body-preserved
loop-body-preserved c =
    let f = c.args.facts.now in
    next_of f (λ (xs : List RustBody). flat_map (taken_in_body f) (map body_of xs))
    (taken_in_body f (body_of c.body-item.result)) _ c.loop-body.body-index c.body-item.result _ _ _ refl
    c.loop-body-test.true c.body-item.is c.loop-body.invariant c.in_ok-search_body.ensures

pub returns : goal.returns
returns c =
    let f = c.args.facts.now in
    end_of f (λ (xs : List RustBody). flat_map (taken_in_body f) (map body_of xs)) _
    c.loop-body.body-index _ _ refl c.loop-body-test.false c.loop-body.invariant
