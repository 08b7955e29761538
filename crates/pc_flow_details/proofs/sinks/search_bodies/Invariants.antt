use Rattle.std.proofs.Common.{List, map}
use Rattle.std.specs.Prelude.{flat_map}
use Rattle.pc_detail_facts.specs.declared.definitions.Body.{Body as RustBody}
use Rattle.pc_detail_facts.specs.Held.{body_of}
use Rattle.pc_flow_details.specs.Kept.{taken_in_body}
use Rattle.pc_flow_details.proofs.Kept.{LeftOf}
use Rattle.pc_flow_details.proofs.sinks.search_bodies.Given as goal

abbrev pub invariant-loop-body : goal.invariant-loop-body
invariant-loop-body l = LeftOf l.facts (λ (xs : List RustBody). flat_map (taken_in_body l.facts) (map body_of xs))
    l.bodies l.body-index l.sinks l.fn.sinks
