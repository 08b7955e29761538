use Rattle.std.proofs.Common.{◌∙◌, List, Option, ap, sym, map, arith}
use Rattle.std.proofs.lemmas.List.{take_all}
use Rattle.std.specs.Option.{option_or}
use Rattle.pc_scope.specs.Bindings.{Body}
use Rattle.pc_detail_facts.specs.declared.definitions.Body.{Body as RustBody}
use Rattle.pc_detail_facts.specs.Held.{body_of}
use Rattle.pc_detail_nodes.specs.NodesHeld.{body_among, body_at}
use Rattle.pc_detail_nodes.proofs.PlacesMarked.{among_more}
use Rattle.pc_detail_nodes.proofs.nodes.functions_by_place.Goals as goal

pub loop-body-preserved : goal.loop-body-preserved
loop-body-preserved c = λ p. c.in_ok-add_function.ensures p
    ∙ ap (λ (o : Option Body). option_or o (body_at p (body_of c.body-item.result))) (c.loop-body.invariant p)
    ∙ sym (among_more p c.args.bodies.now c.loop-body.body-index c.body-item.result c.loop-body-test.true c.body-item.is)

pub returns : goal.returns
returns c = λ p. c.loop-body.invariant p
    ∙ ap (λ (l : List RustBody). body_among p (map body_of l))
    (take_all c.loop-body.body-index c.args.bodies.now (omega arith))
