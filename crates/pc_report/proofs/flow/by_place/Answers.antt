use Rattle.std.proofs.Common.{◌≡◌, ◌+◌, ◌++◌, ◌∷◌, [], List, take, get_or, arith, subst, sym, ap, ◌∙◌}
use Rattle.std.proofs.lemmas.List.{take_more, take_all}
use Rattle.pc_report.specs.Flows.{FlowEntry, HasFlows}
use Rattle.pc_report.proofs.Listed.{flows_more}
use Rattle.pc_report.proofs.flow.by_place.Goals as goal

pub loop-flow-preserved : goal.loop-flow-preserved
loop-flow-preserved c =
    let xs = c.args.flows.now in
    let i = c.loop-flow.flow-index in
    let x : FlowEntry = c.flow-item.result in
    let more : take (i + 1) xs ≡ take i xs ++ get_or xs i x ∷ [] = take_more xs i x (omega arith) in
    let here : take (i + 1) xs ≡ take i xs ++ x ∷ [] = more ∙ ap (λ (y : FlowEntry). take i xs ++ y ∷ [])
    (sym c.flow-item.is) in
    let grown : HasFlows (take i xs ++ x ∷ []) c.insert.new.self = flows_more (take i xs) _ c.loop-flow.map
    c.insert.new.self c.loop-flow.invariant c.in_ok-insert.ensures.updates.0 in
    subst (λ (l : List FlowEntry). HasFlows l c.insert.new.self) (sym here) grown

pub returns : goal.returns
returns c = let e : take c.loop-flow.flow-index c.args.flows.now ≡ c.args.flows.now = take_all c.loop-flow.flow-index
    c.args.flows.now (omega arith) in subst (λ (l : List FlowEntry). HasFlows l c.loop-flow.map) e c.loop-flow.invariant
