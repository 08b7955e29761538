use Rattle.std.proofs.Common.{◌≡◌, List, map, rules, sym, subst}
use Rattle.serde_json.specs.Data.{Data}
use Rattle.serde_json.specs.View.{view}
use Rattle.pc_session.specs.Answers.{after}
use Rattle.pc_session.specs.Sent.{SendsStep}
use Rattle.pc_session.specs.Sessions.{Step}
use Rattle.pc_session.specs.Spelled.{AreSpelled}
use Rattle.pc_session.specs.States.{State, state_of}
use Rattle.pc_session.proofs.Depths.{sent}
use Rattle.pc_session.proofs.steps.step.Goals as goal

pub returns-clause-step : goal.returns-clause-step
returns-clause-step g c =
    let answers = g.C.Checker.answers c.args.checker.now in
    let message = c.args.message.now in
    let bytes = c.in_ok-bytes.bytes.items in
    let old : State = state_of c.args.session.now in
    let next : State = after c.in_ok-replies.change old in
    let replies : List Data = map view c.in_ok-replies.replies.items in
    let stepped : Step answers old message replies next = search rules in
    let spelled : AreSpelled replies bytes = search rules in
    let new_is : state_of c.apply.new.self ≡ next = search rules in
    let Done : State → Type 0 = λ s. SendsStep answers old message bytes s in
    subst Done (sym new_is) (record {
      replies = replies;
      step = stepped;
      are_sent = sent answers old next message bytes replies stepped spelled;
    })
