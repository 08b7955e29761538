use Rattle.std.proofs.Common.{◌≡◌, List, map, rules, sym, subst}
use Rattle.serde_json.specs.Data.{Data}
use Rattle.serde_json.specs.View.{view}
use Rattle.pc_session.specs.declared.replies.ErrorCode.TheVariants.{TooLong}
use Rattle.pc_session.specs.Answers.{after}
use Rattle.pc_session.specs.Sent.{SendsRefusal}
use Rattle.pc_session.specs.Sessions.{IsUnreadable}
use Rattle.pc_session.specs.Spelled.{AreSpelled}
use Rattle.pc_session.specs.States.{State, state_of}
use Rattle.pc_session.proofs.Depths.{refused_sent}
use Rattle.pc_session.proofs.steps.refuse_long.Goals as goal

pub returns-clause-refused : goal.returns-clause-refused
returns-clause-refused c =
    let bytes = c.in_ok-bytes.bytes.items in
    let old : State = state_of c.args.session.now in
    let next : State = after c.in_ok-replies.change old in
    let replies : List Data = map view c.in_ok-replies.replies.items in
    let refused : IsUnreadable TooLong old replies next = search rules in
    let spelled : AreSpelled replies bytes = search rules in
    let new_is : state_of c.apply.new.self ≡ next = search rules in
    let Done : State → Type 0 = λ s. SendsRefusal old bytes s in
    subst Done (sym new_is) (refused_sent old next bytes replies refused spelled)
