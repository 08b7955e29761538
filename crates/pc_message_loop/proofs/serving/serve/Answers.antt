use Rattle.std.proofs.Common.{◌∙◌, rules, sym}
use Rattle.pc_session.specs.States.{state_of}
use Rattle.pc_message_loop.proofs.Turns.{served_more, stopped, cut_after}
use Rattle.pc_message_loop.proofs.serving.serve.Goals as goal

pub returns-in-Err : goal.returns-in-Err
returns-in-Err g c =
    stopped (g.C.Checker.answers c.args.checker.now) g.R.Read.remaining g.W.Write.contents c.args.input.now
    c.messages.input c.turn.new.input c.args.output.now c.messages.output c.turn.new.output
    (state_of c.messages.session) c.in-Err.end c.messages.invariant.served c.messages.invariant.going
    c.in-Err.ensures.stop

pub returns-in-Some : goal.returns-in-Some
returns-in-Some g c =
    let served = served_more (g.C.Checker.answers c.args.checker.now) g.R.Read.remaining g.W.Write.contents
    c.args.input.now c.messages.input c.turn.new.input c.args.output.now c.messages.output c.turn.new.output
    (state_of c.messages.session) (state_of c.turn.new.session) c.messages.invariant.served
    c.messages.invariant.going c.in-Ok.ensures.turn in
    (state_of c.turn.new.session, served, sym c.ended_with.ensures ∙ c.in-Some.is)

pub messages-preserved : goal.messages-preserved
messages-preserved g c = record {
  served = served_more (g.C.Checker.answers c.args.checker.now) g.R.Read.remaining g.W.Write.contents
      c.args.input.now c.messages.input c.turn.new.input c.args.output.now c.messages.output c.turn.new.output
      (state_of c.messages.session) (state_of c.turn.new.session) c.messages.invariant.served
      c.messages.invariant.going c.in-Ok.ensures.turn;
  going = search rules;
}

pub returns : goal.returns
returns g c =
    cut_after (g.C.Checker.answers c.args.checker.now) g.R.Read.remaining g.W.Write.contents c.args.input.now
    c.messages.input c.args.output.now c.messages.output (state_of c.messages.session) c.messages.invariant.served
