use Rattle.std.proofs.Common.{◌≡◌, None}
use Rattle.pc_session.specs.States.{state_of}
use Rattle.pc_message_loop.specs.Runs.{IsServed, ended_with}
use Rattle.pc_message_loop.proofs.serving.serve.Given as goal

abbrev pub invariant-messages : goal.invariant-messages
invariant-messages g l = record {
  served : IsServed (g.C.Checker.answers l.checker) g.R.Read.remaining g.W.Write.contents l.fn.input l.input l.fn.output
      l.output (state_of l.session);
  going : ended_with l.session.stage ≡ None;
}
