use Rattle.std.proofs.lemmas.Result.{on_err_weaker}
use Rattle.pc_session.specs.States.{state_of}
use Rattle.pc_message_loop.proofs.Turns.{some_of_word}
use Rattle.pc_message_loop.proofs.serving.lost.Goals as goal

pub returns-clause-begun : goal.returns-clause-begun
returns-clause-begun g c =
    on_err_weaker c.told.result (some_of_word (g.C.Checker.answers c.args.checker.now) g.W.Write.contents
    (state_of c.args.session.now) c.args.output.now c.told.new.output) c.told.ensures.begun
