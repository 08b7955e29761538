use Rattle.pc_checked_file.proofs.Outputs.{flushed, flush_failed}
use Rattle.pc_checked_file.proofs.file.shown_whole.Goals as goal

pub returns-in-Ok-flush-clause-output : goal.returns-in-Ok-flush-clause-output
returns-in-Ok-flush-clause-output g c =
    flushed g.W.Write.contents (g.R.Read.remaining c.args.input.now.device) c.args.output.now c.shown.new.output
    c.flush.new.self c.in-Ok-flush.ensures.bytes c.args.asked.json c.args.asked.answer c.in-Ok.counts
    c.in-Ok-flush.ensures.failures c.in-Ok.ensures.output

pub returns-in-Err-flush-clause-output : goal.returns-in-Err-flush-clause-output
returns-in-Err-flush-clause-output g c =
    flush_failed g.W.Write.contents (g.R.Read.remaining c.args.input.now.device) c.args.output.now c.shown.new.output
    c.flush.new.self c.in-Err-flush.ensures.bytes c.args.asked.json c.args.asked.answer c.in-Ok.counts
    c.in-Ok.ensures.output
