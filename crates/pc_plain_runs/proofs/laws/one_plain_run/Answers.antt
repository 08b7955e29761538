use Rattle.pc_plain_runs.proofs.PlainRuns.{only_one}
use Rattle.pc_plain_runs.proofs.laws.one_plain_run.Goals as goal

pub returns : goal.returns
returns c = only_one
