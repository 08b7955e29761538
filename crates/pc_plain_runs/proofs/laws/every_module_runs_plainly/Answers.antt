use Rattle.pc_plain_runs.proofs.PlainRuns.{there_is_one}
use Rattle.pc_plain_runs.proofs.laws.every_module_runs_plainly.Goals as goal

pub returns : goal.returns
returns c = there_is_one
