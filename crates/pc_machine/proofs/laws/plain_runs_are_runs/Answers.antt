use Rattle.pc_machine.proofs.Modules.{plain_is_run}
use Rattle.pc_machine.proofs.laws.plain_runs_are_runs.Goals as goal

pub returns : goal.returns
returns c = plain_is_run
