use Rattle.pc_plain_runs.proofs.PlainRuns.{less_begins}
use Rattle.pc_plain_runs.proofs.laws.less_fuel_gives_a_beginning.Goals as goal

pub returns : goal.returns
returns c = less_begins
