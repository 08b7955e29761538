use Rattle.pc_walk.proofs.Untouched.{untouched_kept}
use Rattle.pc_walk.proofs.laws.suites_keep_untouched_locals.Goals as goal

pub returns : goal.returns
returns c = untouched_kept
