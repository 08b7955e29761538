use Rattle.pc_flow.proofs.Untested.{conditions_keep_untested, conditions_keep_locals}
use Rattle.pc_flow.proofs.laws.conditions_keep_untested_locals.Goals as goal

pub returns : goal.returns
returns c = record { untested = conditions_keep_untested; locals = conditions_keep_locals }
