use Rattle.pc_types.proofs.DecidedSubtyping.{static_decided, assignable_decided}
use Rattle.pc_types.proofs.laws.subtyping_is_decided.Goals as goal

pub returns : goal.returns
returns c = record { static_test = static_decided; assignable_test = assignable_decided }
