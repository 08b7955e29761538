use Rattle.pc_front.proofs.WithinBytes.{refusal_of_bytes_within}
use Rattle.pc_front.proofs.laws.refusals_of_bytes_within.Goals as goal

pub returns : goal.returns
returns c = refusal_of_bytes_within
