use Rattle.pc_parse.proofs.WithinTokens.{refusal_within}
use Rattle.pc_parse.proofs.laws.refusals_within.Goals as goal

pub returns : goal.returns
returns c = refusal_within
