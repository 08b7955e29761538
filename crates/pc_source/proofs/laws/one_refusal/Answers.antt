use Rattle.pc_source.proofs.SourceRefusals.{one_refusal}
use Rattle.pc_source.proofs.laws.one_refusal.Goals as goal

pub returns : goal.returns
returns c = one_refusal
