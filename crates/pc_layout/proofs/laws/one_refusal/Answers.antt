use Rattle.pc_layout.proofs.OneVerdict.{one_refusal}
use Rattle.pc_layout.proofs.laws.one_refusal.Goals as goal

pub returns : goal.returns
returns c = one_refusal
