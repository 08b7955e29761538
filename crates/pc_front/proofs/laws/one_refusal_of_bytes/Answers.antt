use Rattle.pc_front.proofs.OneRefusal.{one_refusal}
use Rattle.pc_front.proofs.laws.one_refusal_of_bytes.Goals as goal

pub returns : goal.returns
returns c = one_refusal
