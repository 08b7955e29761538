use Rattle.pc_front.proofs.BytesLaws.{no_refusal}
use Rattle.pc_front.proofs.laws.module_or_refusal.Goals as goal

pub returns : goal.returns
returns c = no_refusal
