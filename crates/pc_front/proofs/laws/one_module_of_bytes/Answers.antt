use Rattle.pc_front.proofs.BytesLaws.{one_module}
use Rattle.pc_front.proofs.laws.one_module_of_bytes.Goals as goal

pub returns : goal.returns
returns c = one_module
