use Rattle.std.proofs.Common.{[]}
use Rattle.pc_layout.proofs.Verdicts.{later_token}
use Rattle.pc_layout.proofs.laws.faults_at_tokens.Goals as goal

pub returns : goal.returns
returns c = λ len ls code byte n h. later_token len [] ls code byte n h
