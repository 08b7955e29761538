use Rattle.std.proofs.Common.{arith}
use Rattle.pc_machine.specs.Machine.{progress_of}
use Rattle.pc_machine.proofs.Lists.{not_empty}
use Rattle.pc_machine.proofs.machine.Machine.charge_empty.Goals as goal

pub returns-in-len1-up-clause-plain : goal.returns-in-len1-up-clause-plain
returns-in-len1-up-clause-plain c = not_empty c.args.body.now (progress_of c.args.self.now) (omega arith)
