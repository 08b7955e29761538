use Rattle.pc_detail_facts.proofs.CalledParameters.{repeated_count}
use Rattle.pc_detail_facts.proofs.called.CallTarget.count.Goals as goal

pub returns-in-Builtin : goal.returns-in-Builtin
returns-in-Builtin c = rw c.in-Builtin.is (repeated_count c.in-Builtin.count _)
