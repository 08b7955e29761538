use Rattle.pc_detail_facts.proofs.CalledParameters.{unnamed_default}
use Rattle.pc_detail_facts.proofs.called.CallTarget.has_default.Goals as goal

pub returns-in-Builtin : goal.returns-in-Builtin
returns-in-Builtin c = rw c.in-Builtin.is (unnamed_default _ c.args.position)

pub returns-in-Member : goal.returns-in-Member
returns-in-Member c = rw c.in-Member.is (unnamed_default _ c.args.position)
