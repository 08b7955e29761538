use Rattle.pc_detail_facts.specs.Callees.{argument_type}
use Rattle.pc_detail_facts.proofs.CalledParameters.{repeated_past}
use Rattle.pc_detail_facts.proofs.called.CallTarget.type_at.Goals as goal

pub returns-then-position-count : goal.returns-then-position-count
returns-then-position-count c = rw c.in-Builtin.is
    (repeated_past c.in-Builtin.count (argument_type c.in-Builtin.is_int) c.args.position c.if-position-count.true)
