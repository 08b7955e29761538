use Rattle.pc_flow.proofs.Heads.{bound_at_head, others_at_head}
use Rattle.pc_flow.proofs.laws.loops_begin_with_declared_types.Goals as goal

pub returns : goal.returns
returns c = record { bound = bound_at_head; others = others_at_head }
