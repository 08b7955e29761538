use Rattle.std.proofs.Common.{sym}
use Rattle.pc_expr.proofs.CallForms.{second_none}
use Rattle.pc_expr.proofs.call_labels.second_place.Goals as goal

pub returns-in_default : goal.returns-in_default
returns-in_default c = sym (second_none c.args.arguments.now c.args.place c.in_default.len_below)
