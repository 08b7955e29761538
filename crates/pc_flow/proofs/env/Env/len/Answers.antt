use Rattle.std.proofs.Common.{sym, ap, length, ◌∙◌}
use Rattle.std.specs.Rc.{rc_value}
use Rattle.pc_flow.proofs.Rows.{row_first}
use Rattle.pc_flow.proofs.env.Env.len.Goals as goal

pub returns : goal.returns
returns g c = sym (row_first rc_value c.self.inside.width c.self.inside.locals c.self.inside.chunks.items
    c.self.invariant) ∙ ap length c.self.view_is
