use Rattle.std.proofs.Common.{◌∙◌}
use Rattle.std.specs.Rc.{rc_value}
use Rattle.pc_flow.proofs.Rows.{row_copied, copied_row}
use Rattle.pc_flow.proofs.env.Env.copied.Goals as goal

pub invariant_of-result : goal.invariant_of-result
invariant_of-result g c = copied_row rc_value c.self.inside.width c.self.inside.locals c.self.inside.chunks.items _
    (rw c.deref.ensures.value at c.in_ok-from_clones.ensures.items) c.self.invariant

pub returns : goal.returns
returns g c = row_copied rc_value c.self.inside.width c.self.inside.locals c.self.inside.chunks.items _
    (rw c.deref.ensures.value at c.in_ok-from_clones.ensures.items) ∙ c.self.view_is
