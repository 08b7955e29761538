use Rattle.std.proofs.Common.{None}
use Rattle.std.specs.Rc.{rc_value}
use Rattle.pc_flow.proofs.Rows.{row_new}
use Rattle.pc_flow.proofs.env.Env.new.Goals as goal

pub returns : goal.returns
returns g c = row_new rc_value _ c.args.locals c.in_ok-chunks.chunks.items None c.chunk_width-width.ensures
    c.in_ok-chunks.ensures.empty c.in_ok-chunks.ensures.enough
