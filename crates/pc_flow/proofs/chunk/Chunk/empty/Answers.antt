use Rattle.std.proofs.Common.{None, ap, ◌∙◌}
use Rattle.std.specs.Option.{option_map}
use Rattle.std.specs.Prelude.{map}
use Rattle.std.specs.Rc.{rc_value}
use Rattle.pc_flow.proofs.Rows.{map_nothing}
use Rattle.pc_flow.proofs.chunk.Chunk.empty.Goals as goal

pub returns : goal.returns
returns g c = ap (map (option_map rc_value)) c.in_ok-no_types.ensures
    ∙ map_nothing (option_map rc_value) None c.args.width
