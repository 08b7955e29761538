use Rattle.std.proofs.Common.{ap, ◌∙◌}
use Rattle.pc_types.specs.Join.{within_limit}
use Rattle.pc_types.proofs.JoinNormal.{join_given}
use Rattle.pc_types.proofs.join.join.Goals as goal

pub returns : goal.returns
returns c =
    join_given c.args.parents.now c.args.s.now c.args.t.now c.within_limit.result c.requires.left c.requires.right
    (c.within_limit.ensures ∙ ap within_limit c.in_ok-u.ensures)
