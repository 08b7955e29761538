use Rattle.std.proofs.Common.{◌∙◌}
use Rattle.pc_types.proofs.Ancestors.{absorbs_other}
use Rattle.pc_types.proofs.compare.does_absorb.Goals as goal

pub returns-then-c-d : goal.returns-then-c-d
returns-then-c-d c =
    rw (c.in-Class.is, c.in-Class-m.is) (c.is_within.ensures.steps ∙ absorbs_other c.in-Class-m.c c.in-Class.d _
    c.if-c-d.true)
