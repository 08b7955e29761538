use Rattle.std.proofs.Common.{ap, ◌∙◌}
use Rattle.pc_types.proofs.Tuples.{tuple_is, count_in}
use Rattle.pc_types.proofs.compare.rank.Goals as goal

pub returns-in-Tuple : goal.returns-in-Tuple
returns-in-Tuple c =
    rw (tuple_is _ _ c.in-Tuple.is, count_in c.in-Tuple.parts.items)
    (ap (λ n. (7, n)) (c.len.ensures ∙ c.in-Tuple.parts.ok.0))
