use Rattle.std.proofs.Common.{rules}
use Rattle.pc_value.proofs.Views.{list_of_values}
use Rattle.pc_value.proofs.containers.item.Goals as goal

pub returns-in-Tuple-Number : goal.returns-in-Tuple-Number
returns-in-Tuple-Number c = rw (c.in-Tuple-Number.is-0, c.in-Tuple-Number.is-1, list_of_values) (search rules)
