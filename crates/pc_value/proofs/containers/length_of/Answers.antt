use Rattle.pc_value.proofs.Views.{tuple_length}
use Rattle.pc_value.proofs.containers.length_of.Goals as goal

pub returns-in-Tuple : goal.returns-in-Tuple
returns-in-Tuple c = rw (c.in-Tuple.is, tuple_length) c.count-in-Tuple.ensures
