use Rattle.pc_value.proofs.Views.{list_of_values}
use Rattle.pc_value.proofs.iteration.turn.Goals as goal

pub returns-in-Tuple : goal.returns-in-Tuple
returns-in-Tuple c = rw (c.in-Tuple.is, list_of_values, ← c.deref-in-Tuple.ensures.value) c.items_turn.ensures
