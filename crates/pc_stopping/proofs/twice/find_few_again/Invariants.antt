use Rattle.pc_tree.specs.Stopping.{self_before}
use Rattle.pc_stopping.proofs.Earlier.{IsFound}
use Rattle.pc_stopping.proofs.twice.find_few_again.Given as goal

abbrev pub invariant-loop-at : goal.invariant-loop-at
invariant-loop-at l = IsFound (self_before l.is_method) l.params l.fn.found.items l.at l.found.items
