use Rattle.pc_value.proofs.Lists.{pop_after}
use Rattle.pc_value.proofs.cell.pop_item.Goals as goal

pub returns-in-Some-clause-after : goal.returns-in-Some-clause-after
returns-in-Some-clause-after c = pop_after c.args.items.now.items c.pop.new.self.items c.in-Some.value
    c.in-Some.ensures.items
