use Rattle.pc_value.specs.Meaning.{value_of}
use Rattle.pc_value.proofs.Lists.{map_set}
use Rattle.pc_value.proofs.cell.set_item.Goals as goal

pub returns-then-index-len : goal.returns-then-index-len
returns-then-index-len c = map_set value_of c.args.items.now.items c.args.index c.args.value
