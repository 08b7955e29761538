use Rattle.std.proofs.Common.{◌≡◌, drop, map}
use Rattle.pc_rules.specs.Lawful.{list_item}
use Rattle.pc_operations.proofs.display.list_item.Given as goal

abbrev pub invariant-loop-i : goal.invariant-loop-i
invariant-loop-i g l = list_item (drop l.i (map g.S.TypeStore.tree l.members.items))
    ≡ list_item (map g.S.TypeStore.tree l.members.items)
