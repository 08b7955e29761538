use Rattle.std.proofs.Common.{◌≡◌, drop, map}
use Rattle.pc_rules.specs.Lawful.{dict_parts}
use Rattle.pc_operations.proofs.display.dict_parts.Given as goal

abbrev pub invariant-loop-i : goal.invariant-loop-i
invariant-loop-i g l = dict_parts (drop l.i (map g.S.TypeStore.tree l.members.items))
    ≡ dict_parts (map g.S.TypeStore.tree l.members.items)
