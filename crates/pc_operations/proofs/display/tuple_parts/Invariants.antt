use Rattle.std.proofs.Common.{◌≡◌, drop, map}
use Rattle.pc_rules.specs.Lawful.{tuple_parts}
use Rattle.pc_operations.proofs.display.tuple_parts.Given as goal

abbrev pub invariant-loop-i : goal.invariant-loop-i
invariant-loop-i g l = tuple_parts l.length (drop l.i (map g.S.TypeStore.tree l.members.items)) ≡ tuple_parts l.length
    (map g.S.TypeStore.tree l.members.items)
