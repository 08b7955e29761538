use Rattle.std.proofs.Common.{◌≡◌, map, drop}
use Rattle.std.specs.List.{list_any}
use Rattle.pc_rules.specs.Calls.{is_object_or_any}
use Rattle.pc_calls.proofs.calling.has_object_or_any.Given as goal

abbrev pub invariant-loop-i : goal.invariant-loop-i
invariant-loop-i g l = list_any is_object_or_any (map g.S.TypeStore.tree (drop l.i l.members.items))
    ≡ list_any is_object_or_any (map g.S.TypeStore.tree l.members.items)
