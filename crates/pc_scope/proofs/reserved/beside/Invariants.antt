use Rattle.std.proofs.Common.{◌≡◌, map, drop}
use Rattle.pc_scope.specs.Reserved.{beside}
use Rattle.pc_scope.specs.Internal.WalkViews.{reserved_entry_seen}
use Rattle.pc_scope.proofs.reserved.beside.Given as goal

abbrev pub invariant-loop-other : goal.invariant-loop-other
invariant-loop-other l = beside (map reserved_entry_seen (drop l.other-index l.table)) l.name
    ≡ beside (map reserved_entry_seen l.table) l.name
