use Rattle.std.proofs.Common.{◌≡◌, map, drop}
use Rattle.pc_machine.specs.Names.{local_by_name}
use Rattle.pc_machine.specs.Machine.{local_of as local_seen}
use Rattle.pc_machine.proofs.names.find_local.Given as goal

abbrev pub invariant-loop-local : goal.invariant-loop-local
invariant-loop-local l = local_by_name l.name (map local_seen (drop l.local-index l.frame)) ≡ local_by_name l.name
    (map local_seen l.frame)
