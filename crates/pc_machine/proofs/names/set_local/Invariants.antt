use Rattle.std.proofs.Common.{◌≡◌, map, drop, take, ◌++◌}
use Rattle.pc_value.specs.Meaning.{value_of}
use Rattle.pc_machine.specs.Names.{with_local}
use Rattle.pc_machine.specs.Machine.{local_of as local_seen}
use Rattle.pc_machine.proofs.names.set_local.Given as goal

abbrev pub invariant-loop-i : goal.invariant-loop-i
invariant-loop-i l = record {
  same : l.frame ≡ l.fn.frame;
  run : map local_seen (take l.i l.frame) ++ with_local l.name (value_of l.value) (map local_seen (drop l.i l.frame))
      ≡ with_local l.name (value_of l.value) (map local_seen l.frame);
}
