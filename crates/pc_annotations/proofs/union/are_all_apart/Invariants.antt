use Rattle.std.proofs.Common.{◌≡◌, drop}
use Rattle.pc_annotations.specs.Internal.TypesRead.{heads_make_union}
use Rattle.pc_annotations.proofs.union.are_all_apart.Given as goal

abbrev pub invariant-loop-i : goal.invariant-loop-i
invariant-loop-i l = heads_make_union l.parents l.heads ≡ heads_make_union l.parents (drop l.i l.heads)
