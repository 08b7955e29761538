use Rattle.std.proofs.Common.{All, take}
use Rattle.pc_intern.proofs.SameNumbers.{HasNumber}
use Rattle.pc_intern.proofs.store.InternStore.same_joined.Given as goal

abbrev pub invariant-loop-ty : goal.invariant-loop-ty
invariant-loop-ty l = All (HasNumber l.first.number) (take l.ty-index l.others)
