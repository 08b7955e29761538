use Rattle.std.proofs.Common.{◌≡◌, map, take}
use Rattle.pc_intern.specs.Store.{number_of}
use Rattle.pc_intern.proofs.store.InternStore.numbers.Given as goal

abbrev pub invariant-loop-ty : goal.invariant-loop-ty
invariant-loop-ty l = l.numbers.items ≡ map number_of (take l.ty-index l.types)
