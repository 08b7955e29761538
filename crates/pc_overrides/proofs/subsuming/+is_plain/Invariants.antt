use Rattle.std.proofs.Common.{take}
use Rattle.std.specs.Prelude.{All}
use Rattle.pc_types.specs.Assignable.{IsPlain}
use Rattle.pc_types.specs.Shape.{nodes}
use Rattle.pc_overrides.proofs.subsuming.+is_plain.Given as goal

abbrev pub decreases-is_plain : goal.decreases-is_plain
decreases-is_plain g l = nodes (g.S.TypeStore.tree l.ty.now)

abbrev pub invariant-loop-part : goal.invariant-loop-part
invariant-loop-part g l = All (λ ty. IsPlain (g.S.TypeStore.tree ty)) (take l.part l.parts.items)
