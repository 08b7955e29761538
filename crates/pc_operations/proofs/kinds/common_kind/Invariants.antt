use Rattle.pc_operations.proofs.Operators.{IsCommon}
use Rattle.pc_operations.proofs.kinds.common_kind.Given as goal

abbrev pub invariant-loop-ty : goal.invariant-loop-ty
invariant-loop-ty g l = IsCommon g.S.TypeStore.tree l.types l.ty-index l.common
