use Rattle.std.proofs.Common.{ap, ◌∙◌}
use Rattle.std.specs.Option.{option_map}
use Rattle.pc_operations.specs.Internal.OperandPairs.{kind_with, meet}
use Rattle.pc_operations.proofs.Operators.{common_more}
use Rattle.pc_operations.proofs.kinds.common_kind.Goals as goal

pub loop-ty-preserved : goal.loop-ty-preserved
loop-ty-preserved g c =
    common_more g.S.TypeStore.tree c.args.types.now c.loop-ty.ty-index c.loop-ty.common c.meet-common.result
    c.ty-item.result c.loop-ty-test.true c.ty-item.is (c.meet-common.ensures
    ∙ ap (meet (option_map kind_with c.loop-ty.common)) c.kind_of.ensures) c.loop-ty.invariant
