use Rattle.std.proofs.Common.{◌∙◌, add-one, sym}
use Rattle.pc_value.proofs.Walks.{occurs_in_rest}
use Rattle.pc_value.proofs.text.occurs_in.Goals as goal

pub loop-start-preserved : goal.loop-start-preserved
loop-start-preserved c =
    rw add-one (c.loop-start.invariant ∙ occurs_in_rest c.args.part.now c.args.whole.now c.loop-start.start
    c.loop-start-test.true (sym c.starts_with.ensures.value ∙ c.if-starts_with.false))
