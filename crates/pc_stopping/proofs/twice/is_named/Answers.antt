use Rattle.std.proofs.Common.{◌∙◌, sym}
use Rattle.pc_stopping.proofs.Earlier.{named_here, named_later, named_never}
use Rattle.pc_stopping.proofs.twice.is_named.Goals as goal

pub returns-then-eq : goal.returns-then-eq
returns-then-eq c = named_here c.args.params.now c.args.name.now c.loop-param.param-index c.param-item.result
    c.loop-param-test.true c.param-item.is (sym (rw c.as_str.ensures.value at c.eq.ensures) ∙ c.if-eq.true)
    c.loop-param.invariant

pub loop-param-preserved : goal.loop-param-preserved
loop-param-preserved c = named_later c.args.params.now c.args.name.now c.loop-param.param-index c.param-item.result
    c.loop-param-test.true c.param-item.is (sym (rw c.as_str.ensures.value at c.eq.ensures) ∙ c.if-eq.false)
    c.loop-param.invariant

pub returns : goal.returns
returns c = named_never c.args.params.now c.args.name.now c.loop-param.param-index c.loop-param-test.false
    c.loop-param.invariant
