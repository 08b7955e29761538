use Rattle.std.proofs.Common.{◌∙◌, sym, ap, arith}
use Rattle.pc_calls.specs.JudgedCalls.{is_head_of_any}
use Rattle.pc_calls.proofs.CallLabels.{any_found, any_not, any_none}
use Rattle.pc_calls.proofs.calling.has_object_or_any.Goals as goal

pub returns-then-is_object_or_any : goal.returns-then-is_object_or_any
returns-then-is_object_or_any g c = any_found g.S.TypeStore.tree c.in_ok-members.members.items c.loop-i.i
    c.index.result.now (omega arith) c.index.ensures c.loop-i.invariant _ c.in_ok-members.ensures.value
    (ap is_head_of_any (sym c.head.ensures.head) ∙ sym c.is_object_or_any.ensures ∙ c.if-is_object_or_any.true)

pub loop-i-preserved : goal.loop-i-preserved
loop-i-preserved g c = any_not g.S.TypeStore.tree c.in_ok-members.members.items c.loop-i.i c.index.result.now
    (omega arith) c.index.ensures c.loop-i.invariant (ap is_head_of_any (sym c.head.ensures.head)
    ∙ sym c.is_object_or_any.ensures ∙ c.if-is_object_or_any.false)

pub returns : goal.returns
returns g c = any_none g.S.TypeStore.tree c.in_ok-members.members.items c.loop-i.i _ (omega arith) c.loop-i.invariant
    c.in_ok-members.ensures.value
