use Rattle.std.proofs.Common.{arith, sym, ap, ◌∙◌}
use Rattle.pc_rules.specs.Lawful.{tuple_parts}
use Rattle.pc_operations.proofs.Displayed.{tuple_here, tuple_later}
use Rattle.pc_operations.proofs.display.tuple_parts.Goals as goal

pub returns-then-is_tuple-clause-value : goal.returns-then-is_tuple-clause-value
returns-then-is_tuple-clause-value g c =
    let e = tuple_here g.S.TypeStore.tree c.in_ok-members.members.items c.loop-i.i c.index-member.result.now
    c.args.length (omega arith) c.index-member.ensures (sym c.is_tuple.ensures ∙ c.if-is_tuple.true)
    c.loop-i.invariant ∙ ap (tuple_parts c.args.length) c.in_ok-members.ensures.value in
    rw (sym e) c.parts.ensures.value

pub loop-i-preserved : goal.loop-i-preserved
loop-i-preserved g c =
    tuple_later g.S.TypeStore.tree c.in_ok-members.members.items c.loop-i.i c.index-member.result.now c.args.length
    (omega arith) c.index-member.ensures (sym c.is_tuple.ensures ∙ c.if-is_tuple.false) c.loop-i.invariant
