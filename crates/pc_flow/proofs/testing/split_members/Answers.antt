use Rattle.std.proofs.Common.{arith}
use Rattle.pc_flow.proofs.Members.{item_one}
use Rattle.pc_flow.proofs.Parted.{parted_more, parted_passing, parted_failing}
use Rattle.pc_flow.proofs.testing.split_members.Goals as goal

pub left_of-requires-clause-one : goal.left_of-requires-clause-one
left_of-requires-clause-one g c = item_one g.S.TypeStore.tree (g.S.TypeStore.tree c.args.ty.now)
    c.in_ok-members.members.items c.loop-i.i _ c.requires.well_formed.0 c.in_ok-members.ensures.value (omega arith)
    c.index.ensures

pub loop-i-preserved : goal.loop-i-preserved
loop-i-preserved g c =
    rw (c.in_ok-add_left.ensures, c.in_ok-add_left-2.ensures)
    (parted_more g.S.TypeStore.has g.S.TypeStore.tree c.args.parents.now c.args.test c.in_ok-members.members.items
    c.args.store.now c.loop-i.store c.left_of.new.store c.loop-i.i c.loop-i.passing.items c.loop-i.failing.items
    c.index.result.now c.in_ok-left.left (omega arith) c.index.ensures c.left_of.ensures.kept c.loop-i.invariant
    c.in_ok-left.ensures.value)

pub returns-clause-passing : goal.returns-clause-passing
returns-clause-passing g c = parted_passing g.S.TypeStore.has g.S.TypeStore.tree c.args.parents.now c.args.test
    (g.S.TypeStore.tree c.args.ty.now) _ _ _ _ _ _ (omega arith) c.in_ok-members.ensures.value c.loop-i.invariant

pub returns-clause-failing : goal.returns-clause-failing
returns-clause-failing g c = parted_failing g.S.TypeStore.has g.S.TypeStore.tree c.args.parents.now c.args.test
    (g.S.TypeStore.tree c.args.ty.now) _ _ _ _ _ _ (omega arith) c.in_ok-members.ensures.value c.loop-i.invariant

pub returns-clause-given_passing : goal.returns-clause-given_passing
returns-clause-given_passing g c = c.loop-i.invariant.passing.given

pub returns-clause-given_failing : goal.returns-clause-given_failing
returns-clause-given_failing g c = c.loop-i.invariant.failing.given
