use Rattle.std.proofs.Common.{map, ap, ◌∙◌, arith}
use Rattle.std.proofs.lemmas.List.{take_all}
use Rattle.pc_intern.specs.Table.{tree_at}
use Rattle.pc_intern.specs.Store.{number_of}
use Rattle.pc_intern.proofs.Held.{numbered, numbered_more}
use Rattle.pc_intern.proofs.store.InternStore.numbers.Goals as goal

pub loop-ty-preserved : goal.loop-ty-preserved
loop-ty-preserved c =
    rw c.in_ok-push.ensures.ok (numbered_more c.args.types.now c.loop-ty.numbers.items c.loop-ty.ty-index
    c.ty-item.result c.loop-ty.invariant c.loop-ty-test.true c.ty-item.is)

pub returns-clause-numbers : goal.returns-clause-numbers
returns-clause-numbers c = c.loop-ty.invariant ∙ ap (map number_of) (take_all c.loop-ty.ty-index c.args.types.now
    (omega arith))

pub returns-clause-trees : goal.returns-clause-trees
returns-clause-trees c =
    let e = c.loop-ty.invariant ∙ ap (map number_of) (take_all c.loop-ty.ty-index c.args.types.now (omega arith)) in
    ap (map (tree_at c.args.self.now)) e ∙ numbered c.args.self.now c.args.types.now c.requires
