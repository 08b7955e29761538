use Rattle.std.proofs.Common.{◌∙◌}
use Rattle.pc_annotations.proofs.Tuples.{tuple_none, tuple_some}
use Rattle.pc_annotations.proofs.built.tuple_of.Goals as goal

pub returns-in-None-clause-value : goal.returns-in-None-clause-value
returns-in-None-clause-value g c ts r =
    tuple_none g.S.TypeStore.has g.S.TypeStore.tree c.args.store.now c.args.store.now c.args.arguments.now.heads.items
    c.args.arguments.now.types ts c.len-count.result r c.in-None.is
    (c.len-count.ensures ∙ c.args.arguments.now.heads.ok.0) c.if-count-eq0.false

pub returns-in_ok-ty-in-Some-clause-value : goal.returns-in_ok-ty-in-Some-clause-value
returns-in_ok-ty-in-Some-clause-value g c ts r =
    tuple_some g.S.TypeStore.has g.S.TypeStore.tree c.args.store.now c.tuple.new.self c.args.arguments.now.heads.items
    c.args.arguments.now.types c.in-Some.types c.deref.result.now ts c.in_ok-ty-in-Some.ty c.len-count.result
    r c.in-Some.is c.deref.ensures.value (c.len-count.ensures ∙ c.args.arguments.now.heads.ok.0)
    c.if-count-eq0.false c.in_ok-ty-in-Some.ensures.value
