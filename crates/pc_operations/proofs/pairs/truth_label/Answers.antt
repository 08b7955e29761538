use Rattle.pc_types.specs.Tree.{Bool}
use Rattle.pc_rules.proofs.Once.{clean_is}
use Rattle.pc_operations.proofs.pairs.truth_label.Goals as goal

pub returns-clause-value : goal.returns-clause-value
returns-clause-value g c =
    let has = g.S.TypeStore.has in
    let tree = g.S.TypeStore.tree in
    let ty = c.in_ok-ty.ensures.value in
    clean_is has tree c.bool.new.self c.clean.result c.in_ok-ty.ty Bool (c.clean.ensures.label tree) c.clean.ensures.ty
    ty.0 ty.1
