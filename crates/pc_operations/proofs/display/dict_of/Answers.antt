use Rattle.pc_types.specs.Tree.{DictOf}
use Rattle.pc_operations.proofs.Displayed.{made_is}
use Rattle.pc_operations.proofs.display.dict_of.Goals as goal

pub returns-in-Some-clause-value : goal.returns-in-Some-clause-value
returns-in-Some-clause-value g c =
    made_is g.S.TypeStore.has g.S.TypeStore.tree c.dict.new.self c.clean.result c.in-Some.ty
    (DictOf (g.S.TypeStore.tree c.args.key.now) (g.S.TypeStore.tree c.args.value.now))
    (c.clean.ensures.label g.S.TypeStore.tree) c.clean.ensures.ty (rw c.in-Some.is at c.in_ok-made.ensures.value)
