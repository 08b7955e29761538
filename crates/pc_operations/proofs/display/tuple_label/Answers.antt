use Rattle.std.specs.Prelude.{map}
use Rattle.pc_types.specs.Tree.{TupleOf}
use Rattle.pc_types.specs.Shape.{trees}
use Rattle.pc_operations.proofs.Displayed.{made_is}
use Rattle.pc_operations.proofs.display.tuple_label.Goals as goal

pub returns-in-Some-clause-value : goal.returns-in-Some-clause-value
returns-in-Some-clause-value g c =
    made_is g.S.TypeStore.has g.S.TypeStore.tree c.tuple.new.self c.clean.result c.in-Some.ty
    (TupleOf (trees (map g.S.TypeStore.tree c.args.types.now))) (c.clean.ensures.label g.S.TypeStore.tree)
    c.clean.ensures.ty (rw c.in-Some.is at c.in_ok-made.ensures.value)
