use Rattle.std.proofs.Common.{ap, sym, ◌∙◌, map}
use Rattle.pc_types.specs.Tree.{TupleOf}
use Rattle.pc_types.specs.Shape.{trees}
use Rattle.pc_types.specs.Boxed.{tree_of}
use Rattle.pc_types.proofs.Tuples.{tuple_tree, tuple_is}
use Rattle.pc_types.proofs.shape.+copy.Goals as goal

pub copy-returns-in_ok-copies-in-Tuple : goal.copy-returns-in_ok-copies-in-Tuple
copy-returns-in_ok-copies-in-Tuple t c =
    tuple_tree c.in_ok-copies-in-Tuple.field-0
    ∙ ap (λ l. TupleOf (trees l)) (c.in_ok-copies-in-Tuple.ensures ∙ ap (map tree_of) c.deref-in-Tuple.ensures.value)
    ∙ sym (tuple_is _ _ c.in-Tuple.is)
