use Rattle.std.proofs.Common.{ap, ◌∙◌, sym}
use Rattle.pc_types.specs.Boxed.{trees_in}
use Rattle.pc_types.specs.Join.{parts_of}
use Rattle.pc_types.proofs.Tuples.{tuple_is}
use Rattle.pc_types.proofs.join.parts_of.Goals as goal

pub returns-in-Tuple : goal.returns-in-Tuple
returns-in-Tuple c = ap trees_in c.deref.ensures.value ∙ sym (ap parts_of (tuple_is _ _ c.in-Tuple.is))
