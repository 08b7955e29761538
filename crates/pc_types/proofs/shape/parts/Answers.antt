use Rattle.std.proofs.Common.{◌≡◌, map, IfOk, ap, sym, ◌∙◌, subst}
use Rattle.pc_types.specs.Boxed.{tree_of}
use Rattle.pc_types.proofs.Nodes.{tuple_parts}
use Rattle.pc_types.proofs.shape.parts.Goals as goal

pub returns-in-Tuple : goal.returns-in-Tuple
returns-in-Tuple c =
    subst (λ ps. IfOk c.copies.result (λ v. map tree_of v.items ≡ ps)) (ap (map tree_of) c.deref-in-Tuple.ensures.value
    ∙ sym (tuple_parts _ _ c.in-Tuple.is)) c.copies.ensures
