use Rattle.std.proofs.Common.{map, ap, sym, ◌∙◌}
use Rattle.pc_value.specs.Value.{a_tuple, values_of, seen}
use Rattle.pc_value.specs.Meaning.{value_of, heap_of}
use Rattle.pc_value.proofs.Views.{tuple_value}
use Rattle.pc_value.proofs.seen.see.Goals as goal

pub returns-in-Tuple : goal.returns-in-Tuple
returns-in-Tuple c =
    ap (λ vs. a_tuple (values_of (map value_of vs))) c.deref-in-Tuple.ensures.value
    ∙ ap (λ v. seen (heap_of c.args.heap.now) v) (sym (tuple_value c.in-Tuple.items)
    ∙ ap value_of (sym c.in-Tuple.is))
