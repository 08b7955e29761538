use Rattle.std.proofs.Common.{ap, sym, ◌∙◌}
use Rattle.pc_value.specs.Value.{tuple_of, values_of}
use Rattle.pc_value.specs.Meaning.{value_of}
use Rattle.pc_value.proofs.Views.{tuple_value}
use Rattle.pc_value.proofs.value.+copy.Goals as goal

pub Value::copy-returns-in_ok-copy_values-in-Tuple : goal.Value::copy-returns-in_ok-copy_values-in-Tuple
Value::copy-returns-in_ok-copy_values-in-Tuple t c =
    let items = rw c.deref-in-Tuple.ensures.value at c.in_ok-copy_values-in-Tuple.ensures in
    tuple_value c.in_ok-copy_values-in-Tuple.field-0 ∙ ap (λ vs. tuple_of (values_of vs)) items
    ∙ sym (tuple_value c.in-Tuple.items) ∙ ap value_of (sym c.in-Tuple.is)
