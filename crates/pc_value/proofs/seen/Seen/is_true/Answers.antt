use Rattle.std.proofs.Common.{not, ap, sym, ◌∙◌}
use Rattle.pc_value.specs.Seeing.{seen_of}
use Rattle.pc_value.specs.Value.{is_true_seen}
use Rattle.pc_value.proofs.Views.{tuple_truth}
use Rattle.pc_value.proofs.seen.Seen.is_true.Goals as goal

pub returns-in-Tuple : goal.returns-in-Tuple
returns-in-Tuple c =
    ap not c.is_empty-in-Tuple.ensures ∙ tuple_truth c.in-Tuple.items.now
    ∙ ap (λ s. is_true_seen (seen_of s)) (sym c.in-Tuple.is)
