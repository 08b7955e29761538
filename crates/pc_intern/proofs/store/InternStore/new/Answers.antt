use Rattle.pc_intern.proofs.Held.{nothing_kept, no_joins_kept}
use Rattle.pc_intern.proofs.store.InternStore.new.Goals as goal

pub invariant_of-result : goal.invariant_of-result
invariant_of-result c = (
  nothing_kept c.args.parents c.new.result c.in_ok-new.field-0.places.items c.in_ok-new.ensures,
  no_joins_kept c.args.parents c.new.result c.in_ok-new-2.field-0.places.items c.in_ok-new-2.ensures,
)
