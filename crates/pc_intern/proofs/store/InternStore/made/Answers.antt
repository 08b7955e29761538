use Rattle.std.proofs.Common.{sym, subst}
use Rattle.pc_intern.specs.Store.{IsInterned}
use Rattle.pc_intern.proofs.Held.{all_right_stays, all_joined_stays, held_stays}
use Rattle.pc_intern.proofs.store.InternStore.made.Goals as goal

pub invariant_of-self : goal.invariant_of-self
invariant_of-self c = (
  all_right_stays c.self.inside.parents c.self.inside.table c.intern.new.self c.self.inside.memo.places.items
      c.in_err-number.ensures.grows c.self.invariant.0,
  all_joined_stays c.self.inside.parents c.self.inside.table c.intern.new.self c.self.inside.joins.places.items
      c.in_err-number.ensures.grows c.self.invariant.1,
)

pub returns-in_err-number-clause-kept : goal.returns-in_err-number-clause-kept
returns-in_err-number-clause-kept c =
    λ ty h. held_stays c.self.inside.table c.intern.new.self c.in_err-number.ensures.grows ty
    (subst (λ l. IsInterned l ty) (sym c.self.view_is) h)

pub invariant_of-self-2 : goal.invariant_of-self-2
invariant_of-self-2 c = (
  all_right_stays c.self.inside.parents c.self.inside.table c.intern.new.self c.self.inside.memo.places.items
      c.in_ok-number.ensures.grows c.self.invariant.0,
  all_joined_stays c.self.inside.parents c.self.inside.table c.intern.new.self c.self.inside.joins.places.items
      c.in_ok-number.ensures.grows c.self.invariant.1,
)

pub returns-clause-kept : goal.returns-clause-kept
returns-clause-kept c =
    λ ty h. held_stays c.self.inside.table c.intern.new.self c.in_ok-number.ensures.grows ty
    (subst (λ l. IsInterned l ty) (sym c.self.view_is) h)
