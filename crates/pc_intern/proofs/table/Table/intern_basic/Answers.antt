use Rattle.std.proofs.Common.{◌≡◌, Some, subst, sym}
use Rattle.std.specs.Map.{values_of}
use Rattle.pc_types.specs.Boxed.{tree_of}
use Rattle.pc_intern.specs.Table.{tree_at}
use Rattle.pc_intern.proofs.Basic.{basic_kept}
use Rattle.pc_intern.proofs.table.Table.intern_basic.Goals as goal

pub invariant_of-self : goal.invariant_of-self
invariant_of-self c = (
  c.self-2.invariant.0,
  basic_kept (values_of c.self-2.inside.entries.entries) c.self-2.inside.basic c.args.place c.in_ok-number.number
      (tree_of c.args.ty.now) c.self-2.invariant.1 c.requires.place
      (subst (λ l. tree_at l c.in_ok-number.number ≡ Some (tree_of c.args.ty.now)) (sym c.self-2.view_is)
      c.in_ok-number.ensures.value),
)
