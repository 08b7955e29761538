use Rattle.std.proofs.Common.{◌∙◌, sym}
use Rattle.pc_calls.proofs.CallLabels.{call_failed, call_given}
use Rattle.pc_calls.proofs.calling.members_label.Goals as goal

pub returns-then-is_in_error-clause-label : goal.returns-then-is_in_error-clause-label
returns-then-is_in_error-clause-label g c = record {
  given = c.in_ok-ty.ensures.value.0;
  is = call_failed g.S.TypeStore.tree c.args.parents.now (record { ty = c.in_ok-ty.ty; codes = c.in_ok-codes.codes })
      c.args.offers.now (sym c.if-is_in_error.true ∙ c.is_in_error.ensures g.S.TypeStore.tree)
      c.in_ok-ty.ensures.value.1 (c.in_ok-codes.ensures g.S.TypeStore.tree);
}

pub returns-clause-label : goal.returns-clause-label
returns-clause-label g c = record {
  given = c.in_ok-ty-2.ensures.value.0;
  is = call_given g.S.TypeStore.tree c.args.parents.now (record { ty = c.in_ok-ty-2.ty; codes = c.in_ok-codes.codes })
      c.args.offers.now (sym c.if-is_in_error.false ∙ c.is_in_error.ensures g.S.TypeStore.tree)
      c.in_ok-ty-2.ensures.value.1 (c.in_ok-codes.ensures g.S.TypeStore.tree);
}
