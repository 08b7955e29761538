use Rattle.std.proofs.Common.{◌∙◌}
use Rattle.pc_intern.proofs.Held.{means_now}
use Rattle.pc_intern.proofs.AtOnce.{never_box}
use Rattle.pc_intern.proofs.store.InternStore.is_never.Goals as goal

pub returns-in_default : goal.returns-in_default
returns-in_default c = (
  (λ no. cc),
  (λ e. absurd (c.in_default.not-Never (never_box c.ty.result.now (means_now c.self.inside.table c.args.self.now
      c.args.ty.now c.ty.result.now c.self.view_is c.requires c.ty.ensures.value ∙ e)))),
)
