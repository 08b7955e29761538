use Rattle.std.proofs.Common.{◌∙◌}
use Rattle.pc_intern.proofs.Held.{means_now}
use Rattle.pc_intern.proofs.AtOnce.{object_box}
use Rattle.pc_intern.proofs.store.InternStore.is_object.Goals as goal

pub returns-in_default : goal.returns-in_default
returns-in_default c = λ e. absurd (c.in_default.not-Object (object_box c.ty.result.now
    (means_now c.self.inside.table c.args.self.now c.args.ty.now c.ty.result.now c.self.view_is c.requires
    c.ty.ensures.value ∙ e)))
