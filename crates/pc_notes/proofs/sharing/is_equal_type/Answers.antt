use Rattle.std.proofs.Common.{sym, ◌∙◌}
use Rattle.pc_types.proofs.EqualTypes.{same_types}
use Rattle.pc_notes.proofs.sharing.is_equal_type.Goals as goal

pub returns : goal.returns
returns c = λ h. same_types _ _ (sym c.is_same.ensures ∙ h)
