use Rattle.std.proofs.Common.{false, refl}
use Rattle.pc_detail_texts.proofs.Cutting.{none_yet}
use Rattle.pc_detail_texts.proofs.short_text.ShortText.new.Goals as goal

pub returns : goal.returns
returns c = none_yet (record { kept = c.new.result; is_cut = false }) c.new.ensures.text refl
