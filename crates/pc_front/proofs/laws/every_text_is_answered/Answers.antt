use Rattle.pc_front.proofs.EveryText.{every_text_is_answered}
use Rattle.pc_front.proofs.laws.every_text_is_answered.Goals as goal

pub returns : goal.returns
returns c = every_text_is_answered
