-- Rows as items with their details.
use Rattle.std.proofs.Common.{◌≡◌, ℕ, List, Option, None, Some, ap}
use Rattle.std.specs.Prelude.{option_map}
use Rattle.pc_tree.specs.declared.code.Code.{Code}
use Rattle.pc_detail_texts.specs.Details.{Detail}
use Rattle.pc_detail_texts.specs.Sentences.{Words}
use Rattle.pc_top.specs.declared.detailed.PlacedDetail.{PlacedDetail}
use Rattle.pc_top.specs.PrintedDetails.{IsDetailHeld}
use Rattle.pc_checked_session.specs.Found.{detail_said, held_said}

-- the detail that is held says what the detail that is told says
pub held_told : (source : List ℕ) (code : Code) (told : Option (Detail Words)) (held : Option PlacedDetail)
    → IsDetailHeld source told held → option_map (held_said code) held ≡ option_map (detail_said code) told
held_told source code told None h = ap (option_map (detail_said code)) h.0
held_told source code told (Some p) h = ap (option_map (detail_said code)) h.0
