use Rattle.std.proofs.Common.{◌≡◌, map, take}
use Rattle.pc_notes.specs.Texts.{text_shown}
use Rattle.pc_report.specs.TypeListing.{fact_of}
use Rattle.pc_top.specs.FactsOfTexts.{type_text_fact}
use Rattle.pc_top.proofs.types.entries_of.Given as goal

abbrev pub invariant-loop-shown : goal.invariant-loop-shown
invariant-loop-shown l = map fact_of l.entries.items
    ≡ map (λ t. type_text_fact (text_shown t)) (take l.shown-index l.shown-items)
