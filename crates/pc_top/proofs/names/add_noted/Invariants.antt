use Rattle.std.proofs.Common.{◌≡◌, ◌++◌, map, take}
use Rattle.pc_notes.specs.Texts.{texts_shown}
use Rattle.pc_report.specs.TypeListing.{fact_of}
use Rattle.pc_top.specs.FactsOfTexts.{name_texts_fact}
use Rattle.pc_top.proofs.names.add_noted.Given as goal

abbrev pub invariant-loop-name : goal.invariant-loop-name
invariant-loop-name l = map fact_of l.entries.items ≡ map fact_of l.fn.entries.items
    ++ map (λ n. name_texts_fact (texts_shown n)) (take l.name-index l.name-items)
