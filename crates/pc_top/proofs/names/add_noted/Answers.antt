use Rattle.std.proofs.Common.{◌++◌, map, ap, arith, ◌∙◌}
use Rattle.std.proofs.lemmas.List.{take_all}
use Rattle.pc_annotations.specs.Named.{named_module}
use Rattle.pc_notes.specs.Notes.{notes_of, names_of_notes}
use Rattle.pc_notes.specs.Texts.{texts_shown, name_texts_at}
use Rattle.pc_report.specs.TypeListing.{fact_of}
use Rattle.pc_top.specs.FactsOfTexts.{name_texts_fact}
use Rattle.pc_top.proofs.ModuleTypes.{mapped_alike}
use Rattle.pc_top.proofs.names.add_noted.Goals as goal

pub returns : goal.returns
returns c =
    let m = named_module c.args.names.now in
    let items = c.deref-name-items.result.now in
    let all = take_all c.loop-name.name-index items (omega (arith, c.loop-name-test.false)) in
    c.loop-name.invariant
    ∙ ap (λ l. map fact_of c.args.entries.now.items ++ map (λ n. name_texts_fact (texts_shown n)) l)
    (all ∙ c.deref-name-items.ensures.value)
    ∙ ap (λ l. map fact_of c.args.entries.now.items ++ l)
    (mapped_alike texts_shown (name_texts_at m) name_texts_fact c.in_ok-noted.noted.items
    (names_of_notes (notes_of c.args.notes.now)) c.in_ok-noted.ensures)
