use Rattle.std.proofs.Common.{◌≡◌, ◌+◌, List, ap, map, take, sym, ◌∙◌, subst, arith}
use Rattle.std.proofs.lemmas.List.{take_all}
use Rattle.std.specs.declared.rc.RcStr.{RcStr}
use Rattle.std.specs.declared.alloc.Global.{Global}
use Rattle.pc_source.specs.declared.place.Place.{Place}
use Rattle.pc_annotations.specs.Named.{named_module}
use Rattle.pc_notes.specs.Notes.{notes_of, types_of}
use Rattle.pc_notes.specs.Texts.{text_shown, type_text_at}
use Rattle.pc_report.specs.declared.listing.TypeEntry.{TypeEntry}
use Rattle.pc_report.specs.TypeListing.{fact_of}
use Rattle.pc_top.specs.FactsOfTexts.{type_text_fact}
use Rattle.pc_top.proofs.ModuleTypes.{next_mapped, mapped_alike}
use Rattle.pc_top.proofs.types.entries_of.Goals as goal

abbrev Shown : Type 0
Shown = Place × RcStr Global

pub loop-shown-preserved : goal.loop-shown-preserved
loop-shown-preserved c =
    let items : List Shown = c.deref-shown-items.result.now in
    subst (λ (l : List TypeEntry). map fact_of l ≡ map (λ (t : Shown). type_text_fact (text_shown t))
    (take (c.loop-shown.shown-index + 1) items))
    (sym c.in_ok-push.ensures.items)
    (next_mapped (λ (t : Shown). type_text_fact (text_shown t)) fact_of items c.loop-shown.entries.items
    c.loop-shown.shown-index c.shown-item.result c.in_ok-entry_of.field-0 c.loop-shown.invariant
    c.loop-shown-test.true c.shown-item.is c.in_ok-entry_of.ensures)

pub returns : goal.returns
returns c =
    let m = named_module c.args.names.now in
    let items : List Shown = c.deref-shown-items.result.now in
    c.loop-shown.invariant
    ∙ ap (map (λ (t : Shown). type_text_fact (text_shown t))) (take_all c.loop-shown.shown-index items (omega arith)
    ∙ c.deref-shown-items.ensures.value)
    ∙ mapped_alike text_shown (type_text_at m) type_text_fact c.in_ok-types.types.items
    (types_of (notes_of c.args.notes.now)) c.in_ok-types.ensures
