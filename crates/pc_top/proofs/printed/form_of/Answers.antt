use Rattle.std.proofs.Common.{Bool, refl, subst, sym}
use Rattle.pc_top.specs.DetailedTexts.{IsDetailedReport, detail_in}
use Rattle.pc_top.specs.PrintedDetails.{form_bytes}
use Rattle.pc_top.specs.declared.printed.Form.TheVariants as form
use Rattle.pc_top.proofs.printed.form_of.Goals as goal

pub returns-in_ok-shown : goal.returns-in_ok-shown
returns-in_ok-shown c = λ bytes h.
    let rows = c.args.detailed.now.report in
    let details = c.in_ok-shown.field-0 in
    subst (λ (json : Bool). IsDetailedReport bytes (detail_in h.headline.whole) json rows
    (form_bytes rows (form.Json details))) (sym c.if-json.true)
    (details.items, c.in_ok-shown.ensures bytes h, refl)
