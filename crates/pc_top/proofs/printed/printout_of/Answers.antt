use Rattle.std.proofs.Common.{List, subst, sym}
use Rattle.pc_report.specs.declared.report.Row.{Row}
use Rattle.pc_top.specs.DetailedTexts.{PrintsDetails}
use Rattle.pc_top.specs.PrintedDetails.{form_bytes}
use Rattle.pc_top.proofs.ExplainedFindings.{details_told_of}
use Rattle.pc_top.proofs.printed.printout_of.Goals as goal

pub returns-in-Ok-clause-prints : goal.returns-in-Ok-clause-prints
returns-in-Ok-clause-prints c =
    let h = c.in_ok-detailed.ensures.headline in
    subst (λ (rows : List Row). PrintsDetails c.args.json c.args.bytes.now rows (form_bytes rows c.in-Ok.form))
    (sym c.into_report.ensures) (record {
      headline = h.headline;
      told = details_told_of h.headline.whole;
      detailed = c.in-Ok.ensures c.args.bytes.now h;
    })
