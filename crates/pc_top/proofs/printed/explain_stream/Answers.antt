use Rattle.std.proofs.Common.{ℕ, List, length, subst}
use Rattle.std.proofs.lemmas.Result.{err_from_is_err_and}
use Rattle.pc_source.specs.Answers.{OnRefusal}
use Rattle.pc_source.specs.Within.{IsWithin}
use Rattle.pc_front.specs.Bytes.{IsRefusalOf}
use Rattle.pc_top.specs.DetailedTexts.{PrintsDetails}
use Rattle.pc_top.specs.PrintedDetails.{form_bytes}
use Rattle.pc_top.proofs.PrintedStream.{printed_stream, printing_begun_stream}
use Rattle.pc_top.proofs.StreamBytes.{refused_stream, within_stream}
use Rattle.pc_top.proofs.printed.explain_stream.Goals as goal

pub returns-in_err-printed-clause-refused : goal.returns-in_err-printed-clause-refused
returns-in_err-printed-clause-refused g c =
    let p = err_from_is_err_and c.from_residual-in_err-printed.result c.from_residual-in_err-printed.ensures.1 in
    let read = c.in_ok-given.ensures.read in
    let told = g.R.Read.remaining c.args.reader.now.device in
    rw (p.1, p.2) (refused_stream told _ c.in_ok-given.given.items read.given read.whole c.in_err-printed.field-0.0
    (subst (λ (l : List ℕ). OnRefusal (IsRefusalOf l) c.in_err-printed.field-0.0) c.as_slice.ensures.value
    c.in_err-printed.ensures.refused))

pub returns-in_err-printed-clause-within : goal.returns-in_err-printed-clause-within
returns-in_err-printed-clause-within g c =
    let p = err_from_is_err_and c.from_residual-in_err-printed.result c.from_residual-in_err-printed.ensures.1 in
    let read = c.in_ok-given.ensures.read in
    let told = g.R.Read.remaining c.args.reader.now.device in
    rw (p.1, p.2) (within_stream told _ c.in_ok-given.given.items read.given read.whole read.short
    c.in_err-printed.field-0.0
    (subst (λ (l : List ℕ). IsWithin (length l) c.in_err-printed.field-0.0) c.as_slice.ensures.value
    c.in_err-printed.ensures.within))

pub returns-in_err-write_printout-clause-begun : goal.returns-in_err-write_printout-clause-begun
returns-in_err-write_printout-clause-begun g c =
    let p = err_from_is_err_and c.from_residual-in_err-write_printout.result
    c.from_residual-in_err-write_printout.ensures.1 in
    let read = c.in_ok-given.ensures.read in
    let told = g.R.Read.remaining c.args.reader.now.device in
    let rows = c.in_ok-printed.printed.report in
    let printed = form_bytes rows c.in_ok-printed.printed.form in
    let prints : PrintsDetails c.args.json c.in_ok-given.given.items rows printed =
    subst (λ (l : List ℕ). PrintsDetails c.args.json l rows printed) c.as_slice.ensures.value
    c.in_ok-printed.ensures.prints in
    rw (p.1, p.2) (printing_begun_stream told _ c.in_ok-given.given.items read.given read.whole g.W.Write.contents
    c.args.json c.args.writer.now c.write_printout.new.writer rows printed prints
    c.in_err-write_printout.field-0.0 c.in_err-write_printout.ensures)

pub returns-clause-printed : goal.returns-clause-printed
returns-clause-printed g c =
    let read = c.in_ok-given.ensures.read in
    let told = g.R.Read.remaining c.args.reader.now.device in
    let rows = c.in_ok-printed.printed.report in
    let printed = form_bytes rows c.in_ok-printed.printed.form in
    let prints : PrintsDetails c.args.json c.in_ok-given.given.items rows printed =
    subst (λ (l : List ℕ). PrintsDetails c.args.json l rows printed) c.as_slice.ensures.value
    c.in_ok-printed.ensures.prints in
    printed_stream told _ c.in_ok-given.given.items read.given read.whole g.W.Write.contents c.args.json
    c.args.writer.now c.write_printout.new.writer rows printed prints _ _ c.errors.ensures c.dynamic.ensures
    c.in_ok-write_printout.ensures
