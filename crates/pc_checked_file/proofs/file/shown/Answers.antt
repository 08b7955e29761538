use Rattle.pc_checked_file.proofs.Outputs.{report_output, printed_output, listing_output}
use Rattle.pc_checked_file.proofs.file.shown.Goals as goal

pub returns-in-Report-clause-output : goal.returns-in-Report-clause-output
returns-in-Report-clause-output g c =
    report_output g.W.Write.contents (g.R.Read.remaining c.args.input.now.device) c.args.asked c.in-Report.format
    c.in-Report.is c.check_stream.result c.args.output.now c.check_stream.new.writer c.check_stream.ensures.reported
    c.check_stream.ensures.begun c.check_stream.ensures.untouched

pub returns-in-Details-clause-output : goal.returns-in-Details-clause-output
returns-in-Details-clause-output g c =
    printed_output g.W.Write.contents (g.R.Read.remaining c.args.input.now.device) c.args.asked c.in-Details.is
    c.explain_stream.result c.args.output.now c.explain_stream.new.writer c.explain_stream.ensures.printed
    c.explain_stream.ensures.begun c.explain_stream.ensures.untouched

pub returns-in-Types-clause-output : goal.returns-in-Types-clause-output
returns-in-Types-clause-output g c =
    listing_output g.W.Write.contents (g.R.Read.remaining c.args.input.now.device) c.args.asked c.in-Types.is
    c.types_stream.result c.args.output.now c.types_stream.new.writer c.types_stream.ensures.listed
    c.types_stream.ensures.begun c.types_stream.ensures.untouched
