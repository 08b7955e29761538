use Rattle.std.proofs.Common.{◌≤◌, length, arith}
use Rattle.pc_wire.proofs.Lines.{next_lines}
use Rattle.pc_wire.specs.Fields.{length_in}
use Rattle.pc_wire.proofs.fields.length_in.Goals as goal

pub lines-preserved : goal.lines-preserved
lines-preserved c =
    let header = c.args.header.now in
    let start = c.lines.start in
    let ok : start ≤ length header = omega arith in
    next_lines c.lines.named c.after_line-named.result header start c.first_place.result (length_in header) ok
    c.first_place.ensures.within c.first_place.ensures.place c.after_line-named.ensures c.lines.invariant
