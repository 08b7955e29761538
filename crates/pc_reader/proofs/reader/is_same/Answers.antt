use Rattle.std.proofs.Common.{◌∙◌}
use Rattle.pc_reader.proofs.SameKind.{equal_is_same}
use Rattle.pc_reader.proofs.reader.is_same.Goals as goal

pub returns : goal.returns
returns c = c.eq.ensures ∙ equal_is_same c.args.kind c.args.other
