use Rattle.pc_documents.proofs.Cutting.{trim_is}
use Rattle.pc_documents.proofs.declarations.bare_line.Goals as goal

pub returns : goal.returns
returns c = trim_is c.args.line.now c.trim_ascii.result.now c.trim_ascii.ensures.value
