use Rattle.pc_parse.proofs.Annotated.{applies}
use Rattle.pc_parse.proofs.annotation.applied.Goals as goal

pub returns : goal.returns
returns c = λ anns k. applies c.args.arguments c.args.head c.args.place anns k
