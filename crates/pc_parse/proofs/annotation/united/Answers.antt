use Rattle.pc_parse.proofs.Annotated.{unites}
use Rattle.pc_parse.proofs.annotation.united.Goals as goal

pub returns : goal.returns
returns c = λ anns k. unites c.args.parts c.args.place anns k
