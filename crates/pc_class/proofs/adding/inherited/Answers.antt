use Rattle.std.proofs.Common.{ap, sym}
use Rattle.pc_class.specs.Parts.{inherited_node}
use Rattle.pc_class.proofs.adding.inherited.Goals as goal

pub returns-in-None : goal.returns-in-None
returns-in-None c = ap (inherited_node c.args.classes.now) (sym c.in-None.is)
