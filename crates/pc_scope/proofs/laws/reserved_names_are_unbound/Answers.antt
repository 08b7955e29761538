use Rattle.pc_scope.proofs.Unbound.{unbound}
use Rattle.pc_scope.proofs.laws.reserved_names_are_unbound.Goals as goal

pub returns : goal.returns
returns c = unbound
