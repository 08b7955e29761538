use Rattle.pc_scope.proofs.Meanings.{means}
use Rattle.pc_scope.proofs.laws.tables_resolve_names.Goals as goal

pub returns : goal.returns
returns c = λ m s are owner name. means m s.tables are.tables owner name
