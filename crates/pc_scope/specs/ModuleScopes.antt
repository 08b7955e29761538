-- The scopes of a module, as the contracts see them.
use Rattle.pc_tree.specs.Tree.{Module}
use Rattle.pc_scope.specs.Tables.{Tables, AreTables}

-- scopes as the tables of a module's names
pub record ModuleScopes : Type 0 where
  pub tables : Tables

-- the scopes are those of the module: their tables are those of the module's names
pub record AreScopes (m : Module) (s : ModuleScopes) : Type 0 where
  pub tables : AreTables m s.tables
