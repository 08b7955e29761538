-- The meaning of names to an owner, as the program holds it.
-- Language Reference 4.2.2 "Resolution of names".
use Rattle.std.specs.Prelude.{ℕ, List}
use Rattle.pc_scope.specs.declared.resolution.NameMeaning.{NameMeaning}
use Rattle.pc_scope.specs.Tables.{meaning_by_tables}
use Rattle.pc_flow.specs.declared.naming.OwnerNames.{OwnerNames}

-- the meaning of names to an owner, by the scopes of its module
unfoldable pub meanings : OwnerNames → List ℕ → NameMeaning
meanings names = meaning_by_tables names.scopes.now.tables names.owner
