-- Annotations of names, as the program reads them.
-- Own rule of the profile.
use Rattle.std.specs.Prelude.{List, Option, Some, None, slice_index_or}
use Rattle.pc_scope.specs.declared.resolution.NameMeaning.{NameMeaning}
use Rattle.pc_scope.specs.declared.resolution.NameMeaning.TheVariants as meaning
use Rattle.pc_types.specs.Tree.{Tree}
use Rattle.pc_module_rules.specs.Computed.Statements.{with_declared}

-- an annotation, ignored if its name is bound already
abbrev pub annotation_unless : (bound : Option Tree) → Tree → Option Tree
annotation_unless (Some d) t = None
annotation_unless None t = Some t

-- declared types with that of the local that a name means, unless its annotation is ignored
abbrev pub declared_by : {A : Type 0} → List (Option A) → NameMeaning → Option A → List (Option A)
declared_by types (meaning.Local x) (Some t) = with_declared (slice_index_or types x None) types x t
declared_by types r t = types
