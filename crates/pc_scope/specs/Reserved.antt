-- The names that a module may not bind, and the meaning of each.
-- Own rule of the profile; Language Reference 3.12, 4.2.2 "Resolution of names".
use Rattle.std.specs.Prelude.{ℕ, List, [], ◌∷◌, Bool, if◌then◌else◌, Option, Some, None, is_some, codes, bytes_eq}
use Rattle.pc_scope.specs.declared.resolution.Builtin.{Builtin}
use Rattle.pc_scope.specs.declared.resolution.Builtin.TheVariants as builtin

-- the reserved names, each with its built-in
abbrev pub reserved_builtins : List (List ℕ × Builtin)
reserved_builtins =
    (codes "Any", builtin.Any)
    ∷ (codes "annotations", builtin.Annotations)
    ∷ (codes "bool", builtin.Bool)
    ∷ (codes "dataclass", builtin.Dataclass)
    ∷ (codes "dict", builtin.Dict)
    ∷ (codes "int", builtin.Int)
    ∷ (codes "isinstance", builtin.IsInstance)
    ∷ (codes "len", builtin.Len)
    ∷ (codes "list", builtin.List)
    ∷ (codes "object", builtin.Object)
    ∷ (codes "print", builtin.Print)
    ∷ (codes "range", builtin.Range)
    ∷ (codes "str", builtin.Str)
    ∷ (codes "tuple", builtin.Tuple)
    ∷ []

-- the value beside a text in a list
abbrev pub beside : {A : Type 0} → List (List ℕ × A) → List ℕ → Option A
beside [] text = None
beside (entry ∷ rest) text = if bytes_eq entry.0 text then Some entry.1 else beside rest text

-- the built-in that a name means, if it is reserved
unfoldable pub builtin_of : List ℕ → Option Builtin
builtin_of text = beside reserved_builtins text

-- whether a text is a reserved name
abbrev pub is_builtin_name : List ℕ → Bool
is_builtin_name text = is_some (builtin_of text)
