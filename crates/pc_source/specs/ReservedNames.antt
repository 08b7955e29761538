-- Reserved names, which nothing may bind. Own rule of the profile.
use Rattle.std.specs.Prelude.{ℕ, Bool, List, [], ◌∷◌, codes, bytes_eq}
use Rattle.std.specs.List.{list_any}

-- the reserved names
abbrev pub reserved_names : List (List ℕ)
reserved_names =
    codes "Any" ∷ codes "annotations" ∷ codes "bool" ∷ codes "dataclass" ∷ codes "dict" ∷ codes "int"
    ∷ codes "isinstance"
    ∷ codes "len" ∷ codes "list" ∷ codes "object" ∷ codes "print" ∷ codes "range" ∷ codes "str" ∷ codes "tuple" ∷ []

-- the text is a reserved name
abbrev pub is_reserved : List ℕ → Bool
is_reserved text = list_any (λ name. bytes_eq text name) reserved_names
