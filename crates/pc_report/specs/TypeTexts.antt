-- The listing of types as text and as JSON: compact, with the keys in order. Own rule of the profile; RFC 8259.
use Rattle.std.specs.Prelude.{ℕ, List, [], ◌∷◌, ◌++◌, Option, None, Some, codes, decimal}
use Rattle.std.specs.Rc.{rc_str_bytes}
use Rattle.std.specs.declared.rc.RcStr.{RcStr}
use Rattle.std.specs.declared.alloc.Global.{Global}
use Rattle.std.specs.List.{flat_map}
use Rattle.json.specs.Print.{quoted}
use Rattle.pc_report.specs.declared.listing.TypeKind.{TypeKind}
use Rattle.pc_report.specs.declared.listing.TypeKind.TheVariants.{Expression, Name}
use Rattle.pc_report.specs.declared.listing.TypeRow.{TypeRow}

-- ---- the text

-- the current type of a name, if it is another
abbrev pub current_text : Option (RcStr Global) → List ℕ
current_text None = []
current_text (Some t) = codes " = " ++ rc_str_bytes t

-- a row's start and end as lines and columns, and its type
abbrev pub type_row_text : TypeRow → List ℕ
type_row_text row = decimal row.line
    ++ (58 ∷ (decimal row.column
    ++ (45 ∷ (decimal row.end_line
    ++ (58 ∷ (decimal row.end_column
    ++ (32 ∷ (rc_str_bytes row.entry.text ++ current_text row.entry.current))))))))

-- a line for each row
abbrev pub types_text : List TypeRow → List ℕ
types_text rows = flat_map (λ row. type_row_text row ++ 10 ∷ []) rows

-- ---- the JSON

-- the word for the kind of a row: an expression or a name
abbrev pub kind_text : TypeKind → List ℕ
kind_text Expression = codes "expression"
kind_text Name = codes "name"

-- the current type of a name, if it is another
abbrev pub current_json : Option (RcStr Global) → List ℕ
current_json None = []
current_json (Some t) = codes ",\"current\":" ++ quoted (rc_str_bytes t)

-- a row as an object
abbrev pub type_row_json : TypeRow → List ℕ
type_row_json row = codes "{\"column\":"
    ++ (decimal row.column
    ++ (current_json row.entry.current ++ (codes ",\"end\":" ++ (decimal row.entry.place.end
    ++ (codes ",\"end_column\":" ++ (decimal row.end_column
    ++ (codes ",\"end_line\":" ++ (decimal row.end_line
    ++ (codes ",\"kind\":\"" ++ (kind_text row.entry.kind
    ++ (codes "\",\"line\":" ++ (decimal row.line
    ++ (codes ",\"start\":" ++ (decimal row.entry.place.start
    ++ (codes ",\"type\":" ++ (quoted (rc_str_bytes row.entry.text) ++ codes "}"))))))))))))))))

-- the rows as objects, separated by commas
abbrev pub type_rows_json : List TypeRow → List ℕ
type_rows_json [] = []
type_rows_json (row ∷ []) = type_row_json row
type_rows_json (row ∷ next ∷ rows) = type_row_json row ++ (44 ∷ type_rows_json (next ∷ rows))

-- the rows in brackets, in an object, and a line feed
abbrev pub types_json : List TypeRow → List ℕ
types_json rows = codes "{\"types\":[" ++ (type_rows_json rows ++ codes "]}\n")
