-- The rows of a listing of types as objects, one after another.
use Rattle.std.proofs.Common.{◌≡◌, ℕ, List, [], ◌∷◌, ◌++◌, sym, ap, append-nil}
use Rattle.std.specs.List.{flat_map}
use Rattle.pc_report.specs.declared.listing.TypeRow.{TypeRow}
use Rattle.pc_report.specs.TypeTexts.{type_row_json, type_rows_json}

-- all rows but the first have a comma before them
pub rows_later : (row : TypeRow) (rows : List TypeRow)
    → type_rows_json (row ∷ rows) ≡ type_row_json row ++ flat_map (λ (r : TypeRow). 44 ∷ type_row_json r) rows
rows_later row [] = sym (append-nil (type_row_json row))
rows_later row (next ∷ rows) = ap (λ (l : List ℕ). type_row_json row ++ (44 ∷ l)) (rows_later next rows)
