-- The findings read back from a JSON value. Own rule of the profile.
use Rattle.std.specs.Prelude.{ℕ, List, [], ◌∷◌, Option, None, Some, option_map, option_and_then, codes, bytes_eq}
use Rattle.std.specs.Prelude.{if◌then◌else◌}
use Rattle.serde_json.specs.Data.{Data, Items, no_items, item}
use Rattle.serde_json.specs.Find.{get, as_number, as_u64, as_str, as_array}
use Rattle.pc_tree.specs.declared.code.Code.{Code}
use Rattle.pc_tree.specs.declared.code.Code.TheVariants.{A1, A2, A3, A4, A5, A6, A7, A8, E01, E02, E03, E04, E05, E06}
use Rattle.pc_tree.specs.declared.code.Code.TheVariants.{E07, E08, E09, E10, E11, E12, E13, E14, E15, E16, E17, E18}
use Rattle.pc_tree.specs.declared.code.Code.TheVariants.{E19, E20, E21, E22, E23, E24, E25, E26, E27, E28, E29, E30}
use Rattle.pc_tree.specs.declared.code.Code.TheVariants.{E31}
use Rattle.pc_tree.specs.declared.code.Finding.{Finding}
use Rattle.pc_tree.specs.Code.{finding}

-- the code with this text
abbrev pub code_of : List ℕ → Option Code
code_of text =
    if bytes_eq text (codes "A1") then Some A1 else (
    if bytes_eq text (codes "A2") then Some A2 else (
    if bytes_eq text (codes "A3") then Some A3 else (
    if bytes_eq text (codes "A4") then Some A4 else (
    if bytes_eq text (codes "A5") then Some A5 else (
    if bytes_eq text (codes "A6") then Some A6 else (
    if bytes_eq text (codes "A7") then Some A7 else (
    if bytes_eq text (codes "A8") then Some A8 else (
    if bytes_eq text (codes "E01") then Some E01 else (
    if bytes_eq text (codes "E02") then Some E02 else (
    if bytes_eq text (codes "E03") then Some E03 else (
    if bytes_eq text (codes "E04") then Some E04 else (
    if bytes_eq text (codes "E05") then Some E05 else (
    if bytes_eq text (codes "E06") then Some E06 else (
    if bytes_eq text (codes "E07") then Some E07 else (
    if bytes_eq text (codes "E08") then Some E08 else (
    if bytes_eq text (codes "E09") then Some E09 else (
    if bytes_eq text (codes "E10") then Some E10 else (
    if bytes_eq text (codes "E11") then Some E11 else (
    if bytes_eq text (codes "E12") then Some E12 else (
    if bytes_eq text (codes "E13") then Some E13 else (
    if bytes_eq text (codes "E14") then Some E14 else (
    if bytes_eq text (codes "E15") then Some E15 else (
    if bytes_eq text (codes "E16") then Some E16 else (
    if bytes_eq text (codes "E17") then Some E17 else (
    if bytes_eq text (codes "E18") then Some E18 else (
    if bytes_eq text (codes "E19") then Some E19 else (
    if bytes_eq text (codes "E20") then Some E20 else (
    if bytes_eq text (codes "E21") then Some E21 else (
    if bytes_eq text (codes "E22") then Some E22 else (
    if bytes_eq text (codes "E23") then Some E23 else (
    if bytes_eq text (codes "E24") then Some E24 else (
    if bytes_eq text (codes "E25") then Some E25 else (
    if bytes_eq text (codes "E26") then Some E26 else (
    if bytes_eq text (codes "E27") then Some E27 else (
    if bytes_eq text (codes "E28") then Some E28 else (
    if bytes_eq text (codes "E29") then Some E29 else (
    if bytes_eq text (codes "E30") then Some E30 else (
    if bytes_eq text (codes "E31") then Some E31 else (
    None)))))))))))))))))))))))))))))))))))))))

-- the number in the member of this name
abbrev pub member_number : List ℕ → Data → Option ℕ
member_number name d = option_and_then as_u64 (option_and_then as_number (get name d))

-- the finding read from an object, by its start, its end and its code
abbrev pub finding_in : Data → Option Finding
finding_in d = option_and_then
    (λ start. option_and_then
    (λ end. option_map (λ code. finding (record { start = start; end = end }) code)
    (option_and_then code_of (option_and_then as_str (get (codes "code") d))))
    (member_number (codes "end") d)) (member_number (codes "start") d)

-- the findings read from the items, in order
abbrev pub findings_of_items : Items → Option (List Finding)
findings_of_items no_items = Some []
findings_of_items (item d ds) = option_and_then (λ f. option_map (λ fs. f ∷ fs) (findings_of_items ds)) (finding_in d)

-- the findings read from a report
abbrev pub findings_in : Data → Option (List Finding)
findings_in d = option_and_then findings_of_items (option_and_then as_array (get (codes "findings") d))
