-- The codes of findings: how a report prints them, and which of them are errors. Own rule of the profile.
use Rattle.std.specs.Prelude.{ℕ, List, codes, Bool, true, false, IsTrue, map}
use Rattle.pc_source.specs.declared.place.Place.{Place}
use Rattle.pc_tree.specs.declared.code.Code.{Code}
use Rattle.pc_tree.specs.declared.code.Code.TheVariants.{A1, A2, A3, A4, A5, A6, A7, A8, E01, E02, E03, E04, E05, E06}
use Rattle.pc_tree.specs.declared.code.Code.TheVariants.{E07, E08, E09, E10, E11, E12, E13, E14, E15, E16, E17, E18}
use Rattle.pc_tree.specs.declared.code.Code.TheVariants.{E19, E20, E21, E22, E23, E24, E25, E26, E27, E28, E29, E30}
use Rattle.pc_tree.specs.declared.code.Code.TheVariants.{E31}
use Rattle.pc_tree.specs.declared.code.Finding.{Finding}

-- the code as a report prints it
abbrev pub text_of : Code → List ℕ
text_of A1 = codes "A1"
text_of A2 = codes "A2"
text_of A3 = codes "A3"
text_of A4 = codes "A4"
text_of A5 = codes "A5"
text_of A6 = codes "A6"
text_of A7 = codes "A7"
text_of A8 = codes "A8"
text_of E01 = codes "E01"
text_of E02 = codes "E02"
text_of E03 = codes "E03"
text_of E04 = codes "E04"
text_of E05 = codes "E05"
text_of E06 = codes "E06"
text_of E07 = codes "E07"
text_of E08 = codes "E08"
text_of E09 = codes "E09"
text_of E10 = codes "E10"
text_of E11 = codes "E11"
text_of E12 = codes "E12"
text_of E13 = codes "E13"
text_of E14 = codes "E14"
text_of E15 = codes "E15"
text_of E16 = codes "E16"
text_of E17 = codes "E17"
text_of E18 = codes "E18"
text_of E19 = codes "E19"
text_of E20 = codes "E20"
text_of E21 = codes "E21"
text_of E22 = codes "E22"
text_of E23 = codes "E23"
text_of E24 = codes "E24"
text_of E25 = codes "E25"
text_of E26 = codes "E26"
text_of E27 = codes "E27"
text_of E28 = codes "E28"
text_of E29 = codes "E29"
text_of E30 = codes "E30"
text_of E31 = codes "E31"

-- the word for the code in a report
abbrev pub label_of : Code → List ℕ
label_of A1 = codes "any-flow"
label_of A2 = codes "any-operator"
label_of A3 = codes "any-index"
label_of A4 = codes "any-attribute"
label_of A5 = codes "any-iterate"
label_of A6 = codes "any-call"
label_of A7 = codes "any-list"
label_of A8 = codes "any-override"
label_of E01 = codes "twice"
label_of E02 = codes "unknown-name"
label_of E03 = codes "order"
label_of E04 = codes "unassigned"
label_of E05 = codes "outside-loop"
label_of E06 = codes "member"
label_of E07 = codes "base"
label_of E08 = codes "field-order"
label_of E09 = codes "annotation"
label_of E10 = codes "union"
label_of E11 = codes "override"
label_of E12 = codes "flow"
label_of E13 = codes "operator"
label_of E14 = codes "call"
label_of E15 = codes "attribute"
label_of E16 = codes "index"
label_of E17 = codes "store"
label_of E18 = codes "iterate"
label_of E19 = codes "contain"
label_of E20 = codes "not-a-value"
label_of E21 = codes "no-return"
label_of E22 = codes "keys"
label_of E23 = codes "method-store"
label_of E24 = codes "late-annotation"
label_of E25 = codes "isinstance"
label_of E26 = codes "size"
label_of E27 = codes "builtin"
label_of E28 = codes "main"
label_of E29 = codes "reserved"
label_of E30 = codes "unreachable"
label_of E31 = codes "default-order"

-- whether the code is an error's: those with `E` are, those with `A` are not
abbrev pub is_error : Code → Bool
is_error A1 = false
is_error A2 = false
is_error A3 = false
is_error A4 = false
is_error A5 = false
is_error A6 = false
is_error A7 = false
is_error A8 = false
is_error E01 = true
is_error E02 = true
is_error E03 = true
is_error E04 = true
is_error E05 = true
is_error E06 = true
is_error E07 = true
is_error E08 = true
is_error E09 = true
is_error E10 = true
is_error E11 = true
is_error E12 = true
is_error E13 = true
is_error E14 = true
is_error E15 = true
is_error E16 = true
is_error E17 = true
is_error E18 = true
is_error E19 = true
is_error E20 = true
is_error E21 = true
is_error E22 = true
is_error E23 = true
is_error E24 = true
is_error E25 = true
is_error E26 = true
is_error E27 = true
is_error E28 = true
is_error E29 = true
is_error E30 = true
is_error E31 = true

-- the code is an error's; the other codes mark dynamic places
abbrev pub IsError : Code → Type 0
IsError code = IsTrue (is_error code)

-- a finding: a code at a place
abbrev pub finding : Place → Code → Finding
finding place code = record { place = place; code = code }

-- a finding with this code at each of these places
abbrev pub at_code : Code → List Place → List Finding
at_code c places = map (λ p. finding p c) places
