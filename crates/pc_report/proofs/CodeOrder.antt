-- The codes are in the order of their texts, and no two codes have the same text.
use Rattle.std.proofs.Common.{◌≡◌}
use Rattle.std.proofs.Common.{refl, ap, sym, ◌∙◌, Equal}
use Rattle.std.specs.Prelude.{Some}
use Rattle.std.specs.Ordering.{nat_cmp}
use Rattle.std.specs.Cmp.Lexicographic.{slice_cmp}
use Rattle.std.proofs.lemmas.Map.Lookups.{exact_bytes}
use Rattle.pc_tree.specs.declared.code.Code.{Code}
use Rattle.pc_tree.specs.declared.code.Code.TheVariants.{A1, A2, A3, A4, A5, A6, A7, A8, E01, E02, E03, E04, E05, E06}
use Rattle.pc_tree.specs.declared.code.Code.TheVariants.{E07, E08, E09, E10, E11, E12, E13, E14, E15, E16, E17, E18}
use Rattle.pc_tree.specs.declared.code.Code.TheVariants.{E19, E20, E21, E22, E23, E24, E25, E26, E27, E28, E29, E30}
use Rattle.pc_tree.specs.declared.code.Code.TheVariants.{E31}
use Rattle.pc_tree.specs.Code.{text_of}
use Rattle.pc_report.specs.ReadBack.{code_of}
use Rattle.pc_tree.specs.contracts.code.CodeOrd.TheImpl.{cmp-value}

-- case by case
pub in_text_order : (c d : Code) → cmp-value.it c d ≡ slice_cmp nat_cmp (text_of c) (text_of d)
in_text_order A1 A1 = refl
in_text_order A1 _ = refl
in_text_order A2 A1 = refl
in_text_order A2 _ = refl
in_text_order A3 A1 = refl
in_text_order A3 _ = refl
in_text_order A4 A1 = refl
in_text_order A4 _ = refl
in_text_order A5 A1 = refl
in_text_order A5 _ = refl
in_text_order A6 A1 = refl
in_text_order A6 _ = refl
in_text_order A7 A1 = refl
in_text_order A7 _ = refl
in_text_order A8 A1 = refl
in_text_order A8 _ = refl
in_text_order E01 A1 = refl
in_text_order E01 _ = refl
in_text_order E02 A1 = refl
in_text_order E02 _ = refl
in_text_order E03 A1 = refl
in_text_order E03 _ = refl
in_text_order E04 A1 = refl
in_text_order E04 _ = refl
in_text_order E05 A1 = refl
in_text_order E05 _ = refl
in_text_order E06 A1 = refl
in_text_order E06 _ = refl
in_text_order E07 A1 = refl
in_text_order E07 _ = refl
in_text_order E08 A1 = refl
in_text_order E08 _ = refl
in_text_order E09 A1 = refl
in_text_order E09 _ = refl
in_text_order E10 A1 = refl
in_text_order E10 _ = refl
in_text_order E11 A1 = refl
in_text_order E11 _ = refl
in_text_order E12 A1 = refl
in_text_order E12 _ = refl
in_text_order E13 A1 = refl
in_text_order E13 _ = refl
in_text_order E14 A1 = refl
in_text_order E14 _ = refl
in_text_order E15 A1 = refl
in_text_order E15 _ = refl
in_text_order E16 A1 = refl
in_text_order E16 _ = refl
in_text_order E17 A1 = refl
in_text_order E17 _ = refl
in_text_order E18 A1 = refl
in_text_order E18 _ = refl
in_text_order E19 A1 = refl
in_text_order E19 _ = refl
in_text_order E20 A1 = refl
in_text_order E20 _ = refl
in_text_order E21 A1 = refl
in_text_order E21 _ = refl
in_text_order E22 A1 = refl
in_text_order E22 _ = refl
in_text_order E23 A1 = refl
in_text_order E23 _ = refl
in_text_order E24 A1 = refl
in_text_order E24 _ = refl
in_text_order E25 A1 = refl
in_text_order E25 _ = refl
in_text_order E26 A1 = refl
in_text_order E26 _ = refl
in_text_order E27 A1 = refl
in_text_order E27 _ = refl
in_text_order E28 A1 = refl
in_text_order E28 _ = refl
in_text_order E29 A1 = refl
in_text_order E29 _ = refl
in_text_order E30 A1 = refl
in_text_order E30 _ = refl
in_text_order E31 A1 = refl
in_text_order E31 _ = refl

-- the code is found again
pub code_again : (c : Code) → code_of (text_of c) ≡ Some c
code_again A1 = refl
code_again _ = refl

some_same : (c d : Code) → Some c ≡ Some d → c ≡ d
some_same c d e = cc

pub one_text : (c d : Code) → text_of c ≡ text_of d → c ≡ d
one_text c d e = some_same c d (sym (code_again c) ∙ (ap code_of e ∙ code_again d))

pub equal_code : (c d : Code) → slice_cmp nat_cmp (text_of c) (text_of d) ≡ Equal → c ≡ d
equal_code c d h = one_text c d (exact_bytes (text_of c) (text_of d) h)
