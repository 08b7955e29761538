-- A code is told by its text.
use Rattle.std.proofs.Common.{◌≡◌, ◌∙◌, List, [], ◌∷◌, refl, sym, ap}
use Rattle.std.specs.Prelude.{ℕ, Bool as Test, true, false, unwrap_or, find, bytes_eq}
use Rattle.std.proofs.lemmas.Slice.Eq.{bytes_eq-Decides}
use Rattle.pc_tree.specs.declared.code.Code.{Code}
use Rattle.pc_tree.specs.declared.code.Code.TheVariants.{A1, A2, A3, A4, A5, A6, A7, A8, E01, E02, E03, E04, E05, E06}
use Rattle.pc_tree.specs.declared.code.Code.TheVariants.{E07, E08, E09, E10, E11, E12, E13, E14, E15, E16, E17, E18}
use Rattle.pc_tree.specs.declared.code.Code.TheVariants.{E19, E20, E21, E22, E23, E24, E25, E26, E27, E28, E29, E30}
use Rattle.pc_tree.specs.declared.code.Code.TheVariants.{E31}
use Rattle.pc_tree.specs.Code.{text_of}
use Rattle.pc_notes.specs.Notes.{is_same_code}

all_codes : List Code
all_codes =
    A1 ∷ A2 ∷ A3 ∷ A4 ∷ A5 ∷ A6 ∷ A7 ∷ A8 ∷ E01 ∷ E02 ∷ E03 ∷ E04 ∷ E05 ∷ E06 ∷ E07 ∷ E08 ∷ E09 ∷ E10 ∷ E11 ∷ E12 ∷ E13
    ∷ E14 ∷ E15 ∷ E16 ∷ E17 ∷ E18 ∷ E19 ∷ E20 ∷ E21 ∷ E22 ∷ E23 ∷ E24 ∷ E25 ∷ E26 ∷ E27 ∷ E28 ∷ E29 ∷ E30 ∷ E31 ∷ []

-- the first code of a text
code_of : List ℕ → Code
code_of t = unwrap_or (find (λ c. bytes_eq t (text_of c)) all_codes) A1

of_its_text : (c : Code) → code_of (text_of c) ≡ c
unfolding code_of all_codes
of_its_text A1 = refl
of_its_text _ = refl

pub text_one : (c d : Code) → bytes_eq (text_of c) (text_of d) ≡ true → c ≡ d
text_one c d e = sym (of_its_text c) ∙ ap code_of ((bytes_eq-Decides (text_of c) (text_of d)).0 e) ∙ of_its_text d

pub text_same : (c d : Code) → c ≡ d → bytes_eq (text_of c) (text_of d) ≡ true
text_same c d e = (bytes_eq-Decides (text_of c) (text_of d)).1 (ap text_of e)

pub same_test : (a b : Test) → (a ≡ true → b ≡ true) → (b ≡ true → a ≡ true) → a ≡ b
same_test true b f g = sym (f refl)
same_test false true f g = g refl
same_test false false f g = refl

-- any test of equal codes is the test of their texts
pub same_by : (same : Code → Code → Test) → ((c d : Code) → same c d ≡ true → c ≡ d)
    → ((c d : Code) → c ≡ d → same c d ≡ true) → (c d : Code) → same c d ≡ is_same_code c d
same_by same one other c d = same_test (same c d) (is_same_code c d) (λ e. text_same c d (one c d e))
    (λ e. other c d (text_one c d e))
