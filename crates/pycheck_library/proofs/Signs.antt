-- The two signs of a refusal's code.
use Rattle.std.specs.Prelude.{◌≡◌, length}
use Rattle.pc_source.specs.Refusals.{code_text}
use Rattle.pc_source.specs.declared.fault.RefusalCode.{RefusalCode}
use Rattle.pc_source.specs.declared.fault.RefusalCode.TheVariants.{S1, S2, S3, S4, S5, L1, L2, L3, L4, L5, L6, L7, L8}
use Rattle.pc_source.specs.declared.fault.RefusalCode.TheVariants.{I1, I2, I3, N1, N2, N3, N4, N5, G1, G2}

-- the text of a code has two signs
pub two_signs : (code : RefusalCode) → length (code_text code) ≡ 2
two_signs S1 = λ _. 2
two_signs S2 = λ _. 2
two_signs S3 = λ _. 2
two_signs S4 = λ _. 2
two_signs S5 = λ _. 2
two_signs L1 = λ _. 2
two_signs L2 = λ _. 2
two_signs L3 = λ _. 2
two_signs L4 = λ _. 2
two_signs L5 = λ _. 2
two_signs L6 = λ _. 2
two_signs L7 = λ _. 2
two_signs L8 = λ _. 2
two_signs I1 = λ _. 2
two_signs I2 = λ _. 2
two_signs I3 = λ _. 2
two_signs N1 = λ _. 2
two_signs N2 = λ _. 2
two_signs N3 = λ _. 2
two_signs N4 = λ _. 2
two_signs N5 = λ _. 2
two_signs G1 = λ _. 2
two_signs G2 = λ _. 2
