-- The codes of refusals as texts. Own rule of the profile.
use Rattle.std.specs.Prelude.{ℕ, List, codes}
use Rattle.pc_source.specs.declared.fault.RefusalCode.{RefusalCode}
use Rattle.pc_source.specs.declared.fault.RefusalCode.TheVariants.{S1, S2, S3, S4, S5, L1, L2, L3, L4, L5, L6, L7, L8}
use Rattle.pc_source.specs.declared.fault.RefusalCode.TheVariants.{I1, I2, I3, N1, N2, N3, N4, N5, G1, G2}

-- the code as it is printed
abbrev pub code_text : RefusalCode → List ℕ
code_text S1 = codes "S1"
code_text S2 = codes "S2"
code_text S3 = codes "S3"
code_text S4 = codes "S4"
code_text S5 = codes "S5"
code_text L1 = codes "L1"
code_text L2 = codes "L2"
code_text L3 = codes "L3"
code_text L4 = codes "L4"
code_text L5 = codes "L5"
code_text L6 = codes "L6"
code_text L7 = codes "L7"
code_text L8 = codes "L8"
code_text I1 = codes "I1"
code_text I2 = codes "I2"
code_text I3 = codes "I3"
code_text N1 = codes "N1"
code_text N2 = codes "N2"
code_text N3 = codes "N3"
code_text N4 = codes "N4"
code_text N5 = codes "N5"
code_text G1 = codes "G1"
code_text G2 = codes "G2"
