-- The entry of each code on the page that explains the codes: the anchor of its heading in docs/CODES.md. Own rule of the
-- server.
use Rattle.std.specs.Prelude.{ℕ, List, ◌++◌, map, codes, Option, None, Some}
use Rattle.std.specs.Char.{to_ascii_lowercase}
use Rattle.pc_source.specs.declared.fault.RefusalCode.{RefusalCode}
use Rattle.pc_source.specs.declared.fault.RefusalCode.TheVariants.{S1, S2, S3, S4, S5, L1, L2, L3, L4, L5, L6, L7, L8}
use Rattle.pc_source.specs.declared.fault.RefusalCode.TheVariants.{I1, I2, I3, N1, N2, N3, N4, N5, G1, G2}
use Rattle.pc_tree.specs.declared.code.Code.{Code}
use Rattle.pc_tree.specs.Code.{text_of, label_of}

-- the anchor of a finding's code: the code in small letters, a hyphen, and its label
abbrev pub anchor_of : Code → List ℕ
anchor_of code = map to_ascii_lowercase (text_of code) ++ (codes "-" ++ label_of code)

-- the anchor of a refusal's code: the code and its title, in small letters, with hyphens for spaces
abbrev pub refusal_anchor_of : RefusalCode → List ℕ
refusal_anchor_of S1 = codes "s1-too-long"
refusal_anchor_of S2 = codes "s2-not-utf-8"
refusal_anchor_of S3 = codes "s3-byte-order-mark"
refusal_anchor_of S4 = codes "s4-control-character"
refusal_anchor_of S5 = codes "s5-other-coding"
refusal_anchor_of L1 = codes "l1-stray-character"
refusal_anchor_of L2 = codes "l2-bad-string"
refusal_anchor_of L3 = codes "l3-bad-number"
refusal_anchor_of L4 = codes "l4-bad-name"
refusal_anchor_of L5 = codes "l5-unmatched-bracket"
refusal_anchor_of L6 = codes "l6-too-many-brackets"
refusal_anchor_of L7 = codes "l7-tab-in-the-indentation"
refusal_anchor_of L8 = codes "l8-number-too-long"
refusal_anchor_of I1 = codes "i1-unmatched-indentation"
refusal_anchor_of I2 = codes "i2-unexpected-indentation"
refusal_anchor_of I3 = codes "i3-too-many-suites"
refusal_anchor_of N1 = codes "n1-excluded-keyword"
refusal_anchor_of N2 = codes "n2-excluded-operator"
refusal_anchor_of N3 = codes "n3-nested-function"
refusal_anchor_of N4 = codes "n4-nested-class"
refusal_anchor_of N5 = codes "n5-other-decorator"
refusal_anchor_of G1 = codes "g1-no-module"
refusal_anchor_of G2 = codes "g2-too-deep"

-- the address of an anchor on the page, if there is a page
abbrev pub entry_at : Option (List ℕ) → List ℕ → Option (List ℕ)
entry_at None anchor = None
entry_at (Some page) anchor = Some (page ++ (codes "#" ++ anchor))
