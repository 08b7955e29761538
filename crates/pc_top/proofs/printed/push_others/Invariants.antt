use Rattle.std.proofs.Common.{◌≡◌, ◌++◌, codes, string_bytes, take}
use Rattle.std.specs.List.{flat_map}
use Rattle.pc_top.specs.DetailedTexts.{position_text}
use Rattle.pc_top.proofs.printed.push_others.Given as goal

abbrev pub invariant-loop-place : goal.invariant-loop-place
invariant-loop-place l = string_bytes l.text ≡ string_bytes l.initial.text
    ++ flat_map (λ other. codes ", " ++ position_text other) (take l.place-index l.further)
