use Rattle.std.proofs.Common.{◌≡◌, ◌++◌, take, string_bytes}
use Rattle.std.specs.List.{flat_map}
use Rattle.pc_detail_texts.specs.Shown.{words}
use Rattle.pc_detail_texts.proofs.phrases.push_each_after.Given as goal

abbrev pub invariant-loop-part : goal.invariant-loop-part
invariant-loop-part l = string_bytes l.text ≡ string_bytes l.initial.text
    ++ flat_map (λ t. l.fn.between ++ words t) (take l.part-index l.parts)
