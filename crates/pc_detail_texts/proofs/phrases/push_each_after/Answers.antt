use Rattle.std.proofs.Common.{◌≡◌, ◌++◌, take, string_bytes, arith, ap, ◌∙◌}
use Rattle.std.proofs.lemmas.List.{take_all}
use Rattle.std.specs.List.{flat_map}
use Rattle.std.specs.declared.rc.RcStr.{RcStr}
use Rattle.std.specs.declared.alloc.Global.{Global}
use Rattle.std.proofs.Common.{List}
use Rattle.pc_detail_texts.specs.Sentences.{Words}
use Rattle.pc_detail_texts.specs.Shown.{words}
use Rattle.pc_detail_texts.proofs.Joined.{each_of}
use Rattle.pc_detail_texts.proofs.phrases.push_each_after.Goals as goal

pub returns : goal.returns
returns c =
    let old : Words = string_bytes c.args.text.now in
    let between : Words = c.args.between.now in
    let parts : List (RcStr Global) = c.args.parts.now in
    let all : take c.loop-part.part-index parts ≡ parts = take_all c.loop-part.part-index parts (omega arith) in
    c.loop-part.invariant ∙ ap (λ (ts : List (RcStr Global)). old ++ flat_map (λ t. between ++ words t) ts) all
    ∙ ap (λ (x : Words). old ++ x) (each_of between parts)
