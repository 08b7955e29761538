use Rattle.std.proofs.Common.{◌≡◌, map, take}
use Rattle.pc_detail_texts.specs.Shortened.{shortened}
use Rattle.pc_detail_texts.specs.Shown.{all_words}
use Rattle.pc_type_details.proofs.given.all_words.Given as goal

abbrev pub invariant-loop-text : goal.invariant-loop-text
invariant-loop-text l = all_words l.kept.items ≡ map shortened (map (λ w. w.now) (take l.text-index l.texts))
