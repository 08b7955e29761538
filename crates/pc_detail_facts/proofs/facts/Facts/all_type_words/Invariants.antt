use Rattle.std.proofs.Common.{◌≡◌, map, take}
use Rattle.pc_detail_texts.specs.Shown.{all_words}
use Rattle.pc_detail_facts.specs.Held.{text_held, trees_lent}
use Rattle.pc_detail_facts.proofs.facts.Facts.all_type_words.Given as goal

abbrev pub invariant-loop-ty : goal.invariant-loop-ty
invariant-loop-ty l = all_words l.texts.items ≡ map (text_held l.self) (trees_lent (take l.ty-index l.types))
