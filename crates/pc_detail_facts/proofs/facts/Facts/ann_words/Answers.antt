use Rattle.std.proofs.Common.{[]}
use Rattle.pc_tree.specs.Tree.{ann_of}
use Rattle.pc_detail_rules.specs.Written.{ann_text}
use Rattle.pc_detail_facts.proofs.facts.Facts.ann_words.Goals as goal

pub returns : goal.returns
returns c = c.to_words.ensures (ann_text (ann_of c.args.ann.now)) (c.push_ann.ensures [] c.new-text.ensures)
