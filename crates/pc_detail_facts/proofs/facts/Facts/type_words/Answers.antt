use Rattle.std.proofs.Common.{[]}
use Rattle.pc_types.specs.Boxed.{tree_of}
use Rattle.pc_annotations.specs.Text.{type_text}
use Rattle.pc_detail_facts.specs.Held.{module_held}
use Rattle.pc_detail_facts.proofs.facts.Facts.type_words.Goals as goal

pub returns : goal.returns
returns c =
    let m = module_held c.args.self.now in
    c.to_words.ensures (type_text m (tree_of c.args.ty.now)) (c.push_type.ensures m [] c.requires c.new-text.ensures)
