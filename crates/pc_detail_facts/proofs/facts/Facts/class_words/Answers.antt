use Rattle.std.proofs.Common.{◌∙◌, ap}
use Rattle.pc_detail_texts.specs.Shortened.{shortened}
use Rattle.pc_detail_facts.specs.Held.{module_held}
use Rattle.pc_detail_facts.proofs.Results.{if_ok}
use Rattle.pc_detail_facts.proofs.facts.Facts.class_words.Goals as goal

pub returns : goal.returns
returns c = if_ok c.words.result (λ t e. e ∙ ap shortened (c.class_name.ensures (module_held c.args.self.now) c.requires))
    c.words.ensures
