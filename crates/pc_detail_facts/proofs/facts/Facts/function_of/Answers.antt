use Rattle.pc_detail_facts.specs.Held.{module_held}
use Rattle.pc_detail_facts.proofs.facts.Facts.function_of.Goals as goal

pub returns : goal.returns
returns c = c.method.ensures (module_held c.args.self.now) c.requires.annotations
