use Rattle.std.proofs.Common.{Some, ap}
use Rattle.pc_tree.specs.Tree.{name_of}
use Rattle.pc_detail_texts.specs.Details.{Detail}
use Rattle.pc_detail_texts.specs.Sentences.{Words}
use Rattle.pc_detail_facts.specs.Held.{module_held}
use Rattle.pc_name_details.proofs.UseSteps.{not_name, unknown_none, unknown_shown}
use Rattle.pc_name_details.proofs.uses.unknown_detail.Goals as goal

pub returns-in_default : goal.returns-in_default
returns-in_default c = unknown_none c.args.facts.now (module_held c.args.facts.now) c.args.owned.owner _
    (not_name c.args.owned.expr.now c.in_default.not-Name)

pub returns : goal.returns
returns c = rw c.in-Name.is (ap (λ (d : Detail Words). Some d) (unknown_shown (module_held c.args.facts.now)
    c.args.owned.owner (name_of c.in-Name.name) _ c.as_str-word.result.now _ c.in_ok-words.ensures c.as_str-word.ensures.value
    c.in_ok-elsewhere.ensures))
