use Rattle.std.proofs.Common.{◌∙◌, rules}
use denote.Enum.Bare.{sameb, same_true, true_same}
use Rattle.pc_tree.specs.contracts.code.Code.{the_type}
use Rattle.pc_rules.proofs.Once.{has_by}
use Rattle.pc_rules.proofs.label.has_code.Goals as goal

pub returns : goal.returns
returns c = c.contains.ensures.value ∙ has_by (sameb the_type) (same_true the_type (search rules)) (true_same the_type)
    c.args.codes.now c.args.code
